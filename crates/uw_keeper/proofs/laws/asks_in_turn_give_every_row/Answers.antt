use Rattle.uw_keeper.proofs.RowsLemmas.{in_turn-rows}
use Rattle.uw_keeper.proofs.laws.asks_in_turn_give_every_row.Goals as goal

pub returns : goal.returns
returns c = in_turn-rows
