use Rattle.uw_keeper.proofs.RowsLemmas.{without_row-gone}
use Rattle.uw_keeper.proofs.laws.removed_row_is_gone.Goals as goal

pub returns : goal.returns
returns c = λ rows number. without_row-gone number rows
