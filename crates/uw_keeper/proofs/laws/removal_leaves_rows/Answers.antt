use Rattle.uw_keeper.proofs.RowsLemmas.{AreRows-without}
use Rattle.uw_keeper.proofs.laws.removal_leaves_rows.Goals as goal

pub returns : goal.returns
returns c = AreRows-without
