use Rattle.uw_keeper.proofs.RowsLemmas.{AreRows-append}
use Rattle.uw_keeper.proofs.laws.appended_row_leaves_rows.Goals as goal

pub returns : goal.returns
returns c = AreRows-append
