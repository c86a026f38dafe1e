use Rattle.uw_keeper.proofs.RowsLemmas.{without_row-later}
use Rattle.uw_keeper.proofs.laws.removal_leaves_the_later_rows.Goals as goal

pub returns : goal.returns
returns c = without_row-later
