use Rattle.uw_keeper.proofs.RowsLemmas.{without_row-others}
use Rattle.uw_keeper.proofs.laws.removal_leaves_the_others.Goals as goal

pub returns : goal.returns
returns c = without_row-others
