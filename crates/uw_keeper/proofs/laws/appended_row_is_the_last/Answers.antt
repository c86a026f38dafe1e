use Rattle.uw_keeper.proofs.RowsLemmas.{last_of_rows-append}
use Rattle.uw_keeper.proofs.laws.appended_row_is_the_last.Goals as goal

pub returns : goal.returns
returns c = last_of_rows-append
