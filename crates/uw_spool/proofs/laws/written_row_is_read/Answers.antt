use Rattle.uw_spool.proofs.LawLemmas.{written-read}
use Rattle.uw_spool.proofs.laws.written_row_is_read.Goals as goal

pub returns : goal.returns
returns c = written-read
