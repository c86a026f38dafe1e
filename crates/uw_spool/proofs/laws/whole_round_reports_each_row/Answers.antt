use Rattle.uw_spool.proofs.LawLemmas.{reports-each}
use Rattle.uw_spool.proofs.laws.whole_round_reports_each_row.Goals as goal

pub returns : goal.returns
returns c = reports-each
