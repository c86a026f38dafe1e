use Rattle.uw_spool.proofs.LawLemmas.{done_alone, one_of_three}
use Rattle.uw_spool.proofs.laws.status_counts_as_one_of_three.Goals as goal

pub returns-clause-three : goal.returns-clause-three
returns-clause-three c = one_of_three

pub returns-clause-done : goal.returns-clause-done
returns-clause-done c = done_alone
