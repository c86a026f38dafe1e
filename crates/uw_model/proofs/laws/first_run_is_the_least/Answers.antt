use Rattle.uw_model.proofs.LawLemmas.{least_run}
use Rattle.uw_model.proofs.laws.first_run_is_the_least.Goals as goal

pub returns : goal.returns
returns c = least_run
