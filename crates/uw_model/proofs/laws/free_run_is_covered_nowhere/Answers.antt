use Rattle.uw_model.proofs.LawLemmas.{free_covered}
use Rattle.uw_model.proofs.laws.free_run_is_covered_nowhere.Goals as goal

pub returns : goal.returns
returns c = free_covered
