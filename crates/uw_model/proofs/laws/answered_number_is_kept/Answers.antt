use Rattle.uw_model.proofs.MathLemmas.{answered_kept}
use Rattle.uw_model.proofs.laws.answered_number_is_kept.Goals as goal

pub returns : goal.returns
returns c = answered_kept
