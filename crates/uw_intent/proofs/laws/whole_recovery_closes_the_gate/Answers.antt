use Rattle.uw_intent.proofs.Recoveries.{all_closed}
use Rattle.uw_intent.proofs.laws.whole_recovery_closes_the_gate.Goals as goal

pub returns : goal.returns
returns c = all_closed
