use Rattle.uw_intent.proofs.Commits.{closes}
use Rattle.uw_intent.proofs.laws.whole_commit_closes_the_gate.Goals as goal

pub returns : goal.returns
returns c = closes
