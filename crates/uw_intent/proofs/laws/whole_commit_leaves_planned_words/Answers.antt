use Rattle.uw_intent.proofs.Commits.{leaves_planned}
use Rattle.uw_intent.proofs.laws.whole_commit_leaves_planned_words.Goals as goal

pub returns : goal.returns
returns c = leaves_planned
