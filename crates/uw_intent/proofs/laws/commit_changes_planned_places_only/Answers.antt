use Rattle.uw_intent.proofs.Commits.{changes_planned}
use Rattle.uw_intent.proofs.laws.commit_changes_planned_places_only.Goals as goal

pub returns : goal.returns
returns c = changes_planned
