use Rattle.uw_intent.proofs.Commits.{stands_new}
use Rattle.uw_intent.proofs.laws.opened_commit_stands_for_planned_words.Goals as goal

pub returns : goal.returns
returns c = stands_new
