use Rattle.uw_intent.proofs.Commits.{stands_old}
use Rattle.uw_intent.proofs.laws.unopened_commit_stands_for_old_words.Goals as goal

pub returns : goal.returns
returns c = stands_old
