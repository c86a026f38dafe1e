use Rattle.uw_intent.proofs.Commits.{keeps_others}
use Rattle.uw_intent.proofs.laws.unopened_commit_changes_the_record_only.Goals as goal

pub returns : goal.returns
returns c = keeps_others
