use Rattle.uw_intent.proofs.Commits.{keeps_intact}
use Rattle.uw_intent.proofs.laws.commit_keeps_words_intact.Goals as goal

pub returns : goal.returns
returns c = keeps_intact
