use Rattle.uw_intent.proofs.Recoveries.{all_intact}
use Rattle.uw_intent.proofs.laws.recovery_keeps_words_intact.Goals as goal

pub returns : goal.returns
returns c = all_intact
