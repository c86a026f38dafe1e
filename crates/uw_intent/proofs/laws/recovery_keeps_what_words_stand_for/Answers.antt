use Rattle.uw_intent.proofs.Recoveries.{all_applied}
use Rattle.uw_intent.proofs.laws.recovery_keeps_what_words_stand_for.Goals as goal

pub returns : goal.returns
returns c = all_applied
