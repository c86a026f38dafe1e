use Rattle.uw_intent.proofs.Progress.{length-made}
use Rattle.uw_intent.proofs.laws.writes_keep_the_number_of_words.Goals as goal

pub returns : goal.returns
returns c = length-made
