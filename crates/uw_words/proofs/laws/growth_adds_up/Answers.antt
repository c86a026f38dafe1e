use Rattle.uw_words.proofs.Growth.{grew_then}
use Rattle.uw_words.proofs.laws.growth_adds_up.Goals as goal

pub returns : goal.returns
returns c = grew_then
