use Rattle.std.proofs.Common.{refl}
use Rattle.uw_words.specs.Slots.{home}
use Rattle.uw_words.proofs.slots.home_of.Goals as goal

pub returns-clause-home : goal.returns-clause-home
unfolding home
returns-clause-home c = refl
