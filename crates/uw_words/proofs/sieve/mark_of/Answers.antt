use Rattle.std.proofs.Common.{refl}
use Rattle.uw_words.specs.Slots.{sieve_mark}
use Rattle.uw_words.proofs.sieve.mark_of.Goals as goal

pub returns : goal.returns
unfolding sieve_mark
returns c = refl
