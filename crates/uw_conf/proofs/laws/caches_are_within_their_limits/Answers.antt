use Rattle.uw_conf.proofs.OptionLemmas.{HasParts, parts_kept, no_parts}
use Rattle.uw_conf.proofs.ReadingLemmas.{configuration_keeps}
use Rattle.uw_conf.proofs.laws.caches_are_within_their_limits.Goals as goal

pub returns : goal.returns
returns c =
    let keeps = configuration_keeps HasParts parts_kept no_parts in
    record {
      each = λ text conf says. (keeps text conf says).each;
      few = λ text conf says. (keeps text conf says).few;
      names = λ text conf says. (keeps text conf says).names;
      small = λ text conf says. (keeps text conf says).small;
    }
