use Rattle.std.proofs.Common.{◌≡◌, ◌+◌, length}
use Rattle.std.specs.Option.{option_map_or}
use Rattle.uw_rules.specs.Arguments.{has_key_twice}
use Rattle.uw_rules.specs.GrammarSteps.{pairs_left}
use Rattle.uw_rules.proofs.KeyLemmas.{is_twice_with}
use Rattle.uw_rules.proofs.arguments.has_key_twice.Given as goal

-- a key of the pairs that are left was seen or stands twice among them, if any of all stands twice
abbrev pub invariant-pairs : goal.invariant-pairs
invariant-pairs l = is_twice_with l.seen (pairs_left l.rest) ≡ has_key_twice (pairs_left l.fn.pairs)

abbrev pub decreases-pairs : goal.decreases-pairs
decreases-pairs l = option_map_or (λ text. length text.now + 1) l.rest 0
