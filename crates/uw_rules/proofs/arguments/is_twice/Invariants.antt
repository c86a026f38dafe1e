use Rattle.std.proofs.Common.{◌≡◌, ◌+◌, length}
use Rattle.std.specs.Option.{option_map_or}
use Rattle.uw_rules.specs.Arguments.{is_twice}
use Rattle.uw_rules.specs.GrammarSteps.{pairs_left}
use Rattle.uw_rules.proofs.arguments.is_twice.Given as goal

-- the pairs that are left have two, if any has
abbrev pub invariant-pairs : goal.invariant-pairs
invariant-pairs l = is_twice l.fn.key (pairs_left l.rest) ≡ is_twice l.fn.key (pairs_left l.fn.pairs)

abbrev pub decreases-pairs : goal.decreases-pairs
decreases-pairs l = option_map_or (λ text. length text.now + 1) l.rest 0
