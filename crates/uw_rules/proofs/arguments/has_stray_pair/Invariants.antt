use Rattle.std.proofs.Common.{◌≡◌, ◌+◌, length, map}
use Rattle.std.specs.List.{list_any}
use Rattle.std.specs.Option.{option_map_or}
use Rattle.uw_rules.specs.Arguments.{is_stray_pair}
use Rattle.uw_rules.specs.GrammarSteps.{pairs_left, slot_seen}
use Rattle.uw_rules.proofs.arguments.has_stray_pair.Given as goal

-- the pairs that are left have one, if any has
abbrev pub invariant-pairs : goal.invariant-pairs
invariant-pairs l =
    list_any (is_stray_pair (map slot_seen l.fn.slots)) (pairs_left l.rest) ≡ list_any (is_stray_pair (map slot_seen l.fn.slots)) (pairs_left l.fn.pairs)

abbrev pub decreases-pairs : goal.decreases-pairs
decreases-pairs l = option_map_or (λ text. length text.now + 1) l.rest 0
