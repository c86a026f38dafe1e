use Rattle.std.proofs.Common.{◌≡◌, drop, map}
use Rattle.std.specs.List.{list_any}
use Rattle.uw_rules.specs.Arguments.{is_twice}
use Rattle.uw_rules.specs.Grammar.{KeyRow}
use Rattle.uw_rules.specs.GrammarSteps.{pairs_left, slot_seen}
use Rattle.uw_rules.proofs.arguments.is_any_twice.Given as goal

-- the keys that are left have such a one, if any has
abbrev pub invariant-loop-slot : goal.invariant-loop-slot
invariant-loop-slot l =
    list_any (λ (row : KeyRow). is_twice row.key (pairs_left l.fn.pairs)) (map slot_seen (drop l.slot-index l.slots))
    ≡ list_any (λ (row : KeyRow). is_twice row.key (pairs_left l.fn.pairs)) (map slot_seen l.slots)
