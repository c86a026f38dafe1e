use Rattle.std.proofs.Common.{◌≡◌, drop, map}
use Rattle.std.specs.List.{list_any}
use Rattle.uw_rules.specs.Arguments.{is_pair_of}
use Rattle.uw_rules.specs.Grammar.{KeyRow}
use Rattle.uw_rules.specs.GrammarSteps.{slot_seen}
use Rattle.uw_rules.proofs.arguments.is_of_any.Given as goal

-- the keys that are left have it, if any has
abbrev pub invariant-loop-slot : goal.invariant-loop-slot
invariant-loop-slot l =
    list_any (λ (row : KeyRow). is_pair_of row.key l.fn.pair) (map slot_seen (drop l.slot-index l.slots))
    ≡ list_any (λ (row : KeyRow). is_pair_of row.key l.fn.pair) (map slot_seen l.slots)
