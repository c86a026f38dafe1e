use Rattle.std.proofs.Common.{◌≡◌, drop, map}
use Rattle.std.specs.List.{list_any}
use Rattle.std.specs.Option.{option_copied}
use Rattle.uw_rules.specs.Arguments.{text_places}
use Rattle.uw_rules.specs.CheckSteps.{failing}
use Rattle.uw_rules.specs.Grammar.{keyed_texts}
use Rattle.uw_rules.specs.GrammarSteps.{slot_seen}
use Rattle.uw_rules.proofs.checks.Check.fails_any_key.Given as goal

-- the keys that are left have such a text, if any has
abbrev pub invariant-loop-slot : goal.invariant-loop-slot
invariant-loop-slot l =
    list_any (failing l.fn.self) (text_places (keyed_texts (map slot_seen (drop l.slot-index l.slots))) (option_copied l.fn.argument))
    ≡ list_any (failing l.fn.self) (text_places (keyed_texts (map slot_seen l.slots)) (option_copied l.fn.argument))
