-- What searches for the patterns of rules, where it was made (own rule).
use Rattle.std.specs.Prelude.{◌≡◌, List, [], ◌∷◌, IfSome}
use Rattle.regex.specs.Bytes.{matcher_pattern, regex_pattern, group_count}
use Rattle.regex.specs.Locations.{location_count}
use Rattle.regex.specs.declared.bytes.regex.Regex.{Regex}
use Rattle.uw_rules.specs.declared.compiled.Condition.{Condition}
use Rattle.uw_rules.specs.declared.compiled.Condition.TheVariants as asks
use Rattle.uw_rules.specs.declared.compiled.Test.{Test}
use Rattle.uw_rules.specs.declared.compiled.Test.TheVariants as tests
use Rattle.uw_rules.specs.declared.compiled.Rule.{Rule}
use Rattle.uw_rules.specs.declared.compiled.Rule.TheVariants as compiled
use Rattle.uw_rules.specs.declared.compiled.RuleTable.{RuleTable}
use Rattle.uw_rules.specs.Compiled.{rules_of}
use Rattle.uw_chain.specs.declared.searches.Search.{Search}
use Rattle.uw_chain.specs.declared.searches.Slot.{Slot}
use Rattle.uw_chain.specs.declared.searches.Searches.{Searches}

-- the search is one for the pattern
abbrev pub IsSearchOf : Regex → Search → Type 0
IsSearchOf pattern search = (matcher_pattern search.matcher ≡ regex_pattern pattern) × (location_count search.locations ≡ group_count pattern)

-- a kept search, if it was made, is for the pattern
abbrev pub FitsPattern : Regex → Slot → Type 0
FitsPattern pattern slot = IfSome slot.made (IsSearchOf pattern)

-- likewise for the pattern of a condition
abbrev pub FitsCondition : Condition → Slot → Type 0
FitsCondition (asks.Regexp text pattern) slot = FitsPattern pattern slot
FitsCondition _ slot = Unit {0}

-- likewise for that of a test
abbrev pub FitsTest : Test → Slot → Type 0
FitsTest tests.Always slot = Unit {0}
FitsTest (tests.Matches subject pattern) slot = FitsPattern pattern slot
FitsTest (tests.Holds negated condition) slot = FitsCondition condition slot

-- likewise for that of a rule
abbrev pub FitsRule : Rule → Slot → Type 0
FitsRule compiled.Label slot = Unit {0}
FitsRule (compiled.Act test action) slot = FitsTest test slot

-- the kept searches are those of the rules, one by one
abbrev pub FitSlots : List Rule → List Slot → Type 0
FitSlots [] [] = Unit {0}
FitSlots (rule ∷ rules) (slot ∷ slots) = FitsRule rule slot × FitSlots rules slots
FitSlots _ _ = ⊥

-- the searches that are kept for a table are those of its rules
abbrev pub FitTable : RuleTable → Searches → Type 0
FitTable table searches = FitSlots (rules_of table) searches.slots.items
