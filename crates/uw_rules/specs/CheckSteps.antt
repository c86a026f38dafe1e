-- What is looked for in the texts of a condition or an action.
use Rattle.std.specs.Prelude.{ℕ, ◌<◌, ◌^◌, Bool, true, List, length, map, Option, IfSome}
use Rattle.uw_rules.specs.declared.grammar.TextKind.{TextKind}
use Rattle.uw_rules.specs.declared.checks.Names.{Names}
use Rattle.uw_rules.specs.declared.checks.Check.{Check}
use Rattle.uw_rules.specs.declared.checks.Check.TheVariants as check
use Rattle.uw_rules.specs.LabelSteps.{label_place}
use Rattle.uw_rules.specs.Arguments.{Place, SiteNames, is_bad_place, is_bad_template, is_missed_label, is_unknown_name, text_of_pair}

-- the text is shorter than 2^32 bytes, if it stands
abbrev pub IsShortText : Option (List ℕ) → Type 0
IsShortText text = IfSome text (λ bytes. length bytes < 2 ^ 32)

-- a place for a text
abbrev pub place_at : TextKind → Bool → Option (List ℕ) → Place
place_at kind required text = record { kind = kind; required = required; text = text }

-- the places of pairs
abbrev pub free_places : TextKind → List (List ℕ) → List Place
free_places kind pairs = map (λ pair. place_at kind true (text_of_pair pair)) pairs

-- what rules may name
abbrev pub names_seen : Names → SiteNames
names_seen names = record { caches = names.caches.now; areas = names.areas }

-- the place is one that is looked for
abbrev pub failing : Check → Place → Bool
failing check.Kind place = is_bad_place place
failing check.Template place = is_bad_template place
failing (check.Label labels here) place = is_missed_label (label_place labels.now) here place
failing (check.Name names) place = is_unknown_name (names_seen names) place
