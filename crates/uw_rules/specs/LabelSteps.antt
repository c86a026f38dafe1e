-- The labels of a table, gathered line by line.
use Rattle.std.specs.Prelude.{◌≡◌, ℕ, List, Option, None, Some, if◌then◌else◌}
use Rattle.std.specs.HashMap.{get_by}
use Rattle.std.specs.Str.{bytes_eq}
use Rattle.uw_rules.specs.declared.labels.Labels.{Labels}
use Rattle.uw_rules.specs.Rules.{is_label_of}
use Rattle.uw_rules.specs.WrittenRules.{WrittenRule}

-- the place of a label
unfoldable pub label_place : Labels → List ℕ → Option ℕ
label_place labels text = get_by (λ key. bytes_eq text key.now) labels.places

-- the first of two places
abbrev pub or_place : Option ℕ → Option ℕ → Option ℕ
or_place (Some place) other = Some place
or_place None other = other

-- a label that is not there yet has this place from now on, and each other one keeps its own
abbrev pub NotesLabel : Labels → Labels → List ℕ → ℕ → Type 0
NotesLabel old new label place = (text : List ℕ) → label_place new text ≡ or_place (label_place old text) (if bytes_eq label text then Some place else None)

-- the same of a rule, where it is a label
abbrev pub NotesRule : Labels → Labels → WrittenRule → ℕ → Type 0
NotesRule old new written place = (text : List ℕ) → label_place new text ≡ or_place (label_place old text) (if is_label_of text written then Some place else None)
