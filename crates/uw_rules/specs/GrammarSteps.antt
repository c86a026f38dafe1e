-- What the tables of the code stand for.
use Rattle.std.specs.Prelude.{ℕ, ◌==◌, List, [], map, Option}
use Rattle.std.specs.Borrow.{Bor}
use Rattle.std.specs.List.{slice_split}
use Rattle.std.specs.Option.{option_map, option_map_or}
use Rattle.uw_rules.specs.declared.grammar.Slot.{Slot}
use Rattle.uw_rules.specs.declared.grammar.Shape.{Shape}
use Rattle.uw_rules.specs.declared.grammar.Shape.TheVariants as code
use Rattle.uw_rules.specs.Grammar.{ArgumentShape, KeyRow, bare, optional_text, whole_text, divided_text, keyed_texts, free_texts}

-- a key of an argument list
abbrev pub slot_seen : Slot → KeyRow
slot_seen slot = record { key = slot.key.now; kind = slot.kind; required = slot.required }

-- what stands behind the `:`
abbrev pub shape_seen : Shape → ArgumentShape
shape_seen code.Bare = bare
shape_seen (code.Optional kind) = optional_text kind
shape_seen (code.Whole kind) = whole_text kind
shape_seen (code.Divided at first second) = divided_text at first second
shape_seen (code.Keyed slots) = keyed_texts (map slot_seen slots.now)
shape_seen (code.Free kind) = free_texts kind

-- rows of names
abbrev pub named_rows : {X : Type 0} → List (Bor (List ℕ) × X) → List (List ℕ × X)
named_rows rows = map (λ row. (row.0.now, row.1)) rows

-- rows of conditions or actions
abbrev pub rows_seen : {N : Type 0} → List (Bor (List ℕ) × N × Shape) → List (List ℕ × N × ArgumentShape)
rows_seen rows = map (λ row. (row.0.now, row.1, shape_seen row.2)) rows

-- the row of a name
abbrev pub row_seen : {N : Type 0} → Option (N × Shape) → Option (N × ArgumentShape)
row_seen row = option_map (λ found. (found.0, shape_seen found.1)) row

-- the pairs that are left of an argument
abbrev pub pairs_left : Option (Bor (List ℕ)) → List (List ℕ)
pairs_left rest = option_map_or (λ (text : Bor (List ℕ)). slice_split (λ byte. byte == 44) text.now) rest []
