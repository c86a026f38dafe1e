-- The values of a query string, read as `form_urlencoded` reads a form.
use Rattle.std.specs.Prelude.{ℕ, if◌then◌else◌, List, [], ◌∷◌}
use Rattle.std.specs.Str.{bytes_eq}
use Rattle.std.specs.Str.Lossy.{utf8_lossy}
use Rattle.form_urlencoded.specs.Form.{decode, raw_pairs}

-- the text that an encoded name or value stands for
abbrev pub decoded : List ℕ → List ℕ
decoded bytes = utf8_lossy (decode bytes)

-- the value of the first pair whose decoded name is this one, decoded; the empty text where there is none
abbrev pub value_among : List ℕ → List (List ℕ × List ℕ) → List ℕ
value_among name [] = []
value_among name (pair ∷ pairs) = if bytes_eq (decoded pair.0) name then decoded pair.1 else value_among name pairs

-- the value of a name in a query string
unfoldable pub query_value : List ℕ → List ℕ → List ℕ
query_value name query = value_among name (raw_pairs query)
