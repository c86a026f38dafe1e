-- Variables: a list of pairs of a key and a value, in their order. A key that comes twice counts by its last pair (own rule).
use Rattle.std.specs.Prelude.{ℕ, if◌then◌else◌, List, [], ◌∷◌}
use Rattle.std.specs.Str.{bytes_eq}
use Rattle.uw_base.specs.declared.variables.Pair.{Pair}

-- the value of the last pair of the key among the pairs, or the text before
abbrev pub value_after : List ℕ → List ℕ → List Pair → List ℕ
value_after key before [] = before
value_after key before (pair ∷ pairs) = value_after key (if bytes_eq pair.key key then pair.value else before) pairs

-- the value of a variable, the empty text where it is absent
abbrev pub value_of : List Pair → List ℕ → List ℕ
value_of pairs key = value_after key [] pairs
