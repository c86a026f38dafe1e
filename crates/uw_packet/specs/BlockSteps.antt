-- The texts of a block, one by one: a step of its reading.
use Rattle.std.specs.Prelude.{ℕ, ◌+◌, ◌*◌, nat_le, if◌then◌else◌, List, [], ◌∷◌, length, take, drop, Option, None, Some}

-- the first sized text of the bytes and what is behind it, where it is whole
abbrev pub first_text : List ℕ → Option (List ℕ × List ℕ)
first_text [] = None
first_text (a ∷ []) = None
first_text (low ∷ high ∷ bytes) =
    if nat_le (low + 256 * high) (length bytes) then Some (take (low + 256 * high) bytes, drop (low + 256 * high) bytes)
    else None
