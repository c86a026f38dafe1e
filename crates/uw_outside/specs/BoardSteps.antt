-- What a write does to the texts of a board (own rule).
use Rattle.std.specs.Prelude.{◌≡◌, ℕ, ◌<◌, List, [], ◌++◌, length, slice_index_or, slice_set}

-- a piece was appended to the text at the place, and the others stay
abbrev pub AppendsAt : List (List ℕ) → List (List ℕ) → ℕ → List ℕ → Type 0
AppendsAt before now place piece =
    (place < length before) × (now ≡ slice_set before place (slice_index_or before place [] ++ piece))
