-- A region's words as a reader, and a region seen through planned word writes (own rule).
use Rattle.std.specs.Prelude.{◌≢◌, ℕ, List, [], ◌∷◌, Option, Some, None, IsSome, if◌then◌else◌, ◌==◌, slice_index, unwrap_or}
use Rattle.std.specs.List.{AllPairs}

-- the word at each place, 0 past the end
abbrev pub region : List ℕ → ℕ → ℕ
region words at = slice_index words at

-- the word that is planned for a place
abbrev pub planned : List (ℕ × ℕ) → ℕ → Option ℕ
planned [] at = None
planned (write ∷ plan) at = if write.0 == at then Some write.1 else planned plan at

-- the plan names the place
abbrev pub Names : List (ℕ × ℕ) → ℕ → Type 0
Names plan at = IsSome (planned plan at)

-- what is read through a plan: the planned word, else the reader's own
abbrev pub through : List (ℕ × ℕ) → (ℕ → ℕ) → ℕ → ℕ
through plan reader at = unwrap_or (planned plan at) (reader at)

-- the plan after one more word: a place that it names keeps its turn, a new one comes last
abbrev pub with_put : List (ℕ × ℕ) → ℕ → ℕ → List (ℕ × ℕ)
with_put [] at word = (at, word) ∷ []
with_put (write ∷ plan) at word = if write.0 == at then (at, word) ∷ plan else write ∷ with_put plan at word

-- no place is named twice
abbrev pub HasDistinctPlaces : List (ℕ × ℕ) → Type 0
HasDistinctPlaces plan = AllPairs (λ early late. early.0 ≢ late.0) plan

-- planned writes, and how many places they can name
pub record Plan : Type 0 where
  pub writes : List (ℕ × ℕ)
  pub room : ℕ
