-- Lists of numbers, as places or items: what is among them (own rule).
use Rattle.std.specs.Prelude.{◌≡◌, ◌≢◌, ◌⊎◌, ℕ, zero, suc, ◌+◌, List, [], ◌∷◌, if◌then◌else◌, ◌==◌}

-- the number is one of them
abbrev pub IsOneOf : List ℕ → ℕ → Type 0
IsOneOf [] number = ⊥
IsOneOf (first ∷ numbers) number = (first ≡ number) ⊎ IsOneOf numbers number

-- the number is none of them
abbrev pub IsNoneOf : List ℕ → ℕ → Type 0
IsNoneOf [] number = Unit {0}
IsNoneOf (first ∷ numbers) number = (first ≢ number) × IsNoneOf numbers number

-- none of them comes twice
abbrev pub AreDistinct : List ℕ → Type 0
AreDistinct [] = Unit {0}
AreDistinct (first ∷ numbers) = IsNoneOf numbers first × AreDistinct numbers

-- the numbers without the first of them that is this one
abbrev pub without_number : List ℕ → ℕ → List ℕ
without_number [] number = []
without_number (first ∷ numbers) number = if first == number then numbers else first ∷ without_number numbers number

-- so many places in a row
abbrev pub places_from : (first count : ℕ) → List ℕ
places_from first zero = []
places_from first (suc count) = first ∷ places_from (first + 1) count
