-- The free items of a region: header word 8 is the link of the first one, and word 2 of each that of the next one (own rule).
use Rattle.std.specs.Prelude.{◌≡◌, ◌⊎◌, ℕ, ◌+◌, List, [], ◌∷◌, if◌then◌else◌, ◌==◌}
use Rattle.uw_words.specs.declared.shape.Shape.{Shape}
use Rattle.uw_words.specs.Numbers.{IsOneOf, AreDistinct}
use Rattle.uw_words.specs.Walks.{link_of, IsWalk}

-- these are the free items, in order: the walk from header word 8 along word 2, without a repeat
pub record IsFreeList (reader : ℕ → ℕ) (shape : Shape) (items : List ℕ) : Type 0 where
  pub walk : IsWalk reader shape (reader (shape.head + 8)) 2 items
  pub distinct : AreDistinct items

-- the words hold a list of free items
abbrev pub HasFreeList : (ℕ → ℕ) → Shape → Type 0
HasFreeList reader shape = (items : List ℕ) × IsFreeList reader shape items

-- the place that is written where the first free item is taken: none where no item is free
abbrev pub take_places : (ℕ → ℕ) → Shape → List ℕ
take_places reader shape = if reader (shape.head + 8) == 0 then [] else (shape.head + 8) ∷ []

-- the places that are written where an item comes before the first free one
abbrev pub give_places : Shape → ℕ → List ℕ
give_places shape item = (link_of shape item + 2) ∷ (shape.head + 8) ∷ []

-- the places on which the list of free items depends: header word 8, and word 2 of its items
abbrev pub IsFreePlace : Shape → List ℕ → ℕ → Type 0
IsFreePlace shape items at = (at ≡ shape.head + 8) ⊎ ((item : ℕ) × (IsOneOf items item × (at ≡ link_of shape item + 2)))
