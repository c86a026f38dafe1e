-- The recency list of a region: its items from the most recent one to the least recent one. Header words 6 and 7 are the links of the first and of the last of
-- them; an item's words 1 and 2 are the links of the item before it and of the one after it (own rule).
use Rattle.std.specs.Prelude.{◌≡◌, ◌⊎◌, ℕ, ◌+◌, Option, Some, None, List, [], ◌∷◌, ◌++◌, slice_get, if◌then◌else◌, ◌==◌}
use Rattle.uw_words.specs.declared.shape.Shape.{Shape}
use Rattle.uw_words.specs.Numbers.{IsOneOf, IsNoneOf, AreDistinct, without_number}
use Rattle.uw_words.specs.Walks.{link_of, item_word, IsWalk}

-- each item has the link of the item before it, the first one the given link, and header word 7 is the link of the last one
abbrev pub AreLinkedBack : (ℕ → ℕ) → Shape → ℕ → List ℕ → Type 0
AreLinkedBack reader shape before [] = reader (shape.head + 7) ≡ before
AreLinkedBack reader shape before (item ∷ items) = (item_word reader shape item 1 ≡ before) × AreLinkedBack reader shape (link_of shape item) items

-- these are the items of the recency list, in order: the walk from header word 6 along word 2, without a repeat and with its links back
pub record IsRecency (reader : ℕ → ℕ) (shape : Shape) (items : List ℕ) : Type 0 where
  pub walk : IsWalk reader shape (reader (shape.head + 6)) 2 items
  pub distinct : AreDistinct items
  pub back : AreLinkedBack reader shape 0 items

-- the words hold a recency list
abbrev pub HasRecency : (ℕ → ℕ) → Shape → Type 0
HasRecency reader shape = (items : List ℕ) × IsRecency reader shape items

-- the item is on the recency list
abbrev pub IsRecent : (ℕ → ℕ) → Shape → ℕ → Type 0
IsRecent reader shape item = (items : List ℕ) × (IsRecency reader shape items × IsOneOf items item)

-- there is a recency list, and the item is not on it
abbrev pub IsUnlisted : (ℕ → ℕ) → Shape → ℕ → Type 0
IsUnlisted reader shape item = (items : List ℕ) × (IsRecency reader shape items × IsNoneOf items item)

-- the last of the items
abbrev pub last_of : List ℕ → Option ℕ
last_of [] = None
last_of (first ∷ []) = Some first
last_of (first ∷ second ∷ items) = last_of (second ∷ items)

-- the item that comes after this one
abbrev pub next_of : List ℕ → ℕ → Option ℕ
next_of [] item = None
next_of (first ∷ items) item = if first == item then slice_get items 0 else next_of items item

-- the place of the link to what comes after an item, for no item that of header word 6
abbrev pub forward_place : Shape → ℕ → ℕ
forward_place shape link = if link == 0 then shape.head + 6 else link + 2

-- the place of the link to what comes before an item, for no item that of header word 7
abbrev pub backward_place : Shape → ℕ → ℕ
backward_place shape link = if link == 0 then shape.head + 7 else link + 1

-- the places that are written where an item comes before the first one
abbrev pub front_places : Shape → (first item : ℕ) → List ℕ
front_places shape first item = (link_of shape item + 1) ∷ (link_of shape item + 2) ∷ backward_place shape first ∷ (shape.head + 6) ∷ []

-- the places that are written where an item leaves the list
abbrev pub out_places : (ℕ → ℕ) → Shape → ℕ → List ℕ
out_places reader shape item = forward_place shape (item_word reader shape item 1) ∷ backward_place shape (item_word reader shape item 2) ∷ []

-- the link of the first of the items, 0 where there is none
abbrev pub link_of_first : Shape → List ℕ → ℕ
link_of_first shape [] = 0
link_of_first shape (item ∷ items) = link_of shape item

-- the places that are written where one of the items leaves the list and comes before the first of the others
abbrev pub to_front_places : (ℕ → ℕ) → Shape → List ℕ → ℕ → List ℕ
to_front_places reader shape items item =
    out_places reader shape item ++ front_places shape (link_of_first shape (without_number items item)) item

-- the places on which the recency list depends: header words 6 and 7, and words 1 and 2 of its items
abbrev pub IsRecencyPlace : Shape → List ℕ → ℕ → Type 0
IsRecencyPlace shape items at =
    (at ≡ shape.head + 6) ⊎ (at ≡ shape.head + 7) ⊎ ((item : ℕ) × (IsOneOf items item × ((at ≡ link_of shape item + 1) ⊎ (at ≡ link_of shape item + 2))))
