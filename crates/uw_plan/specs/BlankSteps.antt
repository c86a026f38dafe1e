-- The words of a region that are put while it has no entry.
use Rattle.std.specs.Prelude.{◌≡◌, ◌≢◌, ℕ, ◌+◌, ◌<◌, ◌≤◌, if◌then◌else◌, nat_lt, List, [], ◌∷◌, length, slice_index}
use Rattle.uw_words.specs.declared.shape.Shape.{Shape}
use Rattle.uw_words.specs.Shapes.{shape_words}
use Rattle.uw_words.specs.Plans.{region}
use Rattle.uw_words.specs.Walks.{link_of}

-- the first nine words of the header, of a region without an entry
abbrev pub blank_head : Shape → List ℕ
blank_head shape =
    1 ∷ shape.n_items ∷ shape.n_blocks ∷ shape.block_words ∷ shape.key_words ∷ shape.n_chains ∷ 0 ∷ 0 ∷ link_of shape 0 ∷ []

-- so many words of the header are put, and all others are 0
pub record HasHead (shape : Shape) (words : List ℕ) (count : ℕ) : Type 0 where
  pub len : length words ≡ shape_words shape
  pub put : (at : ℕ) → at < count → region words at ≡ slice_index (blank_head shape) at
  pub zeros : (at : ℕ) → count ≤ at → region words at ≡ 0

-- the link of an item, 0 behind the last one
abbrev pub link_to : Shape → ℕ → ℕ
link_to shape item = if nat_lt item shape.n_items then link_of shape item else 0

-- the header is put, and in so many free items the link of the next one; all other words are 0
pub record HasFreeItems (shape : Shape) (words : List ℕ) (count : ℕ) : Type 0 where
  pub len : length words ≡ shape_words shape
  pub head : (at : ℕ) → at < 9 → region words at ≡ slice_index (blank_head shape) at
  pub links : (item : ℕ) → item < count → region words (link_of shape item + 2) ≡ link_to shape (item + 1)
  pub zeros : (at : ℕ) → 9 ≤ at → ((item : ℕ) → item < count → at ≢ link_of shape item + 2) → region words at ≡ 0
