-- The key that an item of a region holds (own rule): word 6 is its length in bytes, word 7 its hash, and its bytes
-- stand behind the item's fixed words.
use Rattle.std.specs.Prelude.{◌≡◌, ℕ, ◌+◌, ◌*◌, ◌≤◌, List, length}
use Rattle.uw_base.specs.Numbers.{djb33x_of}
use Rattle.uw_words.specs.declared.shape.Shape.{Shape}
use Rattle.uw_words.specs.Shapes.{item_head}
use Rattle.uw_words.specs.Texts.{HoldsText}
use Rattle.uw_words.specs.Walks.{link_of, item_word}

-- the item holds the key
pub record HoldsKey (reader : ℕ → ℕ) (shape : Shape) (item : ℕ) (key : List ℕ) : Type 0 where
  pub len : item_word reader shape item 6 ≡ length key
  pub hash : item_word reader shape item 7 ≡ djb33x_of key
  pub fits : length key ≤ 8 * shape.key_words
  pub text : HoldsText reader (link_of shape item + item_head) key

-- the item holds some key
abbrev pub HoldsSomeKey : (ℕ → ℕ) → Shape → ℕ → Type 0
HoldsSomeKey reader shape item = (key : List ℕ) × HoldsKey reader shape item key
