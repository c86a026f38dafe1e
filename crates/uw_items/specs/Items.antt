-- What an item of a region holds: words 3, 4 and 5 are the moment at which it dies, its first block and the length of its value in bytes; words 6 and on are its key; and its value
-- stands in its blocks ("The Caching framework").
use Rattle.std.specs.Prelude.{◌≡◌, ℕ, ◌+◌, ◌*◌, ◌<◌, ◌≤◌, List, [], ◌∷◌}
use Rattle.uw_words.specs.declared.shape.Shape.{Shape}
use Rattle.uw_words.specs.Shapes.{item_head}
use Rattle.uw_words.specs.Walks.{link_of, item_word}
use Rattle.uw_words.specs.Texts.{HoldsText, places_of_text, text_at}
use Rattle.uw_items.specs.declared.records.Fields.{Fields}

-- the place of a block (own rule)
abbrev pub block_place : Shape → ℕ → ℕ
block_place shape block = shape.blocks + block * shape.block_words

-- so many bytes from a block on lie in the blocks (own rule)
abbrev pub LieInBlocks : Shape → (first bytes : ℕ) → Type 0
LieInBlocks shape first bytes = 8 * (first * shape.block_words) + bytes ≤ 8 * (shape.n_blocks * shape.block_words)

-- the key that an item holds, by its length (own rule)
abbrev pub held_key : (ℕ → ℕ) → Shape → ℕ → List ℕ
held_key reader shape item = text_at reader (link_of shape item + item_head) (item_word reader shape item 6)

-- the places of a key of so many bytes: words 6 and 7 of its item, and those of its bytes (own rule)
abbrev pub key_places : Shape → (item bytes : ℕ) → List ℕ
key_places shape item bytes =
    (link_of shape item + 6) ∷ (link_of shape item + 7) ∷ places_of_text (link_of shape item + item_head) bytes

-- the blocks from one on hold a value (own rule)
abbrev pub HoldsValue : (ℕ → ℕ) → Shape → (first : ℕ) → List ℕ → Type 0
HoldsValue reader shape first value = HoldsText reader (block_place shape first) value

-- the value that an item holds, by its first block and its length (own rule)
abbrev pub held_value : (ℕ → ℕ) → Shape → ℕ → List ℕ
held_value reader shape item = text_at reader (block_place shape (item_word reader shape item 4)) (item_word reader shape item 5)

-- the places of a value of so many bytes (own rule)
abbrev pub value_places : Shape → (first bytes : ℕ) → List ℕ
value_places shape first bytes = places_of_text (block_place shape first) bytes

-- the item holds these fields (own rule)
pub record HoldsFields (reader : ℕ → ℕ) (shape : Shape) (item : ℕ) (fields : Fields) : Type 0 where
  pub dies : item_word reader shape item 3 ≡ fields.dies
  pub first : item_word reader shape item 4 ≡ fields.first
  pub bytes : item_word reader shape item 5 ≡ fields.length

-- the places of an item's fields (own rule)
abbrev pub field_places : Shape → ℕ → List ℕ
field_places shape item = (link_of shape item + 3) ∷ (link_of shape item + 4) ∷ (link_of shape item + 5) ∷ []

-- the place is a word of an item from word 3 on: of its fields or its key (own rule)
abbrev pub IsRecordPlace : Shape → ℕ → ℕ → Type 0
IsRecordPlace shape item at = (field : ℕ) × ((3 ≤ field) × (field < shape.stride) × (at ≡ link_of shape item + field))
