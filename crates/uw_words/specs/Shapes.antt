-- The layout of a cache's region: its parts follow one another (own rule).
use Rattle.std.specs.Prelude.{◌≡◌, ℕ, ◌+◌, ◌*◌, ◌/◌, ◌^◌, ◌<◌}
use Rattle.uw_words.specs.declared.shape.Shape.{Shape}

-- the words that hold a bit for each of so many blocks
abbrev pub bit_words : ℕ → ℕ
bit_words blocks = (blocks + 63) / 64

-- the fixed words of an item, which stand before the bytes of its key
abbrev pub item_head : ℕ
item_head = 8

-- a header of 16 words, the bitmap, the chains, the items of their fixed words and a key each, the blocks and the redo
-- record, one behind the other, each within 2^63 words
pub record IsShape (shape : Shape) : Type 0 where
  pub head : shape.head ≡ 0
  pub bitmap : shape.bitmap ≡ 16
  pub chains : shape.chains ≡ shape.bitmap + bit_words shape.n_blocks
  pub items : shape.items ≡ shape.chains + shape.n_chains
  pub stride : shape.stride ≡ item_head + shape.key_words
  pub blocks : shape.blocks ≡ shape.items + shape.n_items * shape.stride
  pub intent : shape.intent ≡ shape.blocks + shape.n_blocks * shape.block_words
  pub within : shape.intent + shape.room < 2 ^ 63
  pub some_chain : 0 < shape.n_chains
  pub some_block_word : 0 < shape.block_words

-- how many words the region has
abbrev pub shape_words : Shape → ℕ
shape_words shape = shape.intent + shape.room
