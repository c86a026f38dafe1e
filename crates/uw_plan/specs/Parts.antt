-- What the parts of a region's words hold, each part by itself (own rule).
use Rattle.std.specs.Prelude.{◌≡◌, ℕ, ◌*◌, ◌<◌, ◌≤◌, Bool, List, [], ◌∷◌, length}
use Rattle.std.specs.List.{All}
use Rattle.uw_model.specs.declared.entries.Entry.{Entry}
use Rattle.uw_words.specs.declared.shape.Shape.{Shape}
use Rattle.uw_words.specs.Shapes.{bit_words}
use Rattle.uw_words.specs.Records.{HoldsKey}
use Rattle.uw_bitmap.specs.Bits.{is_marked}
use Rattle.uw_recency.specs.Recency.{IsRecency}
use Rattle.uw_chains.specs.Chains.{IsChains}
use Rattle.uw_items.specs.declared.records.Fields.{Fields}
use Rattle.uw_items.specs.FreeList.{IsFreeList}
use Rattle.uw_items.specs.Items.{HoldsFields, HoldsValue}

-- the header words that never change: the number of the layout, the sizes of the region, and four words of 0
pub record IsHead (reader : ℕ → ℕ) (shape : Shape) : Type 0 where
  pub layout : reader 0 ≡ 1
  pub items : reader 1 ≡ shape.n_items
  pub blocks : reader 2 ≡ shape.n_blocks
  pub block_words : reader 3 ≡ shape.block_words
  pub key_words : reader 4 ≡ shape.key_words
  pub chains : reader 5 ≡ shape.n_chains
  pub zeros : (at : ℕ) → 12 ≤ at → at < 16 → reader at ≡ 0

-- what the parts hold: the items of the recency list, from the most recent one on; the free items; the items of each
-- chain; whether each block is marked; and the number of items in use
pub record Parts : Type 0 where
  pub items : List ℕ
  pub free : List ℕ
  pub chains : ℕ → List ℕ
  pub marked : ℕ → Bool
  pub count : ℕ

-- the words hold these parts
pub record HoldsParts (reader : ℕ → ℕ) (shape : Shape) (parts : Parts) : Type 0 where
  pub head : IsHead reader shape
  pub count : reader 9 ≡ parts.count
  pub recency : IsRecency reader shape parts.items
  pub chains : IsChains reader shape parts.chains
  pub free : IsFreeList reader shape parts.free
  pub bits : (block : ℕ) → block < 64 * bit_words shape.n_blocks → is_marked reader shape block ≡ parts.marked block

-- what an item says of an entry beside its key
abbrev pub fields_of_entry : Entry → Fields
fields_of_entry e = record { dies = e.dies; first = e.first; length = length e.value }

-- the entry of a key, a value and the fields beside them
abbrev pub entry_of : (key value : List ℕ) → Fields → Entry
entry_of key value fields = record { key = key; value = value; dies = fields.dies; first = fields.first }

-- numbers that are bytes
abbrev pub AllBytes : List ℕ → Type 0
AllBytes bytes = All (λ byte. byte < 256) bytes

-- the item holds the entry: its key, its fields, and its value in its blocks, both of them bytes
pub record HoldsEntry (reader : ℕ → ℕ) (shape : Shape) (item : ℕ) (e : Entry) : Type 0 where
  pub key : HoldsKey reader shape item e.key
  pub fields : HoldsFields reader shape item (fields_of_entry e)
  pub value : HoldsValue reader shape e.first e.value
  pub key_bytes : AllBytes e.key
  pub value_bytes : AllBytes e.value

-- each item holds the entry of the same place, and there are as many entries as items
abbrev pub HoldEntries : (ℕ → ℕ) → Shape → List ℕ → List Entry → Type 0
HoldEntries reader shape [] [] = Unit {0}
HoldEntries reader shape [] (e ∷ list) = ⊥
HoldEntries reader shape (item ∷ items) [] = ⊥
HoldEntries reader shape (item ∷ items) (e ∷ list) = HoldsEntry reader shape item e × HoldEntries reader shape items list
