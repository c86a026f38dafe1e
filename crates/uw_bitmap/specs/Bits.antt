-- The bitmap of a region: which of its blocks are marked (own rule).
use Rattle.std.specs.Prelude.{◌≡◌, ℕ, ◌+◌, ◌-◌, ◌/◌, ◌%◌, ◌<◌, ◌≤◌, Bool, false, ◌&&◌, ◌==◌, nat_lt, nat_le, List, [], if◌then◌else◌}
use Rattle.std.specs.Int.{bit_at}
use Rattle.uw_words.specs.declared.shape.Shape.{Shape}
use Rattle.uw_words.specs.Numbers.{places_from}

-- the word of the bitmap that has the bit of a block
abbrev pub word_of : Shape → ℕ → ℕ
word_of shape block = shape.bitmap + block / 64

-- the bit of a block is 1
abbrev pub is_marked : (ℕ → ℕ) → Shape → ℕ → Bool
is_marked reader shape block = bit_at (reader (word_of shape block)) (block % 64) == 1

-- the block is one of so many from a first one on
abbrev pub is_in_run : (first n block : ℕ) → Bool
is_in_run first n block = nat_le first block && nat_lt block (first + n)

-- so many blocks from a first one on exist, and none of them is marked
pub record IsFreeRun (marked : ℕ → Bool) (blocks first n : ℕ) : Type 0 where
  pub within : first + n ≤ blocks
  pub free : (i : ℕ) → i < n → marked (first + i) ≡ false

-- no free run of so many blocks begins before this one
pub record IsLeastFreeRun (marked : ℕ → Bool) (blocks first n : ℕ) : Type 0 where
  pub run : IsFreeRun marked blocks first n
  pub least : (earlier : ℕ) → earlier < first → IsFreeRun marked blocks earlier n → ⊥

-- the blocks of a run have this mark now, and all others the one that they had
abbrev pub ChangesRun : (value : Bool) → (before now : ℕ → Bool) → (first n : ℕ) → Type 0
ChangesRun value before now first n = (block : ℕ) → now block ≡ (if is_in_run first n block then value else before block)

-- the places of the words that have the bits of a run
abbrev pub run_places : Shape → (first n : ℕ) → List ℕ
run_places shape first n = if n == 0 then [] else places_from (word_of shape first) ((first + n - 1) / 64 + 1 - first / 64)

-- the place is a word of the bitmap
abbrev pub IsBitmapPlace : Shape → ℕ → Type 0
IsBitmapPlace shape at = (shape.bitmap ≤ at) × (at < shape.chains)
