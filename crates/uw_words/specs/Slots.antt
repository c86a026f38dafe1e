-- The table by which an overlay finds a place: each slot is empty (0) or has the number, from 1, of a planned write. A place is looked for from its home on, round
-- the table, up to the first empty slot (open addressing with linear probing).
use Rattle.std.specs.Prelude.{◌≡◌, ◌≢◌, ℕ, ◌+◌, ◌-◌, ◌*◌, ◌/◌, ◌%◌, ◌^◌, ◌<◌, ◌≤◌, List, length, if◌then◌else◌, ◌==◌, nat_lt, bit_and, slice_index, slice_index_or, count_by}

-- the place of the planned write of this index
abbrev pub place : List (ℕ × ℕ) → ℕ → ℕ
place plan k = (slice_index_or plan k (0, 0)).0

-- where the search for a place begins, in a table of so many slots
unfoldable pub home : ℕ → ℕ → ℕ
home slots at = bit_and (at * 0x9E3779B97F4A7C15 % 2 ^ 64 / 2 ^ 32) (slots - 1)

-- the slot after so many steps round a table from one of its slots
abbrev pub step_on : ℕ → ℕ → ℕ → ℕ
step_on slots from steps = if nat_lt (from + steps) slots then from + steps else from + steps - slots

-- the slots before this step from a place's home are full
abbrev pub IsFullBefore : List ℕ → ℕ → ℕ → Type 0
IsFullBefore slots at steps = (i : ℕ) → i < steps → slice_index slots (step_on (length slots) (home (length slots) at) i) ≢ 0

-- a search for a place comes to a slot, which is the first empty one or has this number
pub record Reaches (slots : List ℕ) (at slot : ℕ) : Type 0 where
  pub steps : ℕ
  pub within : steps < length slots
  pub full : IsFullBefore slots at steps
  pub here : step_on (length slots) (home (length slots) at) steps ≡ slot

-- every planned write is found, and no slot has another number
pub record IsTable (plan : List (ℕ × ℕ)) (slots : List ℕ) : Type 0 where
  pub numbers : (slot : ℕ) → slice_index slots slot ≤ length plan
  pub found : (k : ℕ) → k < length plan → (slot : ℕ) × Reaches slots (place plan k) slot × (slice_index slots slot ≡ k + 1)
  pub empty : count_by (λ number. number == 0) slots + length plan ≡ length slots

-- A sieve tells of most places in one step that no planned write has them: 1024 words of 32 bits. Each place has a mark of 32 bits, whose highest ten say which
-- word the place belongs to. A place passes where its word has none of the bits of its mark, so a word that is all ones lets none through but those of the mark 0.

-- the mark of a place: 32 bits, of which the highest ten name its word of the sieve
unfoldable pub sieve_mark : ℕ → ℕ
sieve_mark at = at % 2 ^ 32 * 0x9E3779B1 % 2 ^ 32

-- the sieve lets a place through: its word has none of the bits of the place's mark
abbrev pub Passes : List ℕ → ℕ → Type 0
Passes sieve at = bit_and (slice_index sieve (sieve_mark at / 2 ^ 22)) (sieve_mark at) ≡ 0

-- the sieve lets all planned places through
abbrev pub PassesAll : List ℕ → List (ℕ × ℕ) → Type 0
PassesAll sieve plan = (k : ℕ) → k < length plan → Passes sieve (place plan k)
