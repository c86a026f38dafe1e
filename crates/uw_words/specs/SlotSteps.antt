-- The search for a place in the table of an overlay.
use Rattle.std.specs.Prelude.{◌≡◌, ◌≢◌, ℕ, ◌+◌, ◌<◌, List, length, slice_index}
use Rattle.uw_words.specs.Slots.{Reaches, place}

-- the slot at which the search for a place ends: it has the place's number, or it is empty and the plan does not name the place
pub record Ends (plan : List (ℕ × ℕ)) (slots : List ℕ) (at slot : ℕ) : Type 0 where
  pub within : slot < length slots
  pub reached : Reaches slots at slot
  pub named : (k : ℕ) → slice_index slots slot ≡ k + 1 → (k < length plan) × (place plan k ≡ at)
  pub free : slice_index slots slot ≡ 0 → (k : ℕ) → k < length plan → place plan k ≢ at
