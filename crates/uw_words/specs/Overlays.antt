-- What holds of the parts of an overlay.
use Rattle.std.specs.Prelude.{ℕ, ◌*◌, ◌^◌, ◌<◌, ◌≤◌, Vec, vec_len, vec_capacity}
use Rattle.std.specs.declared.alloc.Global.{Global}
use Rattle.uw_words.specs.Plans.{HasDistinctPlaces}
use Rattle.uw_words.specs.Slots.{IsTable}

-- each planned write is found by the slots, of which there are more than two for each, and its number fits four bytes;
-- and no part needs more memory
pub record IsSound (room : ℕ) (writes : Vec (ℕ × ℕ) Global) (slots : Vec ℕ Global) (most_slots : ℕ) : Type 0 where
  pub within : vec_len writes ≤ room
  pub few : room < 2 ^ 32
  pub capacity : room ≤ vec_capacity writes
  pub distinct : HasDistinctPlaces writes.items
  pub table : IsTable writes.items slots.items
  pub spare : 2 * vec_len writes < vec_len slots
  pub fewest : 128 ≤ vec_len slots
  pub most : vec_len slots ≤ most_slots
  pub enough : 2 * room < most_slots
  pub slots_capacity : most_slots ≤ vec_capacity slots
