-- What a step of a plan does to the planned words of a region, whatever was planned before it (own rule).
use Rattle.std.specs.Prelude.{◌≡◌, ◌⊎◌, ℕ, ◌+◌, ◌≤◌, ◌&&◌, not, nat_lt, nat_le, Bool, List, [], ◌∷◌, filter, length}
use Rattle.uw_model.specs.declared.conf.CacheConf.{CacheConf}
use Rattle.uw_model.specs.declared.entries.Entry.{Entry}
use Rattle.uw_model.specs.Entries.{span_of}
use Rattle.uw_words.specs.declared.shape.Shape.{Shape}
use Rattle.uw_words.specs.Shapes.{shape_words}
use Rattle.uw_words.specs.Plans.{Plan, planned}
use Rattle.uw_words.specs.Numbers.{AreDistinct, IsOneOf}
use Rattle.uw_words.specs.Parts.{places_of, with_places}
use Rattle.uw_words.specs.Walks.{item_word}
use Rattle.uw_intent.specs.RedoRecord.{IsTarget}
use Rattle.uw_bitmap.specs.Bits.{run_places}
use Rattle.uw_plan.specs.Agreement.{AgreesAs}
use Rattle.uw_plan.specs.Regions.{frame_of}

-- the entry stands in the list at the place at which the item stands among the items
abbrev pub IsPaired : List ℕ → List Entry → ℕ → Entry → Type 0
IsPaired [] list item e = ⊥
IsPaired (first ∷ items) [] item e = ⊥
IsPaired (first ∷ items) (other ∷ list) item e = ((first ≡ item) × (other ≡ e)) ⊎ IsPaired items list item e

-- a reader's words agree with some list of which the item holds an entry
abbrev pub IsInUse : (ℕ → ℕ) → Shape → CacheConf → ℕ → Type 0
IsInUse reader shape conf item =
    (items : List ℕ) × (list : List Entry) × (e : Entry) × (AgreesAs reader shape conf items list × IsPaired items list item e)

-- the places of the bitmap's words for the blocks of an item, by its own words
abbrev pub item_run_places : (ℕ → ℕ) → Shape → CacheConf → ℕ → List ℕ
item_run_places reader shape conf item =
    run_places shape (item_word reader shape item 4) (span_of conf (item_word reader shape item 5))

-- the place is a word of the bitmap, as a test
abbrev pub is_bit_place : Shape → ℕ → Bool
is_bit_place shape at = nat_le shape.bitmap at && nat_lt at shape.chains

-- the planned places that are words of the bitmap
abbrev pub bit_places : Shape → Plan → List ℕ
bit_places shape plan = filter (λ at. is_bit_place shape at) (places_of plan.writes)

-- how many other places are planned
abbrev pub count_of_others : Shape → Plan → ℕ
count_of_others shape plan = length (filter (λ at. not (is_bit_place shape at)) (places_of plan.writes))

-- a step plans words of the bitmap at a run's places, and so many other words at most; it gives up no planned place and names
-- none twice; and all that it plans is within the region, and neither of the redo record nor the gate or the used word
pub record Costs (shape : Shape) (most : ℕ) (run : List ℕ) (before now : Plan) : Type 0 where
  pub room : now.room ≡ before.room
  pub bits : bit_places shape now ≡ with_places (bit_places shape before) run
  pub others : count_of_others shape now ≤ count_of_others shape before + most
  pub kept : (at : ℕ) → IsOneOf (places_of before.writes) at → IsOneOf (places_of now.writes) at
  pub once : AreDistinct (places_of before.writes) → AreDistinct (places_of now.writes)
  pub beyond : (at : ℕ) → IsTarget (frame_of shape) (shape_words shape) at ⊎ (planned now.writes at ≡ planned before.writes at)

-- an overlay can name so many words more beside those of a run
abbrev pub HasRoomFor : Plan → ℕ → List ℕ → Type 0
HasRoomFor plan most run = length (with_places (places_of plan.writes) run) + most ≤ plan.room
