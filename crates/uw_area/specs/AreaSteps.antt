-- What an operation plans, and the loops over the words of its bytes.
use Rattle.std.specs.Prelude.{◌≡◌, ℕ, ◌+◌, ◌/◌, ◌≤◌, ◌<◌, List, [], All, length}
use Rattle.std.specs.List.{splice}
use Rattle.uw_model.specs.declared.areas.AreaOp.{AreaOp}
use Rattle.uw_model.specs.Layout.{head_words}
use Rattle.uw_model.specs.AreaLayout.{area_plan_room, area_words}
use Rattle.uw_model.specs.AreaOps.{AreaState, IsAreaSize, area_next}
use Rattle.uw_words.specs.Plans.{HasDistinctPlaces, Plan, region}
use Rattle.uw_words.specs.Numbers.{places_from}
use Rattle.uw_words.specs.Parts.{seen}
use Rattle.uw_words.specs.Texts.{text_word}
use Rattle.uw_intent.specs.RedoRecord.{FitsRecord, commit_writes}
use Rattle.uw_area.specs.AreaWords.{HoldsArea, area_frame}
use Rattle.uw_area.specs.AreaKind.{most_area_writes, touched_words}

-- so many words as the region of an area of so many bytes has
pub record IsRegion (size : ℕ) (words : List ℕ) : Type 0 where
  pub limit : IsAreaSize size
  pub len : length words ≡ area_words size

-- a region for which nothing is planned yet, and room for an operation
pub record IsUnplanned (size : ℕ) (words : List ℕ) (plan : Plan) : Type 0 where
  pub region : IsRegion size words
  pub empty : plan.writes ≡ []
  pub room : plan.room ≡ area_plan_room size

-- what is planned for an operation: it fits the record, names each place once, and leaves the gate; through it the area after the
-- operation is read; and it is not too much
pub record PlansOp (size : ℕ) (words : List ℕ) (op : AreaOp) (plan : Plan) : Type 0 where
  pub fits : FitsRecord (area_frame size) (area_words size) plan.writes
  pub once : HasDistinctPlaces plan.writes
  pub gate : seen plan words 10 ≡ region words 10
  pub next : (area : AreaState) → HoldsArea (region words) size area → HoldsArea (seen plan words) size (area_next area op)
  pub few : (area : AreaState) → HoldsArea (region words) size area → length (commit_writes (area_frame size) plan.writes) ≤ most_area_writes area op

-- with bytes in place of as many at a place, the word of this number becomes another
abbrev pub IsWordAfter : (word after at k : ℕ) → List ℕ → Type 0
IsWordAfter word after at k put =
    (bytes : List ℕ) → All (λ byte. byte < 256) bytes → at + length put ≤ length bytes → word ≡ text_word bytes k
    → after ≡ text_word (splice bytes at (at + length put) put) k

-- the places of the words in which the bytes of an area lie from a place up to an end
abbrev pub touched_places : (start end : ℕ) → List ℕ
touched_places start end = places_from (head_words + start / 8) (touched_words start end)
