-- The region of a shared area as a kind of region (own rule).
use Rattle.std.specs.Prelude.{ℕ, ◌+◌, ◌-◌, ◌*◌, ◌/◌, ◌&&◌, nat_le, if◌then◌else◌, length}
use Rattle.std.specs.Int.{div_ceil}
use Rattle.uw_model.specs.declared.areas.AreaAnswer.{AreaAnswer}
use Rattle.uw_model.specs.declared.areas.AreaOp.{AreaOp}
use Rattle.uw_model.specs.AreaLaws.{is_area_write, op_end, op_start}
use Rattle.uw_model.specs.AreaOps.{AreaState, area_answer, area_next}
use Rattle.uw_intent.specs.Standing.{Kind}
use Rattle.uw_area.specs.AreaWords.{AgreesWithArea, area_frame}

-- how many words the bytes from a place up to an end lie in
abbrev pub touched_words : (start end : ℕ) → ℕ
touched_words start end = div_ceil end 8 - start / 8

-- how many word writes an operation makes at most: none where it does not write or is refused, else four for each word that is
-- planned, which are those of its bytes and the count of updates, and three more
abbrev pub most_area_writes : AreaState → AreaOp → ℕ
most_area_writes area op =
    if is_area_write op && nat_le (op_end op) (length area.bytes) then 4 * (touched_words (op_start op) (op_end op) + 1) + 3 else 0

-- the kind of the region of an area of so many bytes: a call of it is an operation of the area, at whatever moment
abbrev pub area_kind : ℕ → Kind AreaState AreaOp AreaAnswer
area_kind size = record {
  frame = area_frame size;
  agrees = AgreesWithArea size;
  answer = λ area moment op. area_answer area op;
  next = λ area moment op. area_next area op;
  most = λ area moment op. most_area_writes area op;
}
