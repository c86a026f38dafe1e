-- The words of the region of a shared area: the header, the bytes and the redo record, one behind the other (own rule).
use Rattle.std.specs.Prelude.{ℕ, ◌+◌, ◌*◌, min}
use Rattle.std.specs.Int.{div_ceil}
use Rattle.uw_model.specs.Layout.{head_words}

-- words of an area's bytes
abbrev pub byte_words : ℕ → ℕ
byte_words size = div_ceil size 8

-- how many words an operation may plan: those of one write, at most all of the area, and what stands beside them
abbrev pub area_plan_room : ℕ → ℕ
area_plan_room size = 8 + min 8194 (byte_words size)

-- words of the region of an area of so many bytes
abbrev pub area_words : ℕ → ℕ
area_words size = head_words + byte_words size + 3 * area_plan_room size
