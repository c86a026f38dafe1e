-- A shared area as plain bytes: what each operation answers and leaves ("SharedArea"). Numbers have no sign, stand with their lowest byte first, and wrap.
use Rattle.std.specs.Prelude.{ℕ, ◌≤◌, ◌+◌, ◌-◌, ◌%◌, ◌/◌, ◌^◌, nat_le, if◌then◌else◌, List, length, replicate, slice_range}
use Rattle.std.specs.Int.{w8, w16, w32, w64, from_le_bytes, to_le_bytes}
use Rattle.std.specs.List.{splice}
use Rattle.uw_model.specs.declared.areas.AreaAnswer.{AreaAnswer}
use Rattle.uw_model.specs.declared.areas.AreaAnswer.TheVariants as answers
use Rattle.uw_model.specs.declared.areas.AreaOp.{AreaOp}
use Rattle.uw_model.specs.declared.areas.AreaOp.TheVariants as ops
use Rattle.uw_model.specs.declared.areas.Width.{Width}
use Rattle.uw_model.specs.declared.areas.Width.TheVariants as widths

-- the bytes that an area may have
abbrev pub IsAreaSize : ℕ → Type 0
IsAreaSize size = (1 ≤ size) × (size ≤ 16777216)

-- an area: its bytes, and how many writes were not refused, modulo 2^64
pub record AreaState : Type 0 where
  pub bytes : List ℕ
  pub updates : ℕ

-- an area of so many bytes, which are 0
abbrev pub blank_area : ℕ → AreaState
blank_area size = record { bytes = replicate size 0; updates = 0 }

-- the bits of a number of a width
abbrev pub width_bits : Width → ℕ
width_bits widths.W8 = 8
width_bits widths.W16 = 16
width_bits widths.W32 = 32
width_bits widths.W64 = 64

-- the bytes of a number of a width
abbrev pub width_bytes : Width → ℕ
width_bytes width = width_bits width / 8

-- the number that bytes of a width stand for, the lowest first
abbrev pub number_of_bytes : Width → List ℕ → ℕ
number_of_bytes widths.W8 bytes = from_le_bytes w8 bytes
number_of_bytes widths.W16 bytes = from_le_bytes w16 bytes
number_of_bytes widths.W32 bytes = from_le_bytes w32 bytes
number_of_bytes widths.W64 bytes = from_le_bytes w64 bytes

-- the bytes of what is left of a number in a width, the lowest first
abbrev pub bytes_in_width : Width → ℕ → List ℕ
bytes_in_width widths.W8 number = to_le_bytes w8 (number % 2 ^ 8)
bytes_in_width widths.W16 number = to_le_bytes w16 (number % 2 ^ 16)
bytes_in_width widths.W32 number = to_le_bytes w32 (number % 2 ^ 32)
bytes_in_width widths.W64 number = to_le_bytes w64 (number % 2 ^ 64)

-- the number at a place
abbrev pub number_at_place : AreaState → ℕ → Width → ℕ
number_at_place area at width = number_of_bytes width (slice_range area.bytes at (at + width_bytes width))

-- the sum of numbers of a width, which wraps
abbrev pub sum_in : Width → ℕ → ℕ → ℕ
sum_in width number by = (number + by) % 2 ^ width_bits width

-- the difference of numbers of a width, which wraps
abbrev pub difference_in : Width → ℕ → ℕ → ℕ
difference_in width number by = (number + (2 ^ width_bits width - by % 2 ^ width_bits width)) % 2 ^ width_bits width

-- an answer where the slice lies within the area, else that it does not
abbrev pub within_area : AreaState → ℕ → ℕ → AreaAnswer → AreaAnswer
within_area area at len answer = if nat_le (at + len) (length area.bytes) then answer else answers.OutOfArea at len (length area.bytes)

-- the area with bytes in place of as many at a place, where they lie within it, and one write more; else the area as it is
abbrev pub with_bytes : AreaState → ℕ → List ℕ → AreaState
with_bytes area at put =
    if nat_le (at + length put) (length area.bytes)
    then record { bytes = splice area.bytes at (at + length put) put; updates = (area.updates + 1) % 2 ^ 64 }
    else area

-- the answer of an operation
unfoldable pub area_answer : AreaState → AreaOp → AreaAnswer
area_answer area (ops.Read at len) = within_area area at len (answers.Bytes (slice_range area.bytes at (at + len)))
area_answer area (ops.Write at put) = within_area area at (length put) answers.Done
area_answer area (ops.ReadNum at width) = within_area area at (width_bytes width) (answers.Number (number_at_place area at width))
area_answer area (ops.WriteNum at width value) = within_area area at (width_bytes width) answers.Done
area_answer area (ops.IncNum at width by) = within_area area at (width_bytes width) (answers.Number (sum_in width (number_at_place area at width) by))
area_answer area (ops.DecNum at width by) = within_area area at (width_bytes width) (answers.Number (difference_in width (number_at_place area at width) by))
area_answer area ops.Updates = answers.Number area.updates

-- the area after an operation
unfoldable pub area_next : AreaState → AreaOp → AreaState
area_next area (ops.Read at len) = area
area_next area (ops.Write at put) = with_bytes area at put
area_next area (ops.ReadNum at width) = area
area_next area (ops.WriteNum at width value) = with_bytes area at (bytes_in_width width value)
area_next area (ops.IncNum at width by) = with_bytes area at (bytes_in_width width (sum_in width (number_at_place area at width) by))
area_next area (ops.DecNum at width by) = with_bytes area at (bytes_in_width width (difference_in width (number_at_place area at width) by))
area_next area ops.Updates = area
