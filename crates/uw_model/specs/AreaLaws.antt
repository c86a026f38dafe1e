-- What the laws of the areas speak of.
use Rattle.std.specs.Prelude.{ℕ, ◌+◌, Bool, true, false, length}
use Rattle.uw_model.specs.declared.areas.AreaAnswer.{AreaAnswer}
use Rattle.uw_model.specs.declared.areas.AreaAnswer.TheVariants as answers
use Rattle.uw_model.specs.declared.areas.AreaOp.{AreaOp}
use Rattle.uw_model.specs.declared.areas.AreaOp.TheVariants as ops
use Rattle.uw_model.specs.AreaOps.{width_bytes}

-- the answer refuses the operation
abbrev pub is_out_of_area : AreaAnswer → Bool
is_out_of_area (answers.Bytes bytes) = false
is_out_of_area (answers.Number number) = false
is_out_of_area answers.Done = false
is_out_of_area (answers.OutOfArea at len size) = true

-- the operation writes
abbrev pub is_area_write : AreaOp → Bool
is_area_write (ops.Read at len) = false
is_area_write (ops.Write at put) = true
is_area_write (ops.ReadNum at width) = false
is_area_write (ops.WriteNum at width value) = true
is_area_write (ops.IncNum at width by) = true
is_area_write (ops.DecNum at width by) = true
is_area_write ops.Updates = false

-- where the slice of an operation begins; 0 for the count of updates, which has none
abbrev pub op_start : AreaOp → ℕ
op_start (ops.Read at len) = at
op_start (ops.Write at put) = at
op_start (ops.ReadNum at width) = at
op_start (ops.WriteNum at width value) = at
op_start (ops.IncNum at width by) = at
op_start (ops.DecNum at width by) = at
op_start ops.Updates = 0

-- the place behind the slice of an operation
abbrev pub op_end : AreaOp → ℕ
op_end (ops.Read at len) = at + len
op_end (ops.Write at put) = at + length put
op_end (ops.ReadNum at width) = at + width_bytes width
op_end (ops.WriteNum at width value) = at + width_bytes width
op_end (ops.IncNum at width by) = at + width_bytes width
op_end (ops.DecNum at width by) = at + width_bytes width
op_end ops.Updates = 0
