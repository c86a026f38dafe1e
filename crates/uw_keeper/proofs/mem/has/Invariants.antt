use Rattle.std.proofs.Common.{◌≡◌, drop}
use Rattle.uw_keeper.specs.Rows.{has_row}
use Rattle.uw_keeper.proofs.mem.has.Given as goal

abbrev pub invariant-loop-row : goal.invariant-loop-row
invariant-loop-row l = has_row l.fn.number (drop l.row-index l.rows) ≡ has_row l.fn.number l.rows
