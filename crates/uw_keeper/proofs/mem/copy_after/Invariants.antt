use Rattle.std.proofs.Common.{◌≡◌, drop}
use Rattle.uw_keeper.specs.Rows.{row_after}
use Rattle.uw_keeper.proofs.mem.copy_after.Given as goal

abbrev pub invariant-loop-row : goal.invariant-loop-row
invariant-loop-row l = row_after l.fn.number (drop l.row-index l.rows) ≡ row_after l.fn.number l.rows
