use Rattle.std.proofs.Common.{◌≡◌, ◌+◌, ◌≤◌, drop}
use Rattle.uw_top.specs.Spool.{gone_rows}
use Rattle.uw_top.proofs.spool.gone_rows.Given as goal

-- the rows so far that went, and those of the rows that are left
abbrev pub invariant-loop-line : goal.invariant-loop-line
invariant-loop-line l = record {
  counted : l.gone + gone_rows (drop l.line-index l.report) ≡ gone_rows l.report;
  few : l.gone ≤ l.line-index;
}
