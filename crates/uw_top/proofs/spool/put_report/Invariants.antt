use Rattle.std.proofs.Common.{◌≡◌, ◌++◌, drop}
use Rattle.uw_top.specs.Spool.{report_text}
use Rattle.uw_top.proofs.spool.put_report.Given as goal

-- the lines so far, and those of the rows that are left
abbrev pub invariant-loop-line : goal.invariant-loop-line
invariant-loop-line l = l.text ++ report_text (drop l.line-index l.report) ≡ l.fn.text ++ report_text l.report
