use Rattle.std.proofs.Common.{◌≡◌, ◌≤◌, ◌-◌, length, drop}
use Rattle.uw_intent.specs.CursorSteps.{IsOnRuns, writes_ahead}
use Rattle.uw_intent.proofs.Repairs.{run_repairs}
use Rattle.uw_intent.proofs.recovery.nth_repair.Given as goal

abbrev pub invariant-loop : goal.invariant-loop
invariant-loop l = record {
  first : 1 ≤ l.counter;
  runs : IsOnRuns l.ram l.cursor;
  within : l.counter - 1 ≤ length (run_repairs l.frame l.ram);
  ahead : drop (l.counter - 1) (run_repairs l.frame l.ram) ≡ writes_ahead l.cursor l.ram;
}
