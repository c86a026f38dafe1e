use Rattle.std.proofs.Common.{◌<◌, ◌≤◌, ◌-◌, ◌^◌, length}
use Rattle.uw_check.specs.Checking.{HaveLines, LedBy}
use Rattle.uw_check.proofs.checking.check_conf.Given as goal

-- the readings so far
abbrev pub invariant-readings : goal.invariant-readings
invariant-readings g l = record {
  led : LedBy l.told l.text (g.M.Patterns.faults l.fn.make) l.left (g.M.Patterns.faults l.make);
  lines : HaveLines l.told;
  few : length l.told ≤ 50;
  short : length l.left < 2 ^ 32;
}

abbrev pub decreases-readings : goal.decreases-readings
decreases-readings g l = 50 - length l.told
