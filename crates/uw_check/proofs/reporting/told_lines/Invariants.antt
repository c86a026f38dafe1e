use Rattle.std.proofs.Common.{take}
use Rattle.uw_check.specs.Reports.{TellsEach}
use Rattle.uw_check.proofs.reporting.told_lines.Given as goal

-- a line for each fault so far
abbrev pub invariant-loop-fault : goal.invariant-loop-fault
invariant-loop-fault l = TellsEach l.path (take l.fault-index l.told) l.out
