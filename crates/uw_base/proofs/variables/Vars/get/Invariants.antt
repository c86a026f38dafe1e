use Rattle.std.proofs.Common.{◌≡◌, take}
use Rattle.uw_base.specs.Variables.{value_of}
use Rattle.uw_base.proofs.variables.Vars.get.Given as goal

abbrev pub invariant-loop-place : goal.invariant-loop-place
invariant-loop-place l = value_of (take l.place l.self) l.key ≡ value_of l.self l.key
