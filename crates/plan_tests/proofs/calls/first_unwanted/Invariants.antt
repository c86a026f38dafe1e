use Rattle.plan_tests.specs.Twins.{AreTwins}
use Rattle.plan_tests.proofs.calls.first_unwanted.Given as goal

abbrev pub invariant-loop-row : goal.invariant-loop-row
invariant-loop-row l = AreTwins l.twin
