use Rattle.uw_plan.specs.BlankSteps.{HasHead}
use Rattle.uw_plan.proofs.blank.put_head.Given as goal

abbrev pub invariant-loop-at : goal.invariant-loop-at
invariant-loop-at l = HasHead l.shape l.ram l.at
