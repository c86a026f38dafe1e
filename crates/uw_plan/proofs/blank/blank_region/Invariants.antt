use Rattle.uw_plan.specs.BlankSteps.{HasFreeItems}
use Rattle.uw_plan.proofs.blank.blank_region.Given as goal

abbrev pub invariant-loop-item : goal.invariant-loop-item
invariant-loop-item l = HasFreeItems l.shape l.ram l.item
