use Rattle.std.proofs.Common.{◌-◌, length}
use Rattle.uw_subst.specs.PartSteps.{AreReadUpTo}
use Rattle.uw_subst.proofs.reading.parts_of.Given as goal

-- the parts so far say what the text says up to the place
abbrev pub invariant-loop-at : goal.invariant-loop-at
invariant-loop-at l = AreReadUpTo l.text l.parts.items l.at

abbrev pub decreases-loop-at : goal.decreases-loop-at
decreases-loop-at l = length l.text - l.at
