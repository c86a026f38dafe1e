use Rattle.std.proofs.Common.{◌≤◌}
use Rattle.uw_words.specs.Parts.{seen}
use Rattle.uw_bitmap.specs.Bits.{is_marked}
use Rattle.uw_plan.proofs.Nearby.{AreFree}
use Rattle.uw_plan.proofs.near.free_back.Given as goal

abbrev pub invariant-loop-start : goal.invariant-loop-start
invariant-loop-start l = (l.start ≤ l.first) × AreFree (is_marked (seen l.over l.ram) l.shape) l.start l.first

abbrev pub decreases-loop-start : goal.decreases-loop-start
decreases-loop-start l = l.start
