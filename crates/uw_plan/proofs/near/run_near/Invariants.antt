use Rattle.std.proofs.Common.{◌≤◌, ◌+◌, ◌-◌}
use Rattle.uw_words.specs.Parts.{seen}
use Rattle.uw_bitmap.specs.Bits.{is_marked}
use Rattle.uw_plan.proofs.Nearby.{AreFree}
use Rattle.uw_plan.proofs.near.run_near.Given as goal

abbrev pub invariant-loop-end : goal.invariant-loop-end
invariant-loop-end l =
    (l.first + l.m ≤ l.end) × (l.end ≤ l.shape.n_blocks) × AreFree (is_marked (seen l.over l.ram) l.shape) l.start l.end

abbrev pub decreases-loop-end : goal.decreases-loop-end
decreases-loop-end l = l.shape.n_blocks - l.end
