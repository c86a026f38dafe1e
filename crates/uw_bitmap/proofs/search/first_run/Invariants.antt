use Rattle.std.proofs.Common.{◌-◌}
use Rattle.uw_words.specs.Parts.{seen}
use Rattle.uw_bitmap.specs.Bits.{is_marked}
use Rattle.uw_bitmap.specs.SearchSteps.{IsSought}
use Rattle.uw_bitmap.proofs.search.first_run.Given as goal

abbrev pub invariant-loop-at : goal.invariant-loop-at
invariant-loop-at l = IsSought (is_marked (seen l.over l.ram) l.shape) l.n l.start l.at

abbrev pub decreases-loop-at : goal.decreases-loop-at
decreases-loop-at l = l.shape.n_blocks - l.at
