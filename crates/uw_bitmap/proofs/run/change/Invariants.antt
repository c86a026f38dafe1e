use Rattle.uw_bitmap.proofs.Runs.{IsChangedUpTo}
use Rattle.uw_bitmap.proofs.run.change.Given as goal

abbrev pub invariant-loop-index : goal.invariant-loop-index
invariant-loop-index l = IsChangedUpTo l.value l.shape l.ram l.fn.over l.over l.fn.first l.fn.n l.index
