use Rattle.std.proofs.Common.{◌≡◌, ◌≤◌, length}
use Rattle.uw_model.specs.Placement.{longest_front}
use Rattle.uw_model.proofs.placement.longest_front.Given as goal

abbrev pub invariant-fronts : goal.invariant-fronts
invariant-fronts l = (l.count ≤ length l.entries) × (longest_front l.conf l.entries l.n (length l.entries) ≡ longest_front l.conf l.entries l.n l.count)

abbrev pub decreases-fronts : goal.decreases-fronts
decreases-fronts l = l.count
