use Rattle.std.proofs.Common.{◌≡◌, ◌≤◌, ℕ, ◌-◌, ◌<◌, false}
use Rattle.uw_model.specs.Placement.{is_free}
use Rattle.uw_model.specs.PlacementSteps.{counted}
use Rattle.uw_model.proofs.placement.first_run.Given as goal

abbrev pub invariant-loop-place : goal.invariant-loop-place
invariant-loop-place l = (l.place ≤ l.conf.blocks) × ((k : ℕ) → k < l.place → is_free l.conf (counted l.conf l.at l.entries) l.n k ≡ false)

abbrev pub decreases-loop-place : goal.decreases-loop-place
decreases-loop-place l = l.conf.blocks - l.place
