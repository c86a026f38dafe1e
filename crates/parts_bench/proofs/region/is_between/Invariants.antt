use Rattle.std.proofs.Common.{ℕ, ◌<◌, ◌≤◌}
use Rattle.uw_words.specs.Slots.{place}
use Rattle.parts_bench.proofs.region.is_between.Given as goal

abbrev pub invariant-loop-k : goal.invariant-loop-k
invariant-loop-k l = (k : ℕ) → k < l.k → (16 ≤ place l.plan.writes k) × (place l.plan.writes k < l.shape.intent)
