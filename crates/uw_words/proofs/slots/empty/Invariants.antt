use Rattle.std.proofs.Common.{◌≡◌, ◌≤◌, ◌<◌, ℕ, get_or, replicate}
use Rattle.std.specs.Vec.{vec_capacity}
use Rattle.uw_words.proofs.slots.empty.Given as goal

abbrev pub invariant-loop-slot : goal.invariant-loop-slot
invariant-loop-slot l = (k : ℕ) → k < l.slot-index → get_or l.slot-items k 0 ≡ 0

abbrev pub invariant-loop : goal.invariant-loop
invariant-loop l = record {
  zeros : l.slots.items ≡ replicate l.counter 0;
  within : l.counter ≤ l.len;
  capacity : vec_capacity l.fn.slots ≤ vec_capacity l.slots;
}
