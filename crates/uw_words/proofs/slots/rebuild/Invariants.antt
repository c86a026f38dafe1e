use Rattle.std.proofs.Common.{◌≡◌, ◌≤◌, take, vec_len}
use Rattle.std.specs.Vec.{vec_capacity}
use Rattle.uw_words.specs.Slots.{IsTable}
use Rattle.uw_words.proofs.slots.rebuild.Given as goal

abbrev pub invariant-loop-k : goal.invariant-loop-k
invariant-loop-k l = record {
  table : IsTable (take l.k l.plan) l.slots.items;
  len : vec_len l.slots ≡ l.len;
  capacity : vec_capacity l.fn.slots ≤ vec_capacity l.slots;
}
