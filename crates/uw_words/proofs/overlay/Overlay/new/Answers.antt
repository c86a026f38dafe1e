use Rattle.std.proofs.Common.{length, ap, arith}
use Rattle.uw_words.proofs.Sound.{sound_empty}
use Rattle.uw_words.proofs.overlay.Overlay.new.Goals as goal

pub invariant_of-result : goal.invariant_of-result
invariant_of-result c = (
  sound_empty c.args.room c.next_power_of_two-most_slots.result c.in_ok-writes.writes c.empty.new.slots c.in_ok-writes.ensures.items
      c.in_ok-writes.ensures.capacity c.empty.ensures.empty (omega (arith, c.in_ok-slots.ensures.capacity, c.empty.ensures.capacity))
      (omega (arith, c.next_power_of_two-most_slots.ensures.lower_bound)) (omega (arith, c.next_power_of_two-most_slots.ensures.lower_bound)) (omega arith),
  λ k h. absurd (omega (arith, h, ap length c.in_ok-writes.ensures.items)),
)
