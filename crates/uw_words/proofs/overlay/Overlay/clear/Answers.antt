use Rattle.std.proofs.Common.{length, ap, arith}
use Rattle.uw_words.proofs.Sound.{sound_empty}
use Rattle.uw_words.proofs.overlay.Overlay.clear.Goals as goal

pub invariant_of-self : goal.invariant_of-self
invariant_of-self c =
    let old = c.self.invariant.0 in (
      sound_empty c.self.inside.room c.self.inside.most_slots c.clear.new.self c.empty.new.slots c.clear.ensures.items
          (omega (arith, old.capacity, c.clear.ensures.capacity)) c.empty.ensures.empty (omega (arith, old.slots_capacity, c.empty.ensures.capacity))
          (omega (arith, old.fewest, old.most)) old.enough old.few,
      λ k h. absurd (omega (arith, h, ap length c.clear.ensures.items)),
    )
