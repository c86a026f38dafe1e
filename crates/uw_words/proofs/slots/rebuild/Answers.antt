use Rattle.std.proofs.Common.{◌+◌, ℕ, List, refl, subst}
use Rattle.uw_words.specs.Slots.{place}
use Rattle.uw_words.specs.SlotSteps.{Ends}
use Rattle.std.proofs.Common.{take}
use Rattle.uw_words.proofs.Tables.{table_next}
use Rattle.uw_words.proofs.slots.rebuild.Goals as goal

pub loop-k-preserved : goal.loop-k-preserved
loop-k-preserved c =
    let plan = c.args.plan.now in
    let k = c.loop-k.k in
    let ends : Ends (take k plan) c.loop-k.slots.items (place plan k) c.seek-slot.result =
    subst (λ (l : List ℕ). Ends (take k plan) l (place plan k) c.seek-slot.result) c.deref.ensures.value c.seek-slot.ensures in
    record {
      table = table_next plan c.loop-k.slots.items k c.seek-slot.result (k + 1) c.requires.distinct c.loop-k-test.true c.loop-k.invariant.table ends refl;
      len = c.loop-k.invariant.len;
      capacity = c.loop-k.invariant.capacity;
    }
