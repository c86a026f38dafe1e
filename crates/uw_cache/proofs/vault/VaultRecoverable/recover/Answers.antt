use Rattle.std.proofs.Common.{◌∙◌, ap}
use Rattle.uw_plan.specs.Regions.{frame_of}
use Rattle.uw_cache.proofs.VaultLemmas.{mended, opened, vault_of}
use Rattle.uw_cache.proofs.vault.VaultRecoverable.recover.Goals as goal

pub invariant_of-self : goal.invariant_of-self
invariant_of-self g c =
    let held = c.deref_mut-held.result.now in
    let o = opened held c.self.inside.held.value c.args.self.now c.deref_mut-held.ensures.value c.self.view_is c.self.invariant in
    let framed = c.frame_of-frame.ensures ∙ ap frame_of c.shape_of.ensures.parts in
    let repaired = c.recover.ensures in
    let stands = mended held.conf held.ram c.recover.new.ram c.frame_of-frame.result framed repaired.intact repaired.same o.was.list o.was.stands in
    vault_of held.conf o.was.is c.recover.new.ram held.over held.blank o.was.list o.was.room o.was.empty stands
