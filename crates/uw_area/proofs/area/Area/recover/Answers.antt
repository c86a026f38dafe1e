use Rattle.std.proofs.Common.{◌≡◌, length, sym, ap, ◌∙◌, subst}
use Rattle.uw_intent.specs.declared.frame.Frame.{Frame}
use Rattle.uw_intent.specs.RedoRecord.{IsFrame}
use Rattle.uw_model.specs.AreaLayout.{area_words}
use Rattle.uw_area.specs.declared.area.Held.{Held}
use Rattle.uw_area.proofs.Standing.{is_frame, standing_frame}
use Rattle.uw_area.proofs.area.Area.recover.Goals as goal

pub recover-requires-clause-frame : goal.recover-requires-clause-frame
recover-requires-clause-frame g c =
    let held = c.self.inside.held.value in
    let size : c.deref_mut-held.result.now.size ≡ held.size = ap (λ (h : Held). h.size) c.deref_mut-held.ensures.value in
    let len : length c.deref_mut-held.result.now.ram ≡ area_words c.deref_mut-held.result.now.size =
    ap (λ (h : Held). length h.ram) c.deref_mut-held.ensures.value ∙ standing_frame held.size held.ram c.self.invariant.state c.self.invariant.stands
    ∙ ap area_words (sym size) in
    subst (λ (f : Frame). IsFrame f (length c.deref_mut-held.result.now.ram)) (sym c.frame_of.ensures)
    (is_frame c.deref_mut-held.result.now.size (length c.deref_mut-held.result.now.ram) len)
