use Rattle.std.proofs.Common.{◌≡◌, ◌∙◌, List, refl, ap}
use Rattle.uw_model.specs.declared.entries.Entry.{Entry}
use Rattle.uw_model.specs.Calls.{answer}
use Rattle.uw_model.specs.Layout.{plan_room}
use Rattle.uw_words.specs.Plans.{Plan}
use Rattle.uw_plan.specs.Agreement.{Agrees}
use Rattle.uw_plan.specs.Regions.{frame_of, shape_of}
use Rattle.uw_cache.proofs.VaultLemmas.{all_closed, all_vault, answered, broken, copied_where, idle_agrees, opened, some_frame, some_vault, unmade}
use Rattle.uw_cache.proofs.vault.Vault.call.Goals.{in-Ok-commit, in-Err+in-Value-1, in-Err+in-Keys-1, in-Err+in-Missing-1}
use Rattle.uw_cache.proofs.vault.Vault.call.Goals as goal

pub told-requires-clause-tells : goal.told-requires-clause-tells
told-requires-clause-tells g c =
    let held = c.deref_mut-held.result.now in
    let o = opened held c.self.inside.held.value c.args.self.now c.deref_mut-held.ensures.value c.self.view_is c.self.invariant in
    let agrees = idle_agrees held c.args.self.now o c.requires.idle in
    (answer held.conf o.was.list c.args.moment c.args.call.now, c.plan_call-planned.ensures.tells o.was.list agrees)

pub returns-in_default-clause-made : goal.returns-in_default-clause-made
returns-in_default-clause-made g c =
    let held = c.deref_mut-held.result.now in
    let o = opened held c.self.inside.held.value c.args.self.now c.deref_mut-held.ensures.value c.self.view_is c.self.invariant in
    unmade held c.args.self.now o c.requires.idle (frame_of (shape_of held.conf)) refl c.plan_call-planned.new.over.writes c.args.moment
    c.args.call.now _ _ c.plan_call-planned.ensures.right refl
    (c.plan_call-planned.ensures.copies (copied_where c.plan_call-planned.result c.in_default.field-0 c.told.result c.in_default.is c.told.ensures.ready))

pub is_pending-requires : goal.is_pending-requires
is_pending-requires g c =
    let held = c.deref_mut-held.result.now in
    let o = opened held c.self.inside.held.value c.args.self.now c.deref_mut-held.ensures.value c.self.view_is c.self.invariant in
    some_frame held c.args.self.now o c.requires.idle c.frame_of-frame.result (c.frame_of-frame.ensures ∙ ap frame_of c.shape_of.ensures.parts)
    c.plan_call-planned.new.over.writes c.args.moment c.args.call.now _ _ c.plan_call-planned.ensures.right c.commit.new.ram c.in-Err.ensures.part

pub invariant_of-self-2 : goal.invariant_of-self-2
invariant_of-self-2 g c =
    let held = c.deref_mut-held.result.now in
    let o = opened held c.self.inside.held.value c.args.self.now c.deref_mut-held.ensures.value c.self.view_is c.self.invariant in
    let room : c.plan_call-planned.new.over.room ≡ plan_room held.conf =
    c.plan_call-planned.ensures.room ∙ ap (λ (plan : Plan). plan.room) c.clear.ensures ∙ o.was.room in
    let all = all_vault held c.args.self.now o c.requires.idle c.frame_of-frame.result (c.frame_of-frame.ensures ∙ ap frame_of c.shape_of.ensures.parts)
    c.plan_call-planned.new.over.writes c.args.moment c.args.call.now _ _ c.plan_call-planned.ensures.right c.commit.new.ram in
    let some = some_vault held c.args.self.now o c.requires.idle c.frame_of-frame.result (c.frame_of-frame.ensures ∙ ap frame_of c.shape_of.ensures.parts)
    c.plan_call-planned.new.over.writes c.args.moment c.args.call.now _ _ c.plan_call-planned.ensures.right c.commit.new.ram in
    elim c.match-commit.branch [
      | in-Ok-commit w ↦ rw w.self-inside-is (all w.in-Ok-commit.ensures.all c.plan_call-planned.new.over room)
      | in-Err+in-Value-1 w ↦ rw w.self-inside-is (some w.in-Err.ensures.part c.plan_call-planned.new.over room)
      | in-Err+in-Keys-1 w ↦ rw w.self-inside-is (some w.in-Err.ensures.part c.plan_call-planned.new.over room)
      | in-Err+in-Missing-1 w ↦ rw w.self-inside-is (some w.in-Err.ensures.part c.plan_call-planned.new.over room)
    ]

pub returns-clause-made : goal.returns-clause-made
returns-clause-made g c =
    let held = c.deref_mut-held.result.now in
    let o = opened held c.self.inside.held.value c.args.self.now c.deref_mut-held.ensures.value c.self.view_is c.self.invariant in
    let same = λ (list : List Entry) (agrees : Agrees held.conf held.ram list).
    c.in-Ok.ensures.answer (answer held.conf list c.args.moment c.args.call.now) (c.plan_call-planned.ensures.tells list agrees) in
    let all = answered held c.args.self.now o c.requires.idle c.frame_of-frame.result (c.frame_of-frame.ensures ∙ ap frame_of c.shape_of.ensures.parts)
    c.plan_call-planned.new.over.writes c.args.moment c.args.call.now _ _ c.plan_call-planned.ensures.right c.commit.new.ram in
    let some = broken held c.args.self.now o c.requires.idle c.frame_of-frame.result (c.frame_of-frame.ensures ∙ ap frame_of c.shape_of.ensures.parts)
    c.plan_call-planned.new.over.writes c.args.moment c.args.call.now _ _ c.plan_call-planned.ensures.right c.commit.new.ram in
    elim c.match-commit.branch [
      | in-Ok-commit w ↦ rw (w.result-is, w.self-inside-is) (all w.in-Ok-commit.ensures.all c.in-Ok.answer same)
      | in-Err+in-Value-1 w ↦ rw (w.result-is, w.self-inside-is) (some w.in-Err.ensures.part w.is_pending.result w.is_pending.ensures)
      | in-Err+in-Keys-1 w ↦ rw (w.result-is, w.self-inside-is) (some w.in-Err.ensures.part w.is_pending.result w.is_pending.ensures)
      | in-Err+in-Missing-1 w ↦ rw (w.result-is, w.self-inside-is) (some w.in-Err.ensures.part w.is_pending.result w.is_pending.ensures)
    ]

pub returns-clause-closed : goal.returns-clause-closed
returns-clause-closed g c =
    let held = c.deref_mut-held.result.now in
    let o = opened held c.self.inside.held.value c.args.self.now c.deref_mut-held.ensures.value c.self.view_is c.self.invariant in
    let all = all_closed held c.args.self.now o c.requires.idle c.frame_of-frame.result (c.frame_of-frame.ensures ∙ ap frame_of c.shape_of.ensures.parts)
    c.plan_call-planned.new.over.writes c.args.moment c.args.call.now _ _ c.plan_call-planned.ensures.right c.commit.new.ram in
    elim c.match-commit.branch [
      | in-Ok-commit w ↦ λ alive. rw w.self-inside-is (all w.in-Ok-commit.ensures.all)
      | in-Err+in-Value-1 w ↦ rw w.result-is (λ dead. absurd (let never : ⊥ = cc in never))
      | in-Err+in-Keys-1 w ↦ rw w.result-is (λ dead. absurd (let never : ⊥ = cc in never))
      | in-Err+in-Missing-1 w ↦ rw w.result-is (λ dead. absurd (let never : ⊥ = cc in never))
    ]

pub returns-clause-cause : goal.returns-clause-cause
returns-clause-cause g c =
    elim c.match-commit.branch [
      | in-Ok-commit w ↦ rw w.result-is w.in-Ok-commit.ensures.cause
      | in-Err+in-Value-1 w ↦ rw w.result-is w.in-Err.ensures.cause
      | in-Err+in-Keys-1 w ↦ rw w.result-is w.in-Err.ensures.cause
      | in-Err+in-Missing-1 w ↦ rw w.result-is w.in-Err.ensures.cause
    ]
