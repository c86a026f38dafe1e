use Rattle.std.proofs.Common.{◌≡◌, ℕ, length, refl, sym, ap, ◌∙◌, subst, Result, not, eqb, take, false}
use Rattle.uw_intent.specs.declared.frame.Frame.{Frame}
use Rattle.uw_intent.specs.declared.recoverable.CallFault.{CallFault}
use Rattle.uw_words.specs.Plans.{Plan, region}
use Rattle.uw_intent.specs.RedoRecord.{IsFrame, commit_writes}
use Rattle.uw_intent.proofs.Progress.{length-made}
use Rattle.uw_intent.specs.OneTurn.{end_of, has_call_died}
use Rattle.uw_model.specs.declared.areas.AreaAnswer.{AreaAnswer}
use Rattle.uw_model.specs.AreaLayout.{area_words}
use Rattle.uw_area.specs.declared.area.Held.{Held}
use Rattle.uw_area.specs.declared.area.Area.TheInside.{Inside}
use Rattle.uw_area.specs.contracts.area.Area.{the_view}
use Rattle.uw_area.specs.AreaWords.{area_frame}
use Rattle.uw_area.specs.AreaViews.{AreaView, HasOperated, IsStandingArea}
use Rattle.uw_area.proofs.Standing.{is_frame, standing_frame, call_all, call_some, call_none, call_closed, kept_behind}
use Rattle.uw_area.proofs.area.Area.call.Goals as goal
use Rattle.uw_area.proofs.area.Area.call.Goals.{in-Ok-commit, in-Err+in-Bytes-1, in-Err+in-Number-1}

pub returns-clause-operated : goal.returns-clause-operated
returns-clause-operated g c =
    let before = c.args.self.now in
    let held = c.deref_mut-held.result.now in
    let now : AreaView = record { size = held.size; words = c.commit.new.ram; plan = c.plan_op.new.over.writes } in
    let size : held.size ≡ before.size = ap (λ (h : Held). h.size) c.deref_mut-held.ensures.value ∙ ap (λ (v : AreaView). v.size) c.self.view_is in
    let words : held.ram ≡ before.words = ap (λ (h : Held). h.ram) c.deref_mut-held.ensures.value ∙ ap (λ (v : AreaView). v.words) c.self.view_is in
    let kept : IsStandingArea before.size c.self.inside.held.value.over.room before.words =
    subst (λ (v : AreaView). IsStandingArea v.size c.self.inside.held.value.over.room v.words) c.self.view_is c.self.invariant in
    elim c.match-commit.branch [
      | in-Ok-commit w ↦
          let operated = call_all before now c.args.op.now c.plan_op.new.over held.size held.ram c.frame_of-frame.result size words c.frame_of-frame.ensures
          refl refl c.in-Ok.ensures.plan (g.L.Life.allowances c.args.life.now) (g.L.Life.allowances c.commit.new.life)
          w.in-Ok-commit.ensures.all c.in-Ok.answer c.in-Ok.ensures.answer in
          subst (λ (i : Inside). HasOperated before (the_view i) c.args.op.now (g.L.Life.allowances c.args.life.now) (g.L.Life.allowances c.commit.new.life)
          (end_of c.match-commit.result)) (sym w.self-inside-is)
          (subst (λ (r : Result AreaAnswer CallFault). HasOperated before now c.args.op.now (g.L.Life.allowances c.args.life.now)
          (g.L.Life.allowances c.commit.new.life) (end_of r)) (sym w.result-is) operated)
      | in-Err+in-Bytes-1 w ↦
          let gate : w.is_pending.result ≡ not (eqb (region c.commit.new.ram 10) 0) =
          w.is_pending.ensures ∙ ap (λ (f : Frame). not (eqb (region c.commit.new.ram f.gate) 0)) c.frame_of-frame.ensures in
          let operated = call_some before now c.args.op.now c.plan_op.new.over held.size held.ram c.frame_of-frame.result size words c.frame_of-frame.ensures
          refl refl c.in-Ok.ensures.plan (g.L.Life.allowances c.args.life.now) (g.L.Life.allowances c.commit.new.life)
          w.in-Err.ensures.part c.self.inside.held.value.over.room kept c.requires.idle w.is_pending.result gate in
          subst (λ (i : Inside). HasOperated before (the_view i) c.args.op.now (g.L.Life.allowances c.args.life.now) (g.L.Life.allowances c.commit.new.life)
          (end_of c.match-commit.result)) (sym w.self-inside-is)
          (subst (λ (r : Result AreaAnswer CallFault). HasOperated before now c.args.op.now (g.L.Life.allowances c.args.life.now)
          (g.L.Life.allowances c.commit.new.life) (end_of r)) (sym w.result-is) operated)
      | in-Err+in-Number-1 w ↦
          let gate : w.is_pending.result ≡ not (eqb (region c.commit.new.ram 10) 0) =
          w.is_pending.ensures ∙ ap (λ (f : Frame). not (eqb (region c.commit.new.ram f.gate) 0)) c.frame_of-frame.ensures in
          let operated = call_some before now c.args.op.now c.plan_op.new.over held.size held.ram c.frame_of-frame.result size words c.frame_of-frame.ensures
          refl refl c.in-Ok.ensures.plan (g.L.Life.allowances c.args.life.now) (g.L.Life.allowances c.commit.new.life)
          w.in-Err.ensures.part c.self.inside.held.value.over.room kept c.requires.idle w.is_pending.result gate in
          subst (λ (i : Inside). HasOperated before (the_view i) c.args.op.now (g.L.Life.allowances c.args.life.now) (g.L.Life.allowances c.commit.new.life)
          (end_of c.match-commit.result)) (sym w.self-inside-is)
          (subst (λ (r : Result AreaAnswer CallFault). HasOperated before now c.args.op.now (g.L.Life.allowances c.args.life.now)
          (g.L.Life.allowances c.commit.new.life) (end_of r)) (sym w.result-is) operated)
    ]

pub invariant_of-self-2 : goal.invariant_of-self-2
invariant_of-self-2 g c =
    let before = c.args.self.now in
    let room = c.self.inside.held.value.over.room in
    let kept : IsStandingArea before.size c.self.inside.held.value.over.room before.words =
    subst (λ (v : AreaView). IsStandingArea v.size c.self.inside.held.value.over.room v.words) c.self.view_is c.self.invariant in
    let same : c.plan_op.new.over.room ≡ room = c.plan_op.ensures.room ∙ ap (λ (p : Plan). p.room) c.clear.ensures
    ∙ ap (λ (h : Held). h.over.room) c.deref_mut-held.ensures.value in
    let later : c.match-commit.self-inside.held.value.over.room ≡ room = elim c.match-commit.branch [
      | in-Ok-commit w ↦ ap (λ (i : Inside). i.held.value.over.room) w.self-inside-is ∙ same
      | in-Err+in-Bytes-1 w ↦ ap (λ (i : Inside). i.held.value.over.room) w.self-inside-is ∙ same
      | in-Err+in-Number-1 w ↦ ap (λ (i : Inside). i.held.value.over.room) w.self-inside-is ∙ same
    ] in
    kept_behind before (the_view c.match-commit.self-inside) c.args.op.now (g.L.Life.allowances c.args.life.now) (g.L.Life.allowances c.commit.new.life)
    (end_of c.match-commit.result) room
    c.match-commit.self-inside.held.value.over.room kept c.requires.idle later (returns-clause-operated g c)

pub is_pending-requires : goal.is_pending-requires
is_pending-requires g c =
    let held = c.deref_mut-held.result.now in
    let old = c.self.inside.held.value in
    let size : held.size ≡ old.size = ap (λ (h : Held). h.size) c.deref_mut-held.ensures.value in
    let len : length c.commit.new.ram ≡ area_words held.size =
    ap (length {A = ℕ}) c.in-Err.ensures.part.words ∙ length-made (take c.in-Err.ensures.part.count
    (commit_writes c.frame_of-frame.result c.plan_op.new.over.writes)) held.ram
    ∙ ap (λ (h : Held). length h.ram) c.deref_mut-held.ensures.value ∙ standing_frame old.size old.ram c.self.invariant.state c.self.invariant.stands
    ∙ ap area_words (sym size) in
    subst (λ (f : Frame). IsFrame f (length c.commit.new.ram)) (sym c.frame_of-frame.ensures) (is_frame held.size (length c.commit.new.ram) len)

pub returns-clause-closed : goal.returns-clause-closed
returns-clause-closed g c =
    let before = c.args.self.now in
    let held = c.deref_mut-held.result.now in
    let now : AreaView = record { size = held.size; words = c.commit.new.ram; plan = c.plan_op.new.over.writes } in
    let size : held.size ≡ before.size = ap (λ (h : Held). h.size) c.deref_mut-held.ensures.value ∙ ap (λ (v : AreaView). v.size) c.self.view_is in
    let words : held.ram ≡ before.words = ap (λ (h : Held). h.ram) c.deref_mut-held.ensures.value ∙ ap (λ (v : AreaView). v.words) c.self.view_is in
    let kept : IsStandingArea before.size c.self.inside.held.value.over.room before.words =
    subst (λ (v : AreaView). IsStandingArea v.size c.self.inside.held.value.over.room v.words) c.self.view_is c.self.invariant in
    elim c.match-commit.branch [
      | in-Ok-commit w ↦ λ alive.
          subst (λ (i : Inside). region i.held.value.ram 10 ≡ 0) (sym w.self-inside-is)
          (call_closed before now c.args.op.now c.plan_op.new.over held.size held.ram c.frame_of-frame.result size words c.frame_of-frame.ensures refl refl
          c.in-Ok.ensures.plan (g.L.Life.allowances c.args.life.now) (g.L.Life.allowances c.commit.new.life)
          w.in-Ok-commit.ensures.all c.self.inside.held.value.over.room kept c.requires.idle)
      | in-Err+in-Bytes-1 w ↦ λ alive. absurd (subst (λ (r : Result AreaAnswer CallFault). has_call_died r ≡ false → ⊥) (sym w.result-is) (λ same. cc) alive)
      | in-Err+in-Number-1 w ↦ λ alive. absurd (subst (λ (r : Result AreaAnswer CallFault). has_call_died r ≡ false → ⊥) (sym w.result-is) (λ same. cc) alive)
    ]

pub returns-in_default-clause-operated : goal.returns-in_default-clause-operated
returns-in_default-clause-operated g c =
    let before = c.args.self.now in
    let held = c.deref_mut-held.result.now in
    let now : AreaView = record { size = held.size; words = held.ram; plan = c.plan_op.new.over.writes } in
    let size : held.size ≡ before.size = ap (λ (h : Held). h.size) c.deref_mut-held.ensures.value ∙ ap (λ (v : AreaView). v.size) c.self.view_is in
    let words : held.ram ≡ before.words = ap (λ (h : Held). h.ram) c.deref_mut-held.ensures.value ∙ ap (λ (v : AreaView). v.words) c.self.view_is in
    call_none before now c.args.op.now c.plan_op.new.over held.size held.ram (area_frame held.size) size words refl refl refl c.plan_op.ensures.plan
    (g.L.Life.allowances c.args.life.now) (g.L.Life.allowances c.args.life.now) refl refl
