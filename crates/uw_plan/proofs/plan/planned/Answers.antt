use Rattle.std.proofs.Common.{◌∙◌, ℕ, List, map, refl, sym, ap, subst}
use Rattle.uw_model.specs.declared.calls.Answer.TheVariants as answers
use Rattle.uw_model.specs.declared.calls.Call.{Call}
use Rattle.uw_model.specs.declared.calls.Call.TheVariants as calls
use Rattle.uw_model.specs.declared.entries.Entry.{Entry}
use Rattle.uw_model.specs.Calls.{answer}
use Rattle.uw_model.specs.Placement.{alive_of}
use Rattle.uw_plan.specs.CallPlanSteps.{IsPlanned}
use Rattle.uw_plan.specs.declared.writes.Reckoning.{Reckoning}
use Rattle.uw_plan.proofs.Agreeing.{list_once}
use Rattle.uw_plan.proofs.Calling.{unchanged}
use Rattle.uw_plan.proofs.plan.planned.Goals as goal

pub returns-in-Keys-clause-plan : goal.returns-in-Keys-clause-plan
returns-in-Keys-clause-plan c = λ list agrees.
    subst (λ (call : Call). IsPlanned c.args.conf.now c.args.ram.now c.args.over.now list c.args.moment call) (sym c.in-Keys.is)
    (unchanged c.args.conf.now c.args.ram.now c.args.over.now c.requires list agrees c.args.moment calls.Keys refl)

pub returns-in-Keys-clause-tells : goal.returns-in-Keys-clause-tells
returns-in-Keys-clause-tells c = λ list agrees. (
  c.requires.empty,
  λ other held.
      ap (answer c.args.conf.now list c.args.moment) c.in-Keys.is
      ∙ ap (λ (l : List Entry). answers.Keys (map (λ (e : Entry). e.key) (alive_of c.args.conf.now c.args.moment l)))
      (list_once c.args.conf.now c.args.ram.now list other c.requires.is agrees held),
)

pub returns-in-Sweep-clause-plan : goal.returns-in-Sweep-clause-plan
returns-in-Sweep-clause-plan c = λ list agrees.
    subst (λ (call : Call). IsPlanned c.args.conf.now c.args.ram.now c.plan_sweep.new.over list c.args.moment call) (sym c.in-Sweep.is) (c.plan_sweep.ensures.plan list agrees)

pub returns-in-Math-clause-plan : goal.returns-in-Math-clause-plan
returns-in-Math-clause-plan c = λ list agrees.
    let is = c.in-Math.is ∙ ap (λ (key : List ℕ). calls.Math c.in-Math.op key c.in-Math.by c.in-Math.ttl) (sym c.as_slice-in-Math.ensures)
    ∙ ap (λ (r : Reckoning). calls.Math r.op c.as_slice-in-Math.result.now r.by r.ttl) (sym c.new-reckoning.ensures) in
    subst (λ (call : Call). IsPlanned c.args.conf.now c.args.ram.now c.plan_math.new.over list c.args.moment call) (sym is) (c.plan_math.ensures.plan list agrees)

pub returns-in-Math-clause-tells : goal.returns-in-Math-clause-tells
returns-in-Math-clause-tells c = λ list agrees.
    let is = c.in-Math.is ∙ ap (λ (key : List ℕ). calls.Math c.in-Math.op key c.in-Math.by c.in-Math.ttl) (sym c.as_slice-in-Math.ensures)
    ∙ ap (λ (r : Reckoning). calls.Math r.op c.as_slice-in-Math.result.now r.by r.ttl) (sym c.new-reckoning.ensures) in
    c.plan_math.ensures.answer list agrees ∙ sym (ap (answer c.args.conf.now list c.args.moment) is)
