use Rattle.std.proofs.Common.{ap, ◌∙◌, subst, sym}
use Rattle.uw_model.specs.declared.areas.AreaAnswer.TheVariants as answers
use Rattle.uw_model.specs.declared.areas.AreaOp.{AreaOp}
use Rattle.uw_model.specs.AreaOps.{area_answer}
use Rattle.uw_area.specs.AreaSteps.{PlansOp}
use Rattle.uw_area.proofs.Planning.{plans_read, plans_read_num, plans_updates}
use Rattle.uw_area.proofs.ops.plan_op.Goals as goal

pub returns-in-Read-clause-plan : goal.returns-in-Read-clause-plan
returns-in-Read-clause-plan c =
    subst (λ (op : AreaOp). PlansOp c.args.size c.args.ram.now op c.args.over.now) (sym c.in-Read.is)
    (plans_read c.args.size c.args.ram.now _ _ c.args.over.now c.requires.empty)

pub returns-in-ReadNum-clause-plan : goal.returns-in-ReadNum-clause-plan
returns-in-ReadNum-clause-plan c =
    subst (λ (op : AreaOp). PlansOp c.args.size c.args.ram.now op c.args.over.now) (sym c.in-ReadNum.is)
    (plans_read_num c.args.size c.args.ram.now _ _ c.args.over.now c.requires.empty)

pub returns-in-Updates-clause-plan : goal.returns-in-Updates-clause-plan
returns-in-Updates-clause-plan c =
    subst (λ (op : AreaOp). PlansOp c.args.size c.args.ram.now op c.args.over.now) (sym c.in-Updates.is)
    (plans_updates c.args.size c.args.ram.now c.args.over.now c.requires.empty)

pub returns-in-Updates-clause-answer : goal.returns-in-Updates-clause-answer
unfolding area_answer
returns-in-Updates-clause-answer c area holds =
    ap answers.Number (c.load.ensures ∙ holds.updates) ∙ ap (area_answer area) (sym c.in-Updates.is)
