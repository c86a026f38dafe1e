use Rattle.std.proofs.Common.{◌∙◌, ap, subst, sym}
use Rattle.uw_model.specs.declared.calls.Answer.TheVariants as answers
use Rattle.uw_plan.specs.Told.{Tells}
use Rattle.uw_plan.specs.declared.plan.PlanAnswer.{PlanAnswer}
use Rattle.uw_plan.proofs.tells.told.Goals as goal

pub returns-in_ok-keys-in-KeyList-clause-answer : goal.returns-in_ok-keys-in-KeyList-clause-answer
returns-in_ok-keys-in-KeyList-clause-answer c = λ b tells.
    let some = c.requires.region in
    let told = subst (λ (answer : PlanAnswer). Tells c.args.conf.now c.args.ram.now c.args.over.now c.args.moment answer b) c.in-KeyList.is tells in
    ap answers.Keys (c.in_ok-keys-in-KeyList.ensures some.0 some.1) ∙ sym (told.1 some.0 some.1)
