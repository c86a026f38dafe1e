use Rattle.std.proofs.Common.{length, sym, ◌∙◌}
use Rattle.uw_model.specs.declared.areas.AreaAnswer.TheVariants as answers
use Rattle.uw_model.specs.AreaOps.{area_answer}
use Rattle.uw_area.proofs.Planning.{answered, refused, plans_refused}
use Rattle.uw_area.proofs.ops.write.Goals as goal

pub returns-then-not-is_inside-clause-answer : goal.returns-then-not-is_inside-clause-answer
unfolding area_answer
returns-then-not-is_inside-clause-answer c area holds =
    c.out_of_area.ensures ∙ refused area c.args.size c.args.at (length c.args.bytes.now) answers.Done holds.many (sym c.is_inside.ensures
    ∙ c.if-not-is_inside.true)

pub returns-clause-answer : goal.returns-clause-answer
unfolding area_answer
returns-clause-answer c area holds = sym (answered area c.args.size c.args.at (length c.args.bytes.now) answers.Done holds.many (sym c.is_inside.ensures
    ∙ c.if-not-is_inside.false))

pub returns-then-not-is_inside-clause-plan : goal.returns-then-not-is_inside-clause-plan
returns-then-not-is_inside-clause-plan c =
    plans_refused c.args.size c.args.ram.now c.args.at c.args.bytes.now c.args.over.now c.requires.unplanned.empty (sym c.is_inside.ensures
    ∙ c.if-not-is_inside.true)
