use Rattle.std.proofs.Common.{sym, ◌∙◌, ap}
use Rattle.uw_model.specs.declared.areas.AreaAnswer.TheVariants as answers
use Rattle.uw_model.specs.AreaOps.{area_answer, width_bytes}
use Rattle.uw_area.proofs.Planning.{answered, refused, told_inside, plans_number, plans_number_refused}
use Rattle.uw_area.proofs.ops.write_num.Goals as goal

pub returns-then-not-is_inside-clause-answer : goal.returns-then-not-is_inside-clause-answer
unfolding area_answer
returns-then-not-is_inside-clause-answer c area holds =
    c.out_of_area.ensures ∙ ap (λ len. answers.OutOfArea c.args.at len c.args.size) c.bytes_of-then-not-is_inside.ensures
    ∙ refused area c.args.size c.args.at (width_bytes c.args.width) (answers.Done) holds.many (told_inside c.args.size c.args.at c.bytes_of.result
    (width_bytes c.args.width) c.is_inside.result _ c.bytes_of.ensures c.is_inside.ensures c.if-not-is_inside.true)

pub returns-clause-answer : goal.returns-clause-answer
unfolding area_answer
returns-clause-answer c area holds =
    sym (answered area c.args.size c.args.at (width_bytes c.args.width) (answers.Done) holds.many (told_inside c.args.size c.args.at c.bytes_of.result
    (width_bytes c.args.width) c.is_inside.result _ c.bytes_of.ensures c.is_inside.ensures c.if-not-is_inside.false))

pub returns-then-not-is_inside-clause-plan : goal.returns-then-not-is_inside-clause-plan
returns-then-not-is_inside-clause-plan c =
    plans_number_refused c.args.size c.args.ram.now c.args.at c.args.width c.args.value c.args.over.now c.requires.empty
    (told_inside c.args.size c.args.at c.bytes_of.result (width_bytes c.args.width) c.is_inside.result _ c.bytes_of.ensures c.is_inside.ensures
    c.if-not-is_inside.true)

pub returns-clause-plan : goal.returns-clause-plan
returns-clause-plan c = plans_number c.args.size c.args.ram.now c.args.at c.args.width c.args.value c.put_number.new.over c.put_number.ensures.plan
