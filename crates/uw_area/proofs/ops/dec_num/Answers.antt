use Rattle.std.proofs.Common.{ℕ, sym, ◌∙◌, ap, subst}
use Rattle.uw_model.specs.declared.areas.AreaAnswer.TheVariants as answers
use Rattle.uw_model.specs.AreaOps.{area_answer, width_bytes, number_at_place, difference_in, bytes_in_width}
use Rattle.uw_model.specs.declared.areas.AreaOp.TheVariants as ops
use Rattle.uw_area.specs.AreaSteps.{PlansOp}
use Rattle.uw_area.proofs.Planning.{answered, refused, told_inside, plans_difference, plans_difference_refused}
use Rattle.uw_area.proofs.ops.dec_num.Goals as goal

pub returns-then-not-is_inside-clause-answer : goal.returns-then-not-is_inside-clause-answer
unfolding area_answer
returns-then-not-is_inside-clause-answer c area holds =
    c.out_of_area.ensures ∙ ap (λ len. answers.OutOfArea c.args.at len c.args.size) c.bytes_of-then-not-is_inside.ensures
    ∙ refused area c.args.size c.args.at (width_bytes c.args.width) (answers.Number (difference_in c.args.width
    (number_at_place area c.args.at c.args.width) c.args.by)) holds.many (told_inside c.args.size c.args.at c.bytes_of.result
    (width_bytes c.args.width) c.is_inside.result _ c.bytes_of.ensures c.is_inside.ensures c.if-not-is_inside.true)

pub returns-clause-answer : goal.returns-clause-answer
unfolding area_answer
returns-clause-answer c area holds =
    ap answers.Number (c.difference_of-difference.ensures ∙ ap (λ (n : ℕ). difference_in c.args.width n c.args.by) (c.number_at.ensures area holds))
    ∙ sym (answered area c.args.size c.args.at (width_bytes c.args.width) (answers.Number (difference_in c.args.width
    (number_at_place area c.args.at c.args.width) c.args.by)) holds.many (told_inside c.args.size c.args.at c.bytes_of.result
    (width_bytes c.args.width) c.is_inside.result _ c.bytes_of.ensures c.is_inside.ensures c.if-not-is_inside.false))

pub returns-then-not-is_inside-clause-plan : goal.returns-then-not-is_inside-clause-plan
returns-then-not-is_inside-clause-plan c =
    plans_difference_refused c.args.size c.args.ram.now c.args.at c.args.width c.args.by c.args.over.now c.requires.empty
    (told_inside c.args.size c.args.at c.bytes_of.result (width_bytes c.args.width) c.is_inside.result _ c.bytes_of.ensures c.is_inside.ensures
    c.if-not-is_inside.true)

pub returns-clause-plan : goal.returns-clause-plan
returns-clause-plan c =
    plans_difference c.args.size c.args.ram.now c.args.at c.args.width c.args.by c.number_at.result c.put_number.new.over c.number_at.ensures
    (subst (λ (n : ℕ). PlansOp c.args.size c.args.ram.now (ops.Write c.args.at
    (bytes_in_width c.args.width n)) c.put_number.new.over) c.difference_of-difference.ensures c.put_number.ensures.plan)
