use Rattle.std.proofs.Common.{sym, ◌∙◌, ap}
use Rattle.uw_model.specs.declared.areas.AreaAnswer.TheVariants as answers
use Rattle.uw_model.specs.AreaOps.{area_answer, width_bytes, number_at_place}
use Rattle.uw_area.proofs.Planning.{answered, refused, told_inside}
use Rattle.uw_area.proofs.ops.read_num.Goals as goal

pub returns-then-not-is_inside : goal.returns-then-not-is_inside
unfolding area_answer
returns-then-not-is_inside c area holds =
    c.out_of_area.ensures ∙ ap (λ len. answers.OutOfArea c.args.at len c.args.size) c.bytes_of-then-not-is_inside.ensures
    ∙ refused area c.args.size c.args.at (width_bytes c.args.width) (answers.Number (number_at_place area c.args.at c.args.width)) holds.many
    (told_inside c.args.size c.args.at c.bytes_of.result (width_bytes c.args.width) c.is_inside.result _ c.bytes_of.ensures c.is_inside.ensures
    c.if-not-is_inside.true)

pub returns : goal.returns
unfolding area_answer
returns c area holds =
    ap answers.Number (c.number_at.ensures area holds) ∙ sym (answered area c.args.size c.args.at (width_bytes c.args.width) (answers.Number
    (number_at_place area c.args.at c.args.width)) holds.many (told_inside c.args.size c.args.at c.bytes_of.result
    (width_bytes c.args.width) c.is_inside.result _ c.bytes_of.ensures c.is_inside.ensures c.if-not-is_inside.false))
