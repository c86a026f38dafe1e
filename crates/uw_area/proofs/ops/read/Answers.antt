use Rattle.std.proofs.Common.{◌+◌, slice_range, sym, ◌∙◌, ap}
use Rattle.uw_model.specs.declared.areas.AreaAnswer.TheVariants as answers
use Rattle.uw_model.specs.AreaOps.{area_answer}
use Rattle.uw_area.proofs.Planning.{answered, refused}
use Rattle.uw_area.proofs.ops.read.Goals as goal

pub returns-then-not-is_inside : goal.returns-then-not-is_inside
unfolding area_answer
returns-then-not-is_inside c area holds =
    c.out_of_area.ensures
    ∙ refused area c.args.size c.args.at c.args.len (answers.Bytes (slice_range area.bytes c.args.at (c.args.at + c.args.len))) holds.many
    (sym c.is_inside.ensures ∙ c.if-not-is_inside.true)

pub returns : goal.returns
unfolding area_answer
returns c area holds =
    ap answers.Bytes (c.in_ok-bytes_at.ensures area holds)
    ∙ sym (answered area c.args.size c.args.at c.args.len (answers.Bytes (slice_range area.bytes c.args.at (c.args.at + c.args.len))) holds.many
    (sym c.is_inside.ensures ∙ c.if-not-is_inside.false))
