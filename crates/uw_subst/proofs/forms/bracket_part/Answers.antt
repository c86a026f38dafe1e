use Rattle.std.proofs.Common.{◌+◌, ◌-◌, arith, slice_range}
use Rattle.uw_subst.specs.Forms.{bracket_form, named_form}
use Rattle.uw_subst.proofs.FormLemmas.{same_form, some_argument, spanned_form, span_is}
use Rattle.uw_subst.proofs.forms.bracket_part.Goals as goal

pub returns : goal.returns
returns c =
    let text = c.args.text.now in let from = c.args.from in let bracket = c.args.bracket in let to = c.args.to in
    let name = slice_range text from bracket in
    let argument = slice_range text (bracket + 1) (to - 1) in
    same_form c.named_part.result text (bracket_form name (slice_range text (bracket + 1) to)) (named_form name argument)
    (some_argument text from bracket to (omega arith) c.requires.inside c.if-text-to-ne93.false)
    (spanned_form c.named_part.result text argument (named_form name argument) c.between-span.result (omega arith)
    (span_is text (bracket + 1) (to - 1) c.between-span.result c.between-span.ensures.from c.between-span.ensures.len) c.named_part.ensures)
