use Rattle.std.proofs.Common.{◌+◌, ◌==◌, slice_range}
use Rattle.uw_subst.specs.Forms.{bracket_form, form_of, variable_form}
use Rattle.uw_subst.proofs.FormLemmas.{bracket_at, same_form, whole_form}
use Rattle.uw_subst.proofs.Positions.{first_found, none_found}
use Rattle.uw_subst.proofs.forms.form_part.Goals as goal

pub returns-in-Some : goal.returns-in-Some
returns-in-Some c =
    let text = c.args.text.now in let from = c.args.from in let to = c.args.to in let place = c.in-Some.place in
    same_form c.bracket_part.result text (form_of (slice_range text from to)) (bracket_form (slice_range text from (from + place)) (slice_range text (from + place + 1) to))
    (bracket_at text from place to c.requires.order c.requires.inside (first_found (λ byte. byte == 91) (slice_range text from to) place c.in-Some.ensures)) c.bracket_part.ensures

pub returns-in-None : goal.returns-in-None
returns-in-None c =
    let inside = slice_range c.args.text.now c.args.from c.args.to in
    same_form c.variable_part.result c.args.text.now (form_of inside) (variable_form inside) (whole_form inside (none_found (λ byte. byte == 91) inside c.in-None.ensures)) c.variable_part.ensures
