use Rattle.std.proofs.Common.{ap}
use Rattle.uw_subst.specs.Forms.{is_bad_form}
use Rattle.uw_subst.proofs.PlaceLemmas.{bad_form_at, form_part_at, unclosed_at}
use Rattle.uw_subst.proofs.reading.form_at.Goals as goal

pub returns-in_default-clause-bad : goal.returns-in_default-clause-bad
returns-in_default-clause-bad c = unclosed_at c.args.text.now c.args.at c.requires.form.0 c.requires.form.1 c.in_default.ensures

pub returns-in-Some-form_part-clause-part : goal.returns-in-Some-form_part-clause-part
returns-in-Some-form_part-clause-part c = form_part_at c.args.text.now c.args.at c.in-Some.len c.in-Some-form_part.part c.requires.form.0 c.requires.form.1 c.in-Some.ensures c.in-Some-form_part.ensures

pub returns-in-None-clause-bad : goal.returns-in-None-clause-bad
returns-in-None-clause-bad c = bad_form_at c.args.text.now c.args.at c.in-Some.len c.requires.form.0 c.requires.form.1 c.in-Some.ensures (ap is_bad_form c.in-None.ensures)
