use Rattle.std.proofs.Common.{◌∙◌}
use Rattle.uw_conf.proofs.TextLemmas.{line_section, line_bracket}
use Rattle.uw_conf.proofs.lines.line_of.Goals as goal

pub returns-in-Some-strip_suffix : goal.returns-in-Some-strip_suffix
returns-in-Some-strip_suffix c =
    line_section c.args.text.now c.in-Some.rest.now c.in-Some-strip_suffix.name.now c.in-Some.first.now c.in-Some.ensures.cases.0 c.in-91.is
    c.in-Some-strip_suffix.ensures.cases.0 c.in-Some-strip_suffix.ensures.cases.1

pub returns-in-None : goal.returns-in-None
returns-in-None c =
    c.parted.ensures ∙ line_bracket c.args.text.now c.in-Some.rest.now c.in-Some.first.now c.in-Some.ensures.cases.0 c.in-91.is c.in-None.ensures.cases
