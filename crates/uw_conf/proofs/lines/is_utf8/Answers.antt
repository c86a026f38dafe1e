use Rattle.std.proofs.Common.{◌∙◌}
use Rattle.uw_conf.proofs.TextLemmas.{utf8_test}
use Rattle.uw_conf.proofs.lines.is_utf8.Goals as goal

pub returns : goal.returns
returns c = c.is_ok.ensures.value ∙ utf8_test c.from_utf8.result _ c.args.line.now c.from_utf8.ensures.cases
