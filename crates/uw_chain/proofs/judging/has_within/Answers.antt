use Rattle.std.proofs.Common.{◌∙◌}
use Rattle.uw_chain.proofs.WithinLemmas.{finds_within}
use Rattle.uw_chain.proofs.judging.has_within.Goals as goal

pub returns : goal.returns
returns c = c.is_some.ensures ∙ finds_within c.args.text.now c.args.other.now c.find.result c.find.ensures
