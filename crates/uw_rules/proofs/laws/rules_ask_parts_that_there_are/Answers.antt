use Rattle.uw_rules.proofs.PartLemmas.{asked_below}
use Rattle.uw_rules.proofs.laws.rules_ask_parts_that_there_are.Goals as goal

pub returns : goal.returns
returns c = asked_below
