use Rattle.std.proofs.Common.{rules}
use Rattle.uw_rules.specs.Grammar.{condition_of}
use Rattle.uw_rules.proofs.grammar.condition_of.Goals as goal

pub returns : goal.returns
unfolding condition_of
returns c = search rules
