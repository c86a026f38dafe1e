use Rattle.std.proofs.Common.{rules}
use Rattle.uw_rules.specs.Grammar.{kind_of_line}
use Rattle.uw_rules.proofs.grammar.kind_of_line.Goals as goal

pub returns : goal.returns
unfolding kind_of_line
returns c = search rules
