use Rattle.std.proofs.Common.{rules}
use Rattle.uw_rules.proofs.grammar.row_of_action.Goals as goal

pub returns : goal.returns
returns c = search rules
