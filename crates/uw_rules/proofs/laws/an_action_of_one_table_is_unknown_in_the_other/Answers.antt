use Rattle.std.proofs.Common.{refl}
use Rattle.uw_rules.specs.Grammar.{action_of}
use Rattle.uw_rules.proofs.laws.an_action_of_one_table_is_unknown_in_the_other.Goals as goal

pub returns-clause-reply : goal.returns-clause-reply
unfolding action_of
returns-clause-reply c = refl

pub returns-clause-status : goal.returns-clause-status
unfolding action_of
returns-clause-status c = refl
