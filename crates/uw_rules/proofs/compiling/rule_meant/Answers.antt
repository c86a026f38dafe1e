use Rattle.std.proofs.Common.{sym, ap, ◌∙◌}
use Rattle.uw_rules.specs.GrammarSteps.{row_seen}
use Rattle.uw_rules.proofs.CompileLemmas.{action_taken}
use Rattle.uw_rules.proofs.compiling.rule_meant.Goals as goal

pub action_meant-requires-clause-good : goal.action_meant-requires-clause-good
action_meant-requires-clause-good c =
    let taken = rw c.in-Rule.is at c.requires.taken in
    let found = sym c.action_of.ensures ∙ ap row_seen c.in-Some.is in
    (action_taken _ _ _ _ _ found taken.1).templates_good

pub action_meant-requires-clause-known : goal.action_meant-requires-clause-known
action_meant-requires-clause-known c =
    let taken = rw c.in-Rule.is at c.requires.taken in
    let found = sym c.action_of.ensures ∙ ap row_seen c.in-Some.is in
    (action_taken _ _ _ _ _ found taken.1).names_known
