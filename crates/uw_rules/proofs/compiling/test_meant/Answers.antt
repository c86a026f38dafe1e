use Rattle.std.proofs.Common.{sym, ap, ◌∙◌}
use Rattle.uw_rules.specs.GrammarSteps.{row_seen}
use Rattle.uw_rules.proofs.CompileLemmas.{condition_taken, condition_pattern}
use Rattle.uw_rules.proofs.compiling.test_meant.Goals as goal

pub condition_meant-requires-clause-good : goal.condition_meant-requires-clause-good
condition_meant-requires-clause-good c =
    let taken = rw c.in-Holding.is at c.requires.taken in
    let found = sym c.condition_of.ensures ∙ ap row_seen c.in-Some-condition_of.is in
    (condition_taken _ _ _ found taken).templates_good

pub condition_meant-requires-clause-taken : goal.condition_meant-requires-clause-taken
condition_meant-requires-clause-taken c =
    let taken = rw c.in-Holding.is at c.requires.taken in
    let found = sym c.condition_of.ensures ∙ ap row_seen c.in-Some-condition_of.is in
    (condition_taken _ _ _ found taken).argument_good

pub condition_meant-requires-clause-pattern : goal.condition_meant-requires-clause-pattern
condition_meant-requires-clause-pattern c =
    let pattern = rw c.in-Holding.is at c.requires.pattern in
    let found = sym c.condition_of.ensures ∙ ap row_seen c.in-Some-condition_of.is in
    condition_pattern _ _ _ c.args.pattern found pattern
