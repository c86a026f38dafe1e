use Rattle.std.proofs.Common.{◌≡◌, length}
use Rattle.uw_rules.specs.Grammar.{named}
use Rattle.uw_rules.specs.GrammarSteps.{named_rows}
use Rattle.uw_rules.proofs.grammar.kind_in.Given as goal

-- the rows that are left have it, if any has
abbrev pub invariant-loop-rows : goal.invariant-loop-rows
invariant-loop-rows l = named (named_rows l.rows) l.name ≡ named (named_rows l.initial.rows) l.name

abbrev pub decreases-loop-rows : goal.decreases-loop-rows
decreases-loop-rows l = length l.rows
