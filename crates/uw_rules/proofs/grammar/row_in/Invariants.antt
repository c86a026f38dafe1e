use Rattle.std.proofs.Common.{◌≡◌, length}
use Rattle.uw_rules.specs.Grammar.{row_of}
use Rattle.uw_rules.specs.GrammarSteps.{rows_seen}
use Rattle.uw_rules.proofs.grammar.row_in.Given as goal

-- the rows that are left have it, if any has
abbrev pub invariant-loop-rows : goal.invariant-loop-rows
invariant-loop-rows g l = row_of (rows_seen l.rows) l.name ≡ row_of (rows_seen l.initial.rows) l.name

abbrev pub decreases-loop-rows : goal.decreases-loop-rows
decreases-loop-rows g l = length l.rows
