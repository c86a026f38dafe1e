use Rattle.std.proofs.Common.{ℕ, ◌+◌, ◌<◌, get_or, map}
use Rattle.std.specs.Prelude.{slice_index}
use Rattle.uw_rules.specs.declared.lines.RuleLine.{RuleLine}
use Rattle.uw_rules.specs.Tables.{IsRuleLine}
use Rattle.rule_tests.proofs.rules.is_table.Given as goal

-- the lines so far may be those of a table
abbrev pub invariant-loop-here : goal.invariant-loop-here
invariant-loop-here l = record {
  each : (k : ℕ) → k < l.here → (d : RuleLine) → IsRuleLine (get_or l.lines k d);
  rising : (k : ℕ) → k + 1 < l.here → slice_index (map (λ (line : RuleLine). line.line) l.lines) k < slice_index (map (λ (line : RuleLine). line.line) l.lines) (k + 1);
}
