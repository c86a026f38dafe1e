use Rattle.std.proofs.Common.{◌≡◌}
use Rattle.uw_rules.specs.CheckSteps.{names_seen}
use Rattle.uw_rules.specs.Compiled.{rules_of}
use Rattle.uw_rules.proofs.TableLemmas.{IsReadUpTo}
use Rattle.uw_rules.proofs.reading.read_lines.Given as goal

-- the rules so far are those of the lines so far, of which none is refused; and the maker has refused none
abbrev pub invariant-loop-here : goal.invariant-loop-here
invariant-loop-here g l = record {
  so_far : IsReadUpTo (names_seen l.site.names) l.lines l.here (rules_of l.table);
  kept : g.M.Patterns.faults l.make ≡ g.M.Patterns.faults l.fn.make;
}
