use Rattle.std.proofs.Common.{List, ℕ, length, IfOk, subst}
use Rattle.uw_rules.specs.declared.compiled.RuleTable.{RuleTable}
use Rattle.uw_rules.specs.Compiled.{rules_of}
use Rattle.uw_rules.specs.PartNumbers.{AskPartsBelow}
use Rattle.uw_rules.proofs.PartLemmas.{table_below}
use Rattle.uw_rules.proofs.reading.read_rules.Goals as goal

pub returns-clause-parts : goal.returns-clause-parts
returns-clause-parts g c =
    let before = g.M.Patterns.faults c.args.make.now in
    let after = g.M.Patterns.faults c.read_lines.new.make in
    subst
    (λ (names : List (List ℕ)). IfOk c.read_lines.result (λ (table : RuleTable). AskPartsBelow (record { caches = length names; areas = c.args.areas }) (rules_of table)))
    c.as_slice-2.ensures
    (table_below (record { caches = c.as_slice-2.result.now; areas = c.args.areas }) c.as_slice-3.result.now before after c.read_lines.result c.read_lines.ensures.reads)
