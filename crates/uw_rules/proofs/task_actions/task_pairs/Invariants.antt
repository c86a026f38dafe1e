use Rattle.std.proofs.Common.{◌≡◌, ◌+◌, ◌++◌, false, length, map}
use Rattle.std.specs.List.{list_any}
use Rattle.std.specs.Option.{option_copied, option_map_or}
use Rattle.uw_rules.specs.declared.grammar.TextKind.TheVariants as texts
use Rattle.uw_rules.specs.Arguments.{is_bad_template}
use Rattle.uw_rules.specs.CheckSteps.{IsShortText, free_places}
use Rattle.uw_rules.specs.Compiled.{task_pairs}
use Rattle.uw_rules.specs.CompileSteps.{pair_meant}
use Rattle.uw_rules.specs.GrammarSteps.{pairs_left}
use Rattle.uw_rules.proofs.task_actions.task_pairs.Given as goal

-- the variables so far and those of the pairs that are left, which are short and have good templates
abbrev pub invariant-pairs : goal.invariant-pairs
invariant-pairs l = record {
  short : IsShortText (option_copied l.rest);
  good : list_any is_bad_template (free_places texts.Template (pairs_left l.rest)) ≡ false;
  read : l.pairs ++ map pair_meant (pairs_left l.rest) ≡ task_pairs (option_copied l.fn.argument);
}

abbrev pub decreases-pairs : goal.decreases-pairs
decreases-pairs l = option_map_or (λ text. length text.now + 1) l.rest 0
