use Rattle.std.proofs.Common.{ℕ, List, map, ap, ◌∙◌}
use Rattle.std.specs.List.{list_any}
use Rattle.uw_rules.specs.declared.grammar.TextKind.TheVariants as texts
use Rattle.uw_rules.specs.Arguments.{is_bad_template}
use Rattle.uw_rules.specs.CheckSteps.{free_places}
use Rattle.uw_rules.specs.CompileSteps.{pair_meant}
use Rattle.uw_rules.proofs.ArgumentLemmas.{pairs_left_seen}
use Rattle.uw_rules.proofs.task_actions.task_pairs.Goals as goal

pub pairs-init : goal.pairs-init
pairs-init c =
    let same = pairs_left_seen c.args.argument in
    record {
      short = c.requires.short;
      good = ap (λ (pairs : List (List ℕ)). list_any is_bad_template (free_places texts.Template pairs)) same ∙ c.requires.good;
      read = rw c.new-pairs.ensures (ap (map pair_meant) same);
    }
