use Rattle.std.proofs.Common.{◌≡◌, ◌+◌, length}
use Rattle.std.specs.List.{list_any}
use Rattle.std.specs.Option.{option_copied, option_map_or}
use Rattle.uw_rules.specs.CheckSteps.{IsShortText, failing, free_places}
use Rattle.uw_rules.specs.GrammarSteps.{pairs_left}
use Rattle.uw_rules.proofs.checks.Check.fails_any_pair.Given as goal

-- the pairs that are left are short, and have such a text, if any has
abbrev pub invariant-pairs : goal.invariant-pairs
invariant-pairs l = record {
  short : IsShortText (option_copied l.rest);
  any : list_any (failing l.fn.self) (free_places l.fn.kind (pairs_left l.rest)) ≡ list_any (failing l.fn.self) (free_places l.fn.kind (pairs_left l.fn.argument));
}

abbrev pub decreases-pairs : goal.decreases-pairs
decreases-pairs l = option_map_or (λ text. length text.now + 1) l.rest 0
