use Rattle.std.proofs.Common.{ℕ, List, ap, ◌∙◌}
use Rattle.std.specs.List.{list_any}
use Rattle.std.specs.Option.{option_copied}
use Rattle.uw_rules.specs.CheckSteps.{failing, free_places}
use Rattle.uw_rules.proofs.ArgumentLemmas.{first_half_short, pairs_left_seen, second_half_short}
use Rattle.uw_rules.proofs.checks.Check.fails_any.Goals as goal

pub fails_at-requires-in-Divided : goal.fails_at-requires-in-Divided
fails_at-requires-in-Divided c = rw c.first_half.ensures (first_half_short _ (option_copied c.args.argument) c.requires)

pub fails_at-requires-else-fails_at : goal.fails_at-requires-else-fails_at
fails_at-requires-else-fails_at c = rw c.second_half.ensures (second_half_short _ (option_copied c.args.argument) c.requires)

pub returns-in-Free : goal.returns-in-Free
returns-in-Free c =
    rw c.in-Free.is
    (c.fails_any_pair.ensures
    ∙ ap (λ (pairs : List (List ℕ)). list_any (failing c.args.self) (free_places c.in-Free.kind pairs)) (pairs_left_seen c.args.argument))
