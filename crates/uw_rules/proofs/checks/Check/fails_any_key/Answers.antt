use Rattle.std.specs.Option.{option_copied}
use Rattle.uw_rules.proofs.ArgumentLemmas.{text_at_short}
use Rattle.uw_rules.proofs.checks.Check.fails_any_key.Goals as goal

pub fails_at-requires : goal.fails_at-requires
fails_at-requires c = rw c.text_of_key.ensures (text_at_short _ (option_copied c.args.argument) c.requires)
