use Rattle.std.specs.Option.{option_copied}
use Rattle.uw_rules.proofs.ArgumentLemmas.{second_half_short}
use Rattle.uw_rules.proofs.compiling.add_var.Goals as goal

pub template-requires-clause-short : goal.template-requires-clause-short
template-requires-clause-short c = rw c.second_half.ensures (second_half_short _ (option_copied c.args.argument) c.requires.short)
