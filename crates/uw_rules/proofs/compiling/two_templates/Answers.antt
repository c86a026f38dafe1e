use Rattle.std.specs.Option.{option_copied}
use Rattle.uw_rules.proofs.ArgumentLemmas.{first_half_short, second_half_short}
use Rattle.uw_rules.proofs.compiling.two_templates.Goals as goal

pub template-requires-clause-short : goal.template-requires-clause-short
template-requires-clause-short c = rw c.first_half.ensures (first_half_short _ (option_copied c.args.argument) c.requires.short)

pub template-requires-2-clause-short : goal.template-requires-2-clause-short
template-requires-2-clause-short c = rw c.second_half.ensures (second_half_short _ (option_copied c.args.argument) c.requires.short)
