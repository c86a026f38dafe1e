use Rattle.std.specs.Option.{option_copied}
use Rattle.uw_rules.proofs.ArgumentLemmas.{first_half_short}
use Rattle.uw_rules.proofs.compiling.regexp.Goals as goal

pub template-requires-clause-short : goal.template-requires-clause-short
template-requires-clause-short c = rw c.first_half.ensures (first_half_short _ (option_copied c.args.argument) c.requires.short)
