use Rattle.std.specs.Option.{option_copied}
use Rattle.uw_rules.proofs.ArgumentLemmas.{text_at_short}
use Rattle.uw_rules.proofs.texts.template_at.Goals as goal

pub template-requires-clause-short : goal.template-requires-clause-short
template-requires-clause-short c = rw c.text_of_key.ensures (text_at_short _ (option_copied c.args.argument) c.requires.short)
