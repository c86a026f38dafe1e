use Rattle.std.proofs.Common.{ap}
use Rattle.uw_rules.specs.Arguments.{text_of_key, text_in}
use Rattle.uw_rules.proofs.ArgumentLemmas.{pairs_left_seen}
use Rattle.uw_rules.proofs.arguments.text_of_key.Goals as goal

pub pairs-init : goal.pairs-init
unfolding text_of_key
pairs-init c = ap (text_in c.args.key.now) (pairs_left_seen c.args.argument)
