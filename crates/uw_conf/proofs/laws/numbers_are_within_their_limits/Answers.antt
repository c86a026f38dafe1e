use Rattle.uw_conf.specs.Sound.{HasLimits}
use Rattle.uw_conf.proofs.OptionLemmas.{limits_kept, blank_limits}
use Rattle.uw_conf.proofs.ReadingLemmas.{configuration_keeps}
use Rattle.uw_conf.proofs.laws.numbers_are_within_their_limits.Goals as goal

pub returns : goal.returns
returns c = configuration_keeps HasLimits limits_kept blank_limits
