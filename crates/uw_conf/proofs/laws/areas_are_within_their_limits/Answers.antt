use Rattle.uw_conf.proofs.OptionLemmas.{HasParts, parts_kept, no_parts}
use Rattle.uw_conf.proofs.ReadingLemmas.{configuration_keeps}
use Rattle.uw_conf.proofs.laws.areas_are_within_their_limits.Goals as goal

pub returns-clause-each : goal.returns-clause-each
returns-clause-each c = λ text conf says. (configuration_keeps HasParts parts_kept no_parts text conf says).sizes

pub returns-clause-few : goal.returns-clause-few
returns-clause-few c = λ text conf says. (configuration_keeps HasParts parts_kept no_parts text conf says).few_areas
