use Rattle.uw_intent.proofs.Histories.{repair_death}
use Rattle.uw_intent.proofs.laws.a_death_in_a_repair_changes_nothing.Goals as goal

pub returns : goal.returns
returns g c start w now made todo who step is dies = repair_death g.K.RegionKind.kind start w now made todo who step is dies
