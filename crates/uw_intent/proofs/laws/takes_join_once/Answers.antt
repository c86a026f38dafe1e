use Rattle.uw_intent.proofs.Histories.{take_counts}
use Rattle.uw_intent.proofs.laws.takes_join_once.Goals as goal

pub returns : goal.returns
returns g c start w now events steps fresh runs p = take_counts p g.K.RegionKind.kind start events steps w now fresh runs
