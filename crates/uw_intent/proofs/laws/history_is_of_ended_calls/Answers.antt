use Rattle.uw_intent.proofs.Histories.{history_of_run}
use Rattle.uw_intent.proofs.laws.history_is_of_ended_calls.Goals as goal

pub returns : goal.returns
returns g c start w now events steps fresh runs = history_of_run g.K.RegionKind.kind start events steps w now fresh runs
