use Rattle.uw_intent.proofs.Histories.{answers_of_run}
use Rattle.uw_intent.proofs.laws.answers_are_of_their_places.Goals as goal

pub returns : goal.returns
returns g c start w now events steps is fresh runs = answers_of_run g.K.RegionKind.kind start is events steps w now fresh runs
