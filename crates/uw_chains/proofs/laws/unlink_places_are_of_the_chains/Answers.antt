use Rattle.uw_chains.proofs.Places.{unlink_own}
use Rattle.uw_chains.proofs.laws.unlink_places_are_of_the_chains.Goals as goal

pub returns : goal.returns
returns c = unlink_own
