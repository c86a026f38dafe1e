use Rattle.uw_chains.proofs.Places.{link_own}
use Rattle.uw_chains.proofs.laws.link_places_are_of_the_chains.Goals as goal

pub returns : goal.returns
returns c = link_own
