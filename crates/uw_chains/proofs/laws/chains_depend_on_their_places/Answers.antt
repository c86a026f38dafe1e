use Rattle.uw_chains.proofs.Places.{depend}
use Rattle.uw_chains.proofs.laws.chains_depend_on_their_places.Goals as goal

pub returns : goal.returns
returns c = depend
