use Rattle.uw_recency.proofs.Lists.{front_own}
use Rattle.uw_recency.proofs.laws.front_places_are_of_the_list.Goals as goal

pub returns : goal.returns
returns c = front_own
