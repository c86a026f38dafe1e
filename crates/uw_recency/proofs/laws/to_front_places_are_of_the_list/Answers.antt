use Rattle.uw_recency.proofs.Lists.{to_front_own}
use Rattle.uw_recency.proofs.laws.to_front_places_are_of_the_list.Goals as goal

pub returns : goal.returns
returns c = to_front_own
