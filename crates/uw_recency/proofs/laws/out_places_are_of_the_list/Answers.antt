use Rattle.uw_recency.proofs.Lists.{out_own}
use Rattle.uw_recency.proofs.laws.out_places_are_of_the_list.Goals as goal

pub returns : goal.returns
returns c = out_own
