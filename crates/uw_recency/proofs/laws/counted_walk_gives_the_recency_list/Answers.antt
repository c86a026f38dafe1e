use Rattle.uw_recency.proofs.Lists.{counted_list}
use Rattle.uw_recency.proofs.laws.counted_walk_gives_the_recency_list.Goals as goal

pub returns : goal.returns
returns c = counted_list
