use Rattle.uw_recency.proofs.Lists.{one_list}
use Rattle.uw_recency.proofs.laws.recency_is_one_list.Goals as goal

pub returns : goal.returns
returns c = one_list
