use Rattle.uw_plan.proofs.Walked.{counted_walks}
use Rattle.uw_plan.proofs.laws.a_region_is_read_by_counted_walks.Goals as goal

pub returns : goal.returns
returns c = counted_walks
