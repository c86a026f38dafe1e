use Rattle.uw_plan.proofs.Agreeing.{list_once}
use Rattle.uw_plan.proofs.laws.a_region_agrees_with_one_list.Goals as goal

pub returns : goal.returns
returns c = list_once
