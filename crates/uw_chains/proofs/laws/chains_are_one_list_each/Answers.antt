use Rattle.uw_chains.proofs.Places.{one_list}
use Rattle.uw_chains.proofs.laws.chains_are_one_list_each.Goals as goal

pub returns : goal.returns
returns c = one_list
