use Rattle.uw_chains.proofs.Sought.{counted_chain}
use Rattle.uw_chains.proofs.laws.counted_walk_gives_each_chain.Goals as goal

pub returns : goal.returns
returns c = counted_chain
