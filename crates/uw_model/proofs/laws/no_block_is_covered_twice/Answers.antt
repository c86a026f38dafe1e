use Rattle.uw_model.proofs.StateLemmas.{covered_once}
use Rattle.uw_model.proofs.laws.no_block_is_covered_twice.Goals as goal

pub returns : goal.returns
returns c = covered_once
