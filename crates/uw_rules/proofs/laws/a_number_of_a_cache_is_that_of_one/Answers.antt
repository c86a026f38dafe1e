use Rattle.uw_rules.proofs.LawLemmas.{cache_below}
use Rattle.uw_rules.proofs.laws.a_number_of_a_cache_is_that_of_one.Goals as goal

pub returns : goal.returns
returns c = cache_below
