use Rattle.uw_model.proofs.MathLemmas.{added_sum}
use Rattle.uw_model.proofs.laws.number_is_the_sum_of_the_amounts.Goals as goal

pub returns : goal.returns
returns c = added_sum
