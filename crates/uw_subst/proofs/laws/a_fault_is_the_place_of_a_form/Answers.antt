use Rattle.uw_subst.proofs.PieceLemmas.{fault_is_form}
use Rattle.uw_subst.proofs.laws.a_fault_is_the_place_of_a_form.Goals as goal

pub returns : goal.returns
returns c = fault_is_form
