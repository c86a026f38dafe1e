use Rattle.uw_model.proofs.NextStateLemmas.{next_is_state}
use Rattle.uw_model.proofs.laws.next_list_is_a_state.Goals as goal

pub returns : goal.returns
returns c = next_is_state
