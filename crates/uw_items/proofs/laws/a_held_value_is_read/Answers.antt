use Rattle.uw_items.proofs.Held.{value_back}
use Rattle.uw_items.proofs.laws.a_held_value_is_read.Goals as goal

pub returns : goal.returns
returns c = value_back
