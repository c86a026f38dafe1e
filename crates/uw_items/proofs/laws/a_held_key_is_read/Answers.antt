use Rattle.uw_items.proofs.Held.{key_back}
use Rattle.uw_items.proofs.laws.a_held_key_is_read.Goals as goal

pub returns : goal.returns
returns c = key_back
