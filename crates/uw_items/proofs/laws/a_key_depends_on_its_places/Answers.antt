use Rattle.uw_items.proofs.Held.{key_same}
use Rattle.uw_items.proofs.laws.a_key_depends_on_its_places.Goals as goal

pub returns : goal.returns
returns c = key_same
