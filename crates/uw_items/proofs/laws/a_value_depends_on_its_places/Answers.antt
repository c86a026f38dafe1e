use Rattle.uw_items.proofs.Held.{value_same}
use Rattle.uw_items.proofs.laws.a_value_depends_on_its_places.Goals as goal

pub returns : goal.returns
returns c = value_same
