use Rattle.uw_items.proofs.Held.{value_within}
use Rattle.uw_items.proofs.laws.value_places_are_within.Goals as goal

pub returns : goal.returns
returns c = value_within
