use Rattle.uw_items.proofs.Held.{value_count}
use Rattle.uw_items.proofs.laws.value_places_are_few.Goals as goal

pub returns : goal.returns
returns c = value_count
