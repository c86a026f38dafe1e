use Rattle.uw_items.proofs.Held.{key_own}
use Rattle.uw_items.proofs.laws.key_places_are_of_the_item.Goals as goal

pub returns : goal.returns
returns c = key_own
