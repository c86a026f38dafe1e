use Rattle.uw_items.proofs.Held.{key_count}
use Rattle.uw_items.proofs.laws.key_places_are_few.Goals as goal

pub returns : goal.returns
returns c = key_count
