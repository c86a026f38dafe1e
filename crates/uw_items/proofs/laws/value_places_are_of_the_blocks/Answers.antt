use Rattle.uw_items.proofs.Held.{value_run}
use Rattle.uw_items.proofs.laws.value_places_are_of_the_blocks.Goals as goal

pub returns : goal.returns
returns c = value_run
