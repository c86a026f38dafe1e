use Rattle.uw_items.proofs.FreeItems.{take_count}
use Rattle.uw_items.proofs.laws.take_places_are_few.Goals as goal

pub returns : goal.returns
returns c = take_count
