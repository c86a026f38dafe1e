use Rattle.uw_items.proofs.FreeItems.{free_depends}
use Rattle.uw_items.proofs.laws.free_list_depends_on_its_places.Goals as goal

pub returns : goal.returns
returns c = free_depends
