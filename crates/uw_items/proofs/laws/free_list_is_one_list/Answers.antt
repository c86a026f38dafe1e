use Rattle.uw_items.proofs.FreeItems.{free_once}
use Rattle.uw_items.proofs.laws.free_list_is_one_list.Goals as goal

pub returns : goal.returns
returns c = free_once
