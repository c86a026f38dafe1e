use Rattle.uw_items.proofs.FreeItems.{free_counted}
use Rattle.uw_items.proofs.laws.counted_walk_gives_the_free_list.Goals as goal

pub returns : goal.returns
returns c = free_counted
