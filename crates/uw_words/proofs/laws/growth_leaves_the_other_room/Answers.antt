use Rattle.uw_words.proofs.Growth.{room_then}
use Rattle.uw_words.proofs.laws.growth_leaves_the_other_room.Goals as goal

pub returns : goal.returns
returns c = room_then
