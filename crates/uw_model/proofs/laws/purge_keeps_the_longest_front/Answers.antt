use Rattle.uw_model.proofs.RoomLemmas.{purge_room}
use Rattle.uw_model.proofs.laws.purge_keeps_the_longest_front.Goals as goal

pub returns : goal.returns
returns c = purge_room
