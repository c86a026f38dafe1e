use Rattle.uw_model.proofs.WrittenLemmas.{empty_room}
use Rattle.uw_model.proofs.laws.empty_list_has_room.Goals as goal

pub returns : goal.returns
returns c = empty_room
