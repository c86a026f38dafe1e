use Rattle.uw_words.proofs.Growth.{spare_room}
use Rattle.uw_words.proofs.laws.spare_words_are_room.Goals as goal

pub returns : goal.returns
returns c = spare_room
