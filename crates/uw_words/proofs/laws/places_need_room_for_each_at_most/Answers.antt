use Rattle.uw_words.proofs.Growth.{places-le-length}
use Rattle.uw_words.proofs.laws.places_need_room_for_each_at_most.Goals as goal

pub returns : goal.returns
returns c = places-le-length
