use Rattle.uw_packet.proofs.BlockLaws.{IsArrayBlock-read}
use Rattle.uw_packet.proofs.laws.read_texts_are_the_array.Goals as goal

pub returns : goal.returns
returns c = IsArrayBlock-read
