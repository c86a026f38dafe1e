use Rattle.uw_packet.proofs.BlockLaws.{texts_unique}
use Rattle.uw_packet.proofs.laws.texts_are_unique.Goals as goal

pub returns : goal.returns
returns c = texts_unique
