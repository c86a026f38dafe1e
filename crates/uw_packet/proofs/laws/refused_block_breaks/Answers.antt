use Rattle.uw_packet.proofs.BlockLaws.{BreaksAt-read}
use Rattle.uw_packet.proofs.laws.refused_block_breaks.Goals as goal

pub returns : goal.returns
returns c = BreaksAt-read
