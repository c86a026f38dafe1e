use Rattle.uw_packet.proofs.BlockLaws.{array_read-block}
use Rattle.uw_packet.proofs.laws.array_is_read.Goals as goal

pub returns : goal.returns
returns c = array_read-block
