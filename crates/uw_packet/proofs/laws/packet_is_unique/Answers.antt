use Rattle.uw_packet.proofs.BlockLaws.{packet_unique}
use Rattle.uw_packet.proofs.laws.packet_is_unique.Goals as goal

pub returns : goal.returns
returns c = packet_unique
