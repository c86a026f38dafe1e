use Rattle.uw_packet.proofs.Fronts.{IsPacket-packet_front, packet_front-packet}
use Rattle.uw_packet.proofs.laws.front_is_a_packet.Goals as goal

pub returns-clause-is_packet : goal.returns-clause-is_packet
returns-clause-is_packet c = IsPacket-packet_front

pub returns-clause-is_front : goal.returns-clause-is_front
returns-clause-is_front c = packet_front-packet
