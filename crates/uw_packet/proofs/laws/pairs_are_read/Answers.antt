use Rattle.uw_packet.proofs.BlockLaws.{pairs_read}
use Rattle.uw_packet.proofs.laws.pairs_are_read.Goals as goal

pub returns : goal.returns
returns c = pairs_read
