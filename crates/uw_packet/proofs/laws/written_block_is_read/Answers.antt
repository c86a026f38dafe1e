use Rattle.uw_packet.proofs.BlockLaws.{vars_block-read}
use Rattle.uw_packet.proofs.laws.written_block_is_read.Goals as goal

pub returns : goal.returns
returns c = vars_block-read
