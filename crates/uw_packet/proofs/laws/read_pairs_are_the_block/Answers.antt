use Rattle.uw_packet.proofs.BlockLaws.{IsVarsBlock-read}
use Rattle.uw_packet.proofs.laws.read_pairs_are_the_block.Goals as goal

pub returns : goal.returns
returns c = IsVarsBlock-read
