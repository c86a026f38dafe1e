use Rattle.uw_packet.proofs.BlockLaws.{vars_read-refused}
use Rattle.uw_packet.proofs.laws.refused_pairs_break.Goals as goal

pub returns : goal.returns
returns c = vars_read-refused
