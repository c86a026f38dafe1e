use Rattle.uw_top.proofs.Cutting.{cut_in_one_way}
use Rattle.uw_top.proofs.laws.bytes_are_cut_in_one_way.Goals as goal

pub returns : goal.returns
returns c = λ conf xs ys a b moments bytes. cut_in_one_way conf xs ys a b moments bytes
