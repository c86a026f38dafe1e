use Rattle.uw_intent.proofs.Rights.{right_agree}
use Rattle.uw_intent.proofs.laws.right_writes_agree.Goals as goal

pub returns : goal.returns
returns g c words s moment call answer todo is agrees right = right_agree g.K.RegionKind.kind is words s moment call answer todo agrees right
