use Rattle.uw_intent.proofs.Rights.{right_stand}
use Rattle.uw_intent.proofs.laws.right_writes_stand.Goals as goal

pub returns : goal.returns
returns g c words s moment call answer todo j is agrees right = right_stand g.K.RegionKind.kind is words s moment call answer todo agrees right j
