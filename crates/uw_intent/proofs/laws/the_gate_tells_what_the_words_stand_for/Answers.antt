use Rattle.uw_intent.proofs.Rights.{right_gate}
use Rattle.uw_intent.proofs.laws.the_gate_tells_what_the_words_stand_for.Goals as goal

pub returns : goal.returns
returns g c words s moment call answer todo j is agrees right more = right_gate g.K.RegionKind.kind is words s moment call answer todo agrees right j more
