use Rattle.uw_reply.proofs.LineLemmas.{unbroken_kept}
use Rattle.uw_reply.proofs.laws.unbroken_line_is_kept.Goals as goal

pub returns : goal.returns
returns c = unbroken_kept
