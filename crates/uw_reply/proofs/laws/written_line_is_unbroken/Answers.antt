use Rattle.uw_reply.proofs.LineLemmas.{kept_unbroken}
use Rattle.uw_reply.proofs.laws.written_line_is_unbroken.Goals as goal

pub returns : goal.returns
returns c = kept_unbroken
