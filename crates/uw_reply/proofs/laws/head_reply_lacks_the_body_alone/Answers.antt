use Rattle.uw_reply.specs.ReplyBytes.{has_body, head_of_reply, without_breaks}
use Rattle.uw_reply.proofs.LineLemmas.{reply_whole}
use Rattle.uw_reply.proofs.laws.head_reply_lacks_the_body_alone.Goals as goal

pub returns : goal.returns
returns c = λ reply. reply_whole reply.closed (has_body (without_breaks reply.status)) (head_of_reply reply) reply.body
