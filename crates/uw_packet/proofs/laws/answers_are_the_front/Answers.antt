use Rattle.uw_packet.proofs.Fronts.{AnswersFront-read}
use Rattle.uw_packet.proofs.laws.answers_are_the_front.Goals as goal

pub returns : goal.returns
returns c = AnswersFront-read
