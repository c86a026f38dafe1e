use Rattle.uw_chain.proofs.LawLemmas.{told_by_answers}
use Rattle.uw_session.specs.Exchange.{course_of_site}
use Rattle.uw_session.proofs.laws.a_reply_is_told_by_the_answers.Goals as goal

pub returns : goal.returns
returns c site x all others reply other one two same = told_by_answers (course_of_site site x) all others reply other one two same
