use Rattle.uw_chain.specs.Courses.{ended}
use Rattle.uw_chain.proofs.LawLemmas.{next_asked, next_ended, reached_next}
use Rattle.uw_session.specs.Exchange.{course_of_site}
use Rattle.uw_session.proofs.laws.a_packet_makes_the_next_asks.Goals as goal

pub returns-clause-next : goal.returns-clause-next
returns-clause-next c site x early late one reply h = next_asked (course_of_site site x) early late one (ended reply) h

pub returns-clause-end : goal.returns-clause-end
returns-clause-end c site x all reply h = next_ended (course_of_site site x) all reply h

pub returns-clause-only : goal.returns-clause-only
returns-clause-only c site x all reply each end = reached_next (course_of_site site x) all reply each end
