use Rattle.uw_chain.specs.Courses.{ended}
use Rattle.uw_chain.specs.Routing.{course_of_request}
use Rattle.uw_chain.proofs.LawLemmas.{next_asked, next_ended, reached_next}
use Rattle.uw_chain.proofs.laws.a_run_makes_the_next_asks.Goals as goal

pub returns-clause-next : goal.returns-clause-next
returns-clause-next c naming rules moment vars early late one ending h =
    next_asked (course_of_request naming rules moment vars) early late one (ended ending) h

pub returns-clause-end : goal.returns-clause-end
returns-clause-end c naming rules moment vars all ending h = next_ended (course_of_request naming rules moment vars) all ending h

pub returns-clause-only : goal.returns-clause-only
returns-clause-only c naming rules moment vars all ending each end = reached_next (course_of_request naming rules moment vars) all ending each end
