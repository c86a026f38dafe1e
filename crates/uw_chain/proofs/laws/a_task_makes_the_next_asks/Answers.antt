use Rattle.uw_chain.specs.Courses.{ended}
use Rattle.uw_chain.specs.Routing.{course_of_task}
use Rattle.uw_chain.proofs.LawLemmas.{next_asked, next_ended, reached_next}
use Rattle.uw_chain.proofs.laws.a_task_makes_the_next_asks.Goals as goal

pub returns-clause-next : goal.returns-clause-next
returns-clause-next c naming rules moment vars early late one status h =
    next_asked (course_of_task naming rules moment vars) early late one (ended status) h

pub returns-clause-end : goal.returns-clause-end
returns-clause-end c naming rules moment vars all status h = next_ended (course_of_task naming rules moment vars) all status h

pub returns-clause-only : goal.returns-clause-only
returns-clause-only c naming rules moment vars all status each end = reached_next (course_of_task naming rules moment vars) all status each end
