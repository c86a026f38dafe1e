use Rattle.uw_chain.specs.Routing.{course_of_task}
use Rattle.uw_chain.proofs.LawLemmas.{told_by_answers}
use Rattle.uw_chain.proofs.laws.a_task_is_told_by_its_answers.Goals as goal

pub returns : goal.returns
returns c naming rules moment vars all others status last h other same =
    told_by_answers (course_of_task naming rules moment vars) all others status last h other same
