use Rattle.std.proofs.Common.{ℕ, List, Result, subst}
use Rattle.uw_chain.specs.Courses.{Course}
use Rattle.uw_chain.specs.Spooling.{both_led, kept_by}
use Rattle.uw_keeper.specs.Keeping.{keeping}
use Rattle.uw_session.specs.SessionSteps.{AnswersCourse, IsContentOf}
use Rattle.uw_session.specs.declared.taking.Content.{Content}
use Rattle.uw_session.proofs.AnsweringLemmas.{both_none, refused_answered, task_course}
use Rattle.uw_session.proofs.answering.answer_content.Goals as goal

pub returns-in-Task-clause-answers : goal.returns-in-Task-clause-answers
returns-in-Task-clause-answers g c site head block of_site m2 said =
    let led = both_led (g.D.Desk.leads c.args.desk.now c.answer_task.new.desk) (kept_by g.P.Keeper.rows g.P.Keeper.append_faults g.P.Keeper.other_faults c.args.keep.now c.answer_task.new.keep) in
    subst (λ (course : Course (List ℕ)). AnswersCourse led (g.L.Life.allowances c.args.life.now) (g.L.Life.allowances c.answer_task.new.life) c.args.moment course c.answer_task.result)
    (task_course site c.args.moment head block c.in-Task.vars c.in-Task.body (subst (λ (content : Content). IsContentOf site.options head block content) c.in-Task.is said))
    c.answer_task.ensures.answers

pub returns-in-Refused-clause-answers : goal.returns-in-Refused-clause-answers
returns-in-Refused-clause-answers g c site head block of_site m2 said =
    let led = both_led (g.D.Desk.leads c.args.desk.now c.args.desk.now) (kept_by g.P.Keeper.rows g.P.Keeper.append_faults g.P.Keeper.other_faults c.args.keep.now c.args.keep.now) in
    refused_answered led (g.L.Life.allowances c.args.life.now) c.args.moment c.args.m2 site head block c.in-Refused.fault
    c.new.result c.fault_reply.result c.behind.result
    (both_none (g.D.Desk.leads c.args.desk.now c.args.desk.now) (keeping g.P.Keeper.rows g.P.Keeper.append_faults g.P.Keeper.other_faults c.args.keep.now) (g.met.D.Desk.leads_none c.args.desk.now)) m2
    (subst (λ (content : Content). IsContentOf site.options head block content) c.in-Refused.is said) c.new.ensures c.fault_reply.ensures c.behind.ensures
