use Rattle.std.proofs.Common.{rules, w64, sym, ap, Ok, Err}
use Rattle.std.proofs.lemmas.Int.{to_z-of_z}
use mir.Val.{SFits}
use Rattle.uw_rules.specs.WrittenRules.{WrittenRule}
use Rattle.uw_chain.specs.declared.outcome.Finish.{Finish}
use Rattle.uw_chain.specs.declared.request.Request.{Request}
use Rattle.uw_chain.specs.Courses.{Course, ended}
use Rattle.uw_chain.specs.Endings.{status_of_task}
use Rattle.uw_chain.specs.Routing.{course_of_rules, request_of}
use Rattle.uw_chain.proofs.CourseLemmas.{RunsTo-fault, RunsTo-same, RunsTo-then_ended}
use Rattle.uw_chain.proofs.SpoolLemmas.{site}
use Rattle.uw_chain.proofs.routing.end_task.Goals as goal

pub returns-in-Ok-clause-runs : goal.returns-in-Ok-clause-runs
returns-in-Ok-clause-runs g c = λ naming written are.
    let led = site g.D.Desk.leads g.P.Keeper.rows g.P.Keeper.append_faults g.P.Keeper.other_faults (c.args.desk.now, c.args.keep.now) (c.run_rules.new.desk, c.run_rules.new.keep) in
    let before = g.L.Life.allowances c.args.life.now in
    let now = g.L.Life.allowances c.run_rules.new.life in
    let fits : SFits w64 c.status_of_task.result = search rules in
    rw (to_z-of_z w64 c.status_of_task.result fits)
    (RunsTo-then_ended led before now c.args.moment (course_of_rules naming c.args.moment 0 0 written (request_of c.args.vars))
    (λ (finish : Finish). ended (status_of_task finish.ending)) c.args.asks.now c.run_rules.new.asks c.in-Ok.finish c.status_of_task.result
    (RunsTo-same led before now c.args.moment (course_of_rules naming c.args.moment 0 0 written c.new-request.result)
    (course_of_rules naming c.args.moment 0 0 written (request_of c.args.vars)) c.args.asks.now c.run_rules.new.asks (Ok c.in-Ok.finish)
    (ap (λ (request : Request). course_of_rules naming c.args.moment 0 0 written request) c.new-request.ensures) (c.in-Ok.ensures.runs naming written are))
    (ap ended (sym c.status_of_task.ensures)))

pub returns-in-Err-clause-runs : goal.returns-in-Err-clause-runs
returns-in-Err-clause-runs g c = λ naming written are.
    let led = site g.D.Desk.leads g.P.Keeper.rows g.P.Keeper.append_faults g.P.Keeper.other_faults (c.args.desk.now, c.args.keep.now) (c.run_rules.new.desk, c.run_rules.new.keep) in
    let before = g.L.Life.allowances c.args.life.now in
    let now = g.L.Life.allowances c.run_rules.new.life in
    RunsTo-fault led before now c.args.moment (course_of_rules naming c.args.moment 0 0 written (request_of c.args.vars))
    (λ (finish : Finish). ended (status_of_task finish.ending)) c.args.asks.now c.run_rules.new.asks c.in-Err.end
    (RunsTo-same led before now c.args.moment (course_of_rules naming c.args.moment 0 0 written c.new-request.result)
    (course_of_rules naming c.args.moment 0 0 written (request_of c.args.vars)) c.args.asks.now c.run_rules.new.asks (Err c.in-Err.end)
    (ap (λ (request : Request). course_of_rules naming c.args.moment 0 0 written request) c.new-request.ensures) (c.in-Err.ensures.runs naming written are))
