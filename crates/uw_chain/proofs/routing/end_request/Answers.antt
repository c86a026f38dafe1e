use Rattle.std.proofs.Common.{sym, ap, Ok, Err}
use Rattle.uw_rules.specs.WrittenRules.{WrittenRule}
use Rattle.uw_chain.specs.declared.outcome.Finish.{Finish}
use Rattle.uw_chain.specs.declared.request.Request.{Request}
use Rattle.uw_chain.specs.Courses.{Course, ended}
use Rattle.uw_chain.specs.Endings.{end_of_request}
use Rattle.uw_chain.specs.Routing.{course_of_rules, request_of}
use Rattle.uw_chain.proofs.CourseLemmas.{RunsTo-fault, RunsTo-same, RunsTo-then_ended, RunsTo-then_memory}
use Rattle.uw_chain.proofs.SpoolLemmas.{site}
use Rattle.uw_chain.proofs.routing.end_request.Goals as goal

pub returns-in-Ok-end-clause-runs : goal.returns-in-Ok-end-clause-runs
returns-in-Ok-end-clause-runs g c = λ naming written are.
    let led = site g.D.Desk.leads g.P.Keeper.rows g.P.Keeper.append_faults g.P.Keeper.other_faults (c.args.desk.now, c.args.keep.now) (c.run_rules.new.desk, c.run_rules.new.keep) in
    let before = g.L.Life.allowances c.args.life.now in
    let now = g.L.Life.allowances c.run_rules.new.life in
    RunsTo-then_ended led before now c.args.moment (course_of_rules naming c.args.moment 0 0 written (request_of c.args.vars))
    (λ (finish : Finish). ended (end_of_request finish.ending finish.request)) c.args.asks.now c.run_rules.new.asks c.in-Ok.field-0 c.in-Ok-end.end
    (RunsTo-same led before now c.args.moment (course_of_rules naming c.args.moment 0 0 written c.new-request.result)
    (course_of_rules naming c.args.moment 0 0 written (request_of c.args.vars)) c.args.asks.now c.run_rules.new.asks (Ok c.in-Ok.field-0)
    (ap (λ (request : Request). course_of_rules naming c.args.moment 0 0 written request) c.new-request.ensures) (c.in-Ok.ensures.runs naming written are))
    (ap ended (sym c.in-Ok-end.ensures))

pub returns-in-Err-end-clause-runs : goal.returns-in-Err-end-clause-runs
returns-in-Err-end-clause-runs g c = λ naming written are.
    let led = site g.D.Desk.leads g.P.Keeper.rows g.P.Keeper.append_faults g.P.Keeper.other_faults (c.args.desk.now, c.args.keep.now) (c.run_rules.new.desk, c.run_rules.new.keep) in
    let before = g.L.Life.allowances c.args.life.now in
    let now = g.L.Life.allowances c.run_rules.new.life in
    RunsTo-then_memory led before now c.args.moment (course_of_rules naming c.args.moment 0 0 written (request_of c.args.vars))
    (λ (finish : Finish). ended (end_of_request finish.ending finish.request)) c.args.asks.now c.run_rules.new.asks c.in-Ok.field-0
    (RunsTo-same led before now c.args.moment (course_of_rules naming c.args.moment 0 0 written c.new-request.result)
    (course_of_rules naming c.args.moment 0 0 written (request_of c.args.vars)) c.args.asks.now c.run_rules.new.asks (Ok c.in-Ok.field-0)
    (ap (λ (request : Request). course_of_rules naming c.args.moment 0 0 written request) c.new-request.ensures) (c.in-Ok.ensures.runs naming written are))

pub returns-in-Err-clause-runs : goal.returns-in-Err-clause-runs
returns-in-Err-clause-runs g c = λ naming written are.
    let led = site g.D.Desk.leads g.P.Keeper.rows g.P.Keeper.append_faults g.P.Keeper.other_faults (c.args.desk.now, c.args.keep.now) (c.run_rules.new.desk, c.run_rules.new.keep) in
    let before = g.L.Life.allowances c.args.life.now in
    let now = g.L.Life.allowances c.run_rules.new.life in
    RunsTo-fault led before now c.args.moment (course_of_rules naming c.args.moment 0 0 written (request_of c.args.vars))
    (λ (finish : Finish). ended (end_of_request finish.ending finish.request)) c.args.asks.now c.run_rules.new.asks c.in-Err.end
    (RunsTo-same led before now c.args.moment (course_of_rules naming c.args.moment 0 0 written c.new-request.result)
    (course_of_rules naming c.args.moment 0 0 written (request_of c.args.vars)) c.args.asks.now c.run_rules.new.asks (Err c.in-Err.end)
    (ap (λ (request : Request). course_of_rules naming c.args.moment 0 0 written request) c.new-request.ensures) (c.in-Err.ensures.runs naming written are))
