use Rattle.std.proofs.Common.{sym, ap, ◌∙◌, Err}
use Rattle.std.proofs.lemmas.Result.{err_from_is_err_and}
use Rattle.uw_model.specs.declared.asks.AskAnswer.{AskAnswer}
use Rattle.uw_chain.specs.declared.faults.ChainEnd.TheVariants as chains
use Rattle.uw_chain.specs.declared.outcome.Outcome.TheVariants as outcomes
use Rattle.uw_chain.specs.declared.outcome.Ending.TheVariants as endings
use Rattle.uw_chain.specs.Actions.{cache_ask, course_of_action}
use Rattle.uw_chain.specs.Courses.{asking, ended}
use Rattle.uw_chain.specs.RoutingSteps.{used_by}
use Rattle.uw_chain.proofs.SpoolLemmas.{site, site_none}
use Rattle.uw_chain.proofs.CourseLemmas.{RunsTo-ended, RunsTo-memory, RunsTo-same, RunsTo-unanswered}
use Rattle.uw_chain.proofs.ActLemmas.{RunsTo-answered_memory}
use Rattle.uw_chain.proofs.acting.act_by_asking.Goals as goal

pub returns-in_err-want-clause-runs : goal.returns-in_err-want-clause-runs
returns-in_err-want-clause-runs g c =
    let desk = c.args.desk.now in
    let course = course_of_action c.args.moment c.args.captures.now c.args.request c.args.action.now in
    let end = err_from_is_err_and c.from_residual.result c.from_residual.ensures.1 in
    rw (end.1, end.2) (RunsTo-memory (site g.D.Desk.leads g.P.Keeper.rows g.P.Keeper.append_faults g.P.Keeper.other_faults (desk, c.args.keep.now) (desk, c.args.keep.now)) (g.L.Life.allowances c.args.life.now) c.args.moment course c.args.asks.now (site_none g.D.Desk.leads g.P.Keeper.rows g.P.Keeper.append_faults g.P.Keeper.other_faults g.met.D.Desk.leads_none (desk, c.args.keep.now)))

pub returns-in_default-clause-runs : goal.returns-in_default-clause-runs
returns-in_default-clause-runs g c =
    let desk = c.args.desk.now in
    let course = course_of_action c.args.moment c.args.captures.now c.args.request c.args.action.now in
    let is = rw c.in_default.is at c.in_ok-want.ensures.course in
    RunsTo-ended (site g.D.Desk.leads g.P.Keeper.rows g.P.Keeper.append_faults g.P.Keeper.other_faults (desk, c.args.keep.now) (desk, c.args.keep.now)) (g.L.Life.allowances c.args.life.now) c.args.moment course c.args.asks.now (outcomes.Ends endings.Failing c.args.request)
    (site_none g.D.Desk.leads g.P.Keeper.rows g.P.Keeper.append_faults g.P.Keeper.other_faults g.met.D.Desk.leads_none (desk, c.args.keep.now)) is

pub returns-in_err-ask-clause-runs : goal.returns-in_err-ask-clause-runs
returns-in_err-ask-clause-runs g c =
    let led = site g.D.Desk.leads g.P.Keeper.rows g.P.Keeper.append_faults g.P.Keeper.other_faults (c.args.desk.now, c.args.keep.now) (c.ask.new.desk, c.ask.new.keep) in
    let before = g.L.Life.allowances c.args.life.now in
    let now = g.L.Life.allowances c.ask.new.life in
    let want = c.in-Some.want in
    let ask = want.ask in
    let next = λ (answer : AskAnswer). ended (used_by c.args.action.now want.content_type c.args.request answer) in
    let course = course_of_action c.args.moment c.args.captures.now c.args.request c.args.action.now in
    let end = err_from_is_err_and c.from_residual-in_err-ask.result c.from_residual-in_err-ask.ensures.1 in
    let is = rw c.in-Some.is at c.in_ok-want.ensures.course in
    rw (end.1, end.2)
    (RunsTo-same led before now c.args.moment (asking ask next) course c.args.asks.now c.ask.new.asks (Err c.in_err-ask.field-0.0) (sym is)
    (RunsTo-unanswered (Unit {0}) led before now c.args.moment ask c.args.asks.now c.ask.new.asks next c.in_err-ask.field-0.0
    c.in_err-ask.ensures.asked))

pub returns-in_err-use_answer-clause-runs : goal.returns-in_err-use_answer-clause-runs
returns-in_err-use_answer-clause-runs g c =
    let led = site g.D.Desk.leads g.P.Keeper.rows g.P.Keeper.append_faults g.P.Keeper.other_faults (c.args.desk.now, c.args.keep.now) (c.ask.new.desk, c.ask.new.keep) in
    let before = g.L.Life.allowances c.args.life.now in
    let now = g.L.Life.allowances c.ask.new.life in
    let want = c.in-Some.want in
    let ask = want.ask in
    let next = λ (answer : AskAnswer). ended (used_by c.args.action.now want.content_type c.args.request answer) in
    let course = course_of_action c.args.moment c.args.captures.now c.args.request c.args.action.now in
    let end = err_from_is_err_and c.from_residual-in_err-use_answer.result c.from_residual-in_err-use_answer.ensures.1 in
    let is = rw c.in-Some.is at c.in_ok-want.ensures.course in
    rw (end.1, end.2)
    (RunsTo-same led before now c.args.moment (asking ask next) course c.args.asks.now c.ask.new.asks (Err chains.Memory) (sym is)
    (RunsTo-answered_memory led before now c.args.moment ask c.args.asks.now c.ask.new.asks (tt {0}) next c.in_ok-ask.ensures.asked))

pub ask-requires-clause-known : goal.ask-requires-clause-known
ask-requires-clause-known g c = rw c.in-Some.is at (c.in_ok-want.ensures.known (g.D.Desk.parts c.args.desk.now) c.requires.known)
