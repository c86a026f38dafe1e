use Rattle.std.proofs.Common.{refl}
use Rattle.std.proofs.lemmas.Result.{err_from_is_err_and}
use Rattle.uw_chain.specs.declared.outcome.Outcome.TheVariants as outcomes
use Rattle.uw_chain.specs.declared.verdict.Verdict.TheVariants as verdicts
use Rattle.uw_chain.specs.declared.outcome.Ending.TheVariants as endings
use Rattle.uw_chain.specs.Routing.{course_of_rule}
use Rattle.uw_chain.proofs.SpoolLemmas.{site, site_more, site_none}
use Rattle.uw_chain.proofs.CourseLemmas.{RunsTo-ended}
use Rattle.uw_chain.proofs.RouteLemmas.{label_goes_on, rule_acts, rule_decided, rule_fault}
use Rattle.uw_chain.proofs.routing.run_rule.Goals as goal

pub returns-in_default-clause-runs : goal.returns-in_default-clause-runs
returns-in_default-clause-runs g c = λ naming said of.
    let desk = c.args.desk.now in
    let moment = c.args.moment in
    let request = c.args.request in
    RunsTo-ended (site g.D.Desk.leads g.P.Keeper.rows g.P.Keeper.append_faults g.P.Keeper.other_faults (desk, c.args.keep.now) (desk, c.args.keep.now)) (g.L.Life.allowances c.args.life.now) moment (course_of_rule naming moment request said) c.args.asks.now
    (outcomes.GoesOn request) (site_none g.D.Desk.leads g.P.Keeper.rows g.P.Keeper.append_faults g.P.Keeper.other_faults g.met.D.Desk.leads_none (desk, c.args.keep.now)) (label_goes_on naming moment request c.args.rule.now said c.in_default.is of)

pub returns-in_err-captures-clause-runs : goal.returns-in_err-captures-clause-runs
returns-in_err-captures-clause-runs g c = λ naming said of.
    let led = site g.D.Desk.leads g.P.Keeper.rows g.P.Keeper.append_faults g.P.Keeper.other_faults (c.args.desk.now, c.args.keep.now) (c.judge.new.desk, c.judge.new.keep) in
    let before = g.L.Life.allowances c.args.life.now in
    let now = g.L.Life.allowances c.judge.new.life in
    let end = err_from_is_err_and c.from_residual.result c.from_residual.ensures.1 in
    rw (end.1, end.2)
    (rule_fault led before now c.args.moment naming c.args.request c.args.rule.now c.in-Act.test c.in-Act.action c.args.asks.now c.judge.new.asks
    c.in_err-captures.field-0.0 c.in-Act.is c.in_err-captures.ensures.runs said of)

pub returns-in-Met-clause-runs : goal.returns-in-Met-clause-runs
returns-in-Met-clause-runs g c = λ naming said of.
    let tests = rw c.in-Met.is at c.in_ok-captures.ensures.runs in
    rule_acts
    (site g.D.Desk.leads g.P.Keeper.rows g.P.Keeper.append_faults g.P.Keeper.other_faults (c.args.desk.now, c.args.keep.now) (c.act.new.desk, c.act.new.keep))
    (site g.D.Desk.leads g.P.Keeper.rows g.P.Keeper.append_faults g.P.Keeper.other_faults (c.args.desk.now, c.args.keep.now) (c.judge.new.desk, c.judge.new.keep))
    (site g.D.Desk.leads g.P.Keeper.rows g.P.Keeper.append_faults g.P.Keeper.other_faults (c.judge.new.desk, c.judge.new.keep) (c.act.new.desk, c.act.new.keep))
    (g.L.Life.allowances c.args.life.now) (g.L.Life.allowances c.judge.new.life) (g.L.Life.allowances c.act.new.life) c.args.moment naming c.args.request
    c.args.rule.now c.in-Act.test c.in-Act.action c.args.asks.now c.judge.new.asks c.act.new.asks c.in-Met.captures c.act.result
    (site_more g.D.Desk.leads g.P.Keeper.rows g.P.Keeper.append_faults g.P.Keeper.other_faults g.met.D.Desk.leads_more (c.args.desk.now, c.args.keep.now)
    (c.judge.new.desk, c.judge.new.keep) (c.act.new.desk, c.act.new.keep))
    c.in-Act.is tests c.act.ensures.runs said of

pub returns-in-Missed-clause-runs : goal.returns-in-Missed-clause-runs
returns-in-Missed-clause-runs g c = λ naming said of.
    let led = site g.D.Desk.leads g.P.Keeper.rows g.P.Keeper.append_faults g.P.Keeper.other_faults (c.args.desk.now, c.args.keep.now) (c.judge.new.desk, c.judge.new.keep) in
    let before = g.L.Life.allowances c.args.life.now in
    let now = g.L.Life.allowances c.judge.new.life in
    let tests = rw c.in-Missed.is at c.in_ok-captures.ensures.runs in
    rule_decided led before now c.args.moment naming c.args.request c.args.rule.now c.in-Act.test c.in-Act.action c.args.asks.now c.judge.new.asks
    verdicts.Missed (outcomes.GoesOn c.args.request) c.in-Act.is tests (λ table phrase. refl) said of

pub returns-in-Overlong-clause-runs : goal.returns-in-Overlong-clause-runs
returns-in-Overlong-clause-runs g c = λ naming said of.
    let led = site g.D.Desk.leads g.P.Keeper.rows g.P.Keeper.append_faults g.P.Keeper.other_faults (c.args.desk.now, c.args.keep.now) (c.judge.new.desk, c.judge.new.keep) in
    let before = g.L.Life.allowances c.args.life.now in
    let now = g.L.Life.allowances c.judge.new.life in
    let tests = rw c.in-Overlong.is at c.in_ok-captures.ensures.runs in
    rule_decided led before now c.args.moment naming c.args.request c.args.rule.now c.in-Act.test c.in-Act.action c.args.asks.now c.judge.new.asks
    verdicts.Overlong (outcomes.Ends endings.Failing c.args.request) c.in-Act.is tests (λ table phrase. refl) said of
