use Rattle.std.proofs.Common.{List, ℕ, ap, sym, subst, ◌∙◌}
use Rattle.std.proofs.lemmas.Result.{err_from_is_err_and}
use Rattle.uw_rules.specs.declared.compiled.Test.{Test}
use Rattle.uw_rules.specs.Compiled.{IsTestOf}
use Rattle.uw_chain.specs.declared.verdict.Verdict.TheVariants as verdicts
use Rattle.uw_chain.specs.Courses.{ended}
use Rattle.uw_chain.specs.Tests.{course_of_test}
use Rattle.uw_chain.proofs.SpoolLemmas.{site, site_none}
use Rattle.uw_chain.proofs.CourseLemmas.{RunsTo-ended, RunsTo-memory}
use Rattle.uw_chain.proofs.JudgeLemmas.{always_course, holding_judged, holding_unjudged, matching_course}
use Rattle.uw_chain.proofs.judging.judge.Goals as goal

pub returns-in_err-verdict-in-Holds-clause-runs : goal.returns-in_err-verdict-in-Holds-clause-runs
returns-in_err-verdict-in-Holds-clause-runs g c = λ names written is.
    holding_unjudged (site g.D.Desk.leads g.P.Keeper.rows g.P.Keeper.append_faults g.P.Keeper.other_faults (c.args.desk.now, c.args.keep.now) (c.judge_condition.new.desk, c.judge_condition.new.keep)) (g.L.Life.allowances c.args.life.now) (g.L.Life.allowances c.judge_condition.new.life)
    c.args.moment names c.args.vars.now c.in-Holds.negated c.in-Holds.condition written c.args.asks.now c.judge_condition.new.asks c.in_err-verdict-in-Holds.field-0.0
    c.from_residual-in_err-verdict-in-Holds.result (subst (λ (test : Test). IsTestOf names test written) c.in-Holds.is is) c.in_err-verdict-in-Holds.ensures.runs
    c.from_residual-in_err-verdict-in-Holds.ensures.1

pub returns-in-Always-clause-runs : goal.returns-in-Always-clause-runs
returns-in-Always-clause-runs g c = λ names written is.
    let vars = c.args.vars.now in let desk = c.args.desk.now in
    RunsTo-ended (site g.D.Desk.leads g.P.Keeper.rows g.P.Keeper.append_faults g.P.Keeper.other_faults (desk, c.args.keep.now) (desk, c.args.keep.now)) (g.L.Life.allowances c.args.life.now) c.args.moment (course_of_test names vars c.args.moment written) c.args.asks.now
    (verdicts.Met c.new.result) (site_none g.D.Desk.leads g.P.Keeper.rows g.P.Keeper.append_faults g.P.Keeper.other_faults g.met.D.Desk.leads_none (desk, c.args.keep.now))
    (always_course names vars c.args.moment written (subst (λ (test : Test). IsTestOf names test written) c.in-Always.is is)
    ∙ ap (λ (captures : List (List ℕ)). ended (verdicts.Met captures)) (sym c.new.ensures))

pub returns-in_err-search-in-Matches-clause-runs : goal.returns-in_err-search-in-Matches-clause-runs
returns-in_err-search-in-Matches-clause-runs g c = λ names written is.
    let desk = c.args.desk.now in
    let end = err_from_is_err_and c.from_residual.result c.from_residual.ensures.1 in
    rw (end.1, end.2)
    (RunsTo-memory (site g.D.Desk.leads g.P.Keeper.rows g.P.Keeper.append_faults g.P.Keeper.other_faults (desk, c.args.keep.now) (desk, c.args.keep.now))
    (g.L.Life.allowances c.args.life.now) c.args.moment (course_of_test names c.args.vars.now c.args.moment written) c.args.asks.now
    (site_none g.D.Desk.leads g.P.Keeper.rows g.P.Keeper.append_faults g.P.Keeper.other_faults g.met.D.Desk.leads_none (desk, c.args.keep.now)))

pub returns-in_ok-search-in-Matches-clause-runs : goal.returns-in_ok-search-in-Matches-clause-runs
returns-in_ok-search-in-Matches-clause-runs g c = λ names written is.
    let vars = c.args.vars.now in let desk = c.args.desk.now in let verdict = c.in_ok-search-in-Matches.field-0 in
    RunsTo-ended (site g.D.Desk.leads g.P.Keeper.rows g.P.Keeper.append_faults g.P.Keeper.other_faults (desk, c.args.keep.now) (desk, c.args.keep.now)) (g.L.Life.allowances c.args.life.now) c.args.moment (course_of_test names vars c.args.moment written) c.args.asks.now verdict
    (site_none g.D.Desk.leads g.P.Keeper.rows g.P.Keeper.append_faults g.P.Keeper.other_faults g.met.D.Desk.leads_none (desk, c.args.keep.now))
    (matching_course names vars c.args.moment c.in-Matches.subject c.in-Matches.pattern c.variable.result.now c.get.result.now verdict written
    (subst (λ (test : Test). IsTestOf names test written) c.in-Matches.is is) c.variable.ensures c.get.ensures
    c.in_ok-search-in-Matches.ensures.found)

pub returns-in_ok-verdict-in-Holds-clause-runs : goal.returns-in_ok-verdict-in-Holds-clause-runs
returns-in_ok-verdict-in-Holds-clause-runs g c = λ names written is.
    holding_judged (site g.D.Desk.leads g.P.Keeper.rows g.P.Keeper.append_faults g.P.Keeper.other_faults (c.args.desk.now, c.args.keep.now) (c.judge_condition.new.desk, c.judge_condition.new.keep)) (g.L.Life.allowances c.args.life.now) (g.L.Life.allowances c.judge_condition.new.life)
    c.args.moment names c.args.vars.now c.in-Holds.negated c.in-Holds.condition written c.args.asks.now c.judge_condition.new.asks c.in_ok-verdict-in-Holds.verdict
    c.verdict_when.result (subst (λ (test : Test). IsTestOf names test written) c.in-Holds.is is) c.in_ok-verdict-in-Holds.ensures.runs c.verdict_when.ensures
