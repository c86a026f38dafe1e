use Rattle.std.proofs.Common.{subst}
use Rattle.std.proofs.lemmas.Result.{err_from_is_err_and}
use Rattle.uw_rules.specs.declared.compiled.Condition.{Condition}
use Rattle.uw_rules.specs.Compiled.{IsConditionOf}
use Rattle.uw_chain.specs.Tests.{course_of_condition}
use Rattle.uw_chain.proofs.SpoolLemmas.{site, site_none}
use Rattle.uw_chain.proofs.CourseLemmas.{RunsTo-ended, RunsTo-memory}
use Rattle.uw_chain.proofs.JudgeLemmas.{compiled_judged, regexp_course}
use Rattle.uw_chain.proofs.judging.judge_condition.Goals as goal

pub returns-in_ok-judge_pattern-in-Regexp-clause-runs : goal.returns-in_ok-judge_pattern-in-Regexp-clause-runs
returns-in_ok-judge_pattern-in-Regexp-clause-runs g c = λ names name argument is.
    let filling = c.args.filling.now in let vars = filling.vars.now in let desk = c.args.desk.now in let verdict = c.in_ok-judge_pattern-in-Regexp.field-0 in
    RunsTo-ended (site g.D.Desk.leads g.P.Keeper.rows g.P.Keeper.append_faults g.P.Keeper.other_faults (desk, c.args.keep.now) (desk, c.args.keep.now)) (g.L.Life.allowances c.args.life.now) filling.moment (course_of_condition names vars filling.moment name argument) c.args.asks.now
    verdict (site_none g.D.Desk.leads g.P.Keeper.rows g.P.Keeper.append_faults g.P.Keeper.other_faults g.met.D.Desk.leads_none (desk, c.args.keep.now))
    (regexp_course names vars filling.moment filling.captures.now c.in-Regexp.text c.in-Regexp.pattern name argument verdict c.requires.captures
    (subst (λ (condition : Condition). IsConditionOf names condition name argument) c.in-Regexp.is is) c.in_ok-judge_pattern-in-Regexp.ensures.found)

pub returns-in_err-judge_pattern-in-Regexp-clause-runs : goal.returns-in_err-judge_pattern-in-Regexp-clause-runs
returns-in_err-judge_pattern-in-Regexp-clause-runs g c = λ names name argument is.
    let filling = c.args.filling.now in let desk = c.args.desk.now in
    let end = err_from_is_err_and c.from_residual.result c.from_residual.ensures.1 in
    rw (end.1, end.2)
    (RunsTo-memory (site g.D.Desk.leads g.P.Keeper.rows g.P.Keeper.append_faults g.P.Keeper.other_faults (desk, c.args.keep.now) (desk, c.args.keep.now))
    (g.L.Life.allowances c.args.life.now) filling.moment (course_of_condition names filling.vars.now filling.moment name argument) c.args.asks.now
    (site_none g.D.Desk.leads g.P.Keeper.rows g.P.Keeper.append_faults g.P.Keeper.other_faults g.met.D.Desk.leads_none (desk, c.args.keep.now)))

pub returns-in_ok-judge_texts-in_default-clause-runs : goal.returns-in_ok-judge_texts-in_default-clause-runs
returns-in_ok-judge_texts-in_default-clause-runs g c = λ names name argument is.
    let filling = c.args.filling.now in let vars = filling.vars.now in let desk = c.args.desk.now in
    RunsTo-ended (site g.D.Desk.leads g.P.Keeper.rows g.P.Keeper.append_faults g.P.Keeper.other_faults (desk, c.args.keep.now) (desk, c.args.keep.now)) (g.L.Life.allowances c.args.life.now) filling.moment (course_of_condition names vars filling.moment name argument) c.args.asks.now
    c.in_ok-judge_texts-in_default.field-0 (site_none g.D.Desk.leads g.P.Keeper.rows g.P.Keeper.append_faults g.P.Keeper.other_faults g.met.D.Desk.leads_none (desk, c.args.keep.now))
    (compiled_judged names vars filling.moment c.args.condition.now name argument c.in_ok-judge_texts-in_default.field-0 c.in_default.not-Regexp is
    c.in_ok-judge_texts-in_default.ensures)

pub returns-in_err-judge_texts-in_default-clause-runs : goal.returns-in_err-judge_texts-in_default-clause-runs
returns-in_err-judge_texts-in_default-clause-runs g c = λ names name argument is.
    let filling = c.args.filling.now in let vars = filling.vars.now in let desk = c.args.desk.now in
    let end = err_from_is_err_and c.from_residual-in_err-judge_texts-in_default.result c.from_residual-in_err-judge_texts-in_default.ensures.1 in
    rw (end.1, end.2)
    (RunsTo-memory (site g.D.Desk.leads g.P.Keeper.rows g.P.Keeper.append_faults g.P.Keeper.other_faults (desk, c.args.keep.now) (desk, c.args.keep.now))
    (g.L.Life.allowances c.args.life.now) filling.moment (course_of_condition names vars filling.moment name argument) c.args.asks.now
    (site_none g.D.Desk.leads g.P.Keeper.rows g.P.Keeper.append_faults g.P.Keeper.other_faults g.met.D.Desk.leads_none (desk, c.args.keep.now)))
