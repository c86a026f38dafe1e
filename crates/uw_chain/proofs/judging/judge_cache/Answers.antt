use Rattle.std.proofs.lemmas.Result.{err_from_is_err_and}
use Rattle.uw_chain.specs.Tests.{asking_cache, filled_within}
use Rattle.uw_chain.specs.declared.verdict.Verdict.TheVariants as verdicts
use Rattle.uw_chain.proofs.SpoolLemmas.{site, site_none}
use Rattle.uw_chain.proofs.CourseLemmas.{RunsTo-ended, RunsTo-memory}
use Rattle.uw_chain.proofs.JudgeLemmas.{cache_overlong, cache_unanswered}
use Rattle.uw_chain.proofs.judging.judge_cache.Goals as goal

pub returns-in_err-key-clause-runs : goal.returns-in_err-key-clause-runs
returns-in_err-key-clause-runs g c =
    let filling = c.args.filling.now in let desk = c.args.desk.now in
    let end = err_from_is_err_and c.from_residual.result c.from_residual.ensures.1 in
    rw (end.1, end.2)
    (RunsTo-memory (site g.D.Desk.leads g.P.Keeper.rows g.P.Keeper.append_faults g.P.Keeper.other_faults (desk, c.args.keep.now) (desk, c.args.keep.now))
    (g.L.Life.allowances c.args.life.now) filling.moment (asking_cache (filled_within c.args.key.now filling.vars.now filling.captures.now filling.moment) c.args.cache) c.args.asks.now
    (site_none g.D.Desk.leads g.P.Keeper.rows g.P.Keeper.append_faults g.P.Keeper.other_faults g.met.D.Desk.leads_none (desk, c.args.keep.now)))

pub returns-in_default-clause-runs : goal.returns-in_default-clause-runs
returns-in_default-clause-runs g c =
    let filling = c.args.filling.now in let desk = c.args.desk.now in
    RunsTo-ended (site g.D.Desk.leads g.P.Keeper.rows g.P.Keeper.append_faults g.P.Keeper.other_faults (desk, c.args.keep.now) (desk, c.args.keep.now)) (g.L.Life.allowances c.args.life.now) filling.moment
    (asking_cache (filled_within c.args.key.now filling.vars.now filling.captures.now filling.moment) c.args.cache) c.args.asks.now verdicts.Overlong
    (site_none g.D.Desk.leads g.P.Keeper.rows g.P.Keeper.append_faults g.P.Keeper.other_faults g.met.D.Desk.leads_none (desk, c.args.keep.now))
    (cache_overlong (filled_within c.args.key.now filling.vars.now filling.captures.now filling.moment) c.in_ok-key.field-0 c.args.cache c.in_ok-key.ensures c.in_default.is)

pub returns-in_err-ask_cache-clause-runs : goal.returns-in_err-ask_cache-clause-runs
returns-in_err-ask_cache-clause-runs g c =
    let filling = c.args.filling.now in
    cache_unanswered (Unit {0}) (site g.D.Desk.leads g.P.Keeper.rows g.P.Keeper.append_faults g.P.Keeper.other_faults (c.args.desk.now, c.args.keep.now) (c.ask_cache.new.desk, c.ask_cache.new.keep)) (g.L.Life.allowances c.args.life.now) (g.L.Life.allowances c.ask_cache.new.life) filling.moment
    (filled_within c.args.key.now filling.vars.now filling.captures.now filling.moment) c.in_ok-key.field-0 c.in-Some.key c.args.cache c.args.asks.now c.ask_cache.new.asks
    c.in_err-ask_cache.field-0.0 c.from_residual-in_err-ask_cache.result c.in_ok-key.ensures c.in-Some.is c.in_err-ask_cache.ensures.asked c.from_residual-in_err-ask_cache.ensures.1
