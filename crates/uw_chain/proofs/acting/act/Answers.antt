use Rattle.std.proofs.lemmas.Result.{err_from_is_err_and}
use Rattle.uw_chain.specs.Actions.{course_of_action}
use Rattle.uw_chain.proofs.SpoolLemmas.{site, site_none}
use Rattle.uw_chain.proofs.CourseLemmas.{RunsTo-memory}
use Rattle.uw_chain.proofs.acting.act.Goals as goal

pub returns-in_err-change-clause-runs : goal.returns-in_err-change-clause-runs
returns-in_err-change-clause-runs g c =
    let desk = c.args.desk.now in
    let course = course_of_action c.args.moment c.args.captures.now c.args.request c.args.action.now in
    let end = err_from_is_err_and c.from_residual.result c.from_residual.ensures.1 in
    rw (end.1, end.2) (RunsTo-memory (site g.D.Desk.leads g.P.Keeper.rows g.P.Keeper.append_faults g.P.Keeper.other_faults (desk, c.args.keep.now) (desk, c.args.keep.now)) (g.L.Life.allowances c.args.life.now) c.args.moment course c.args.asks.now (site_none g.D.Desk.leads g.P.Keeper.rows g.P.Keeper.append_faults g.P.Keeper.other_faults g.met.D.Desk.leads_none (desk, c.args.keep.now)))
