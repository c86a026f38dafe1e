use Rattle.uw_chain.specs.Routing.{course_of_request}
use Rattle.uw_chain.proofs.SpoolLemmas.{site, site_none}
use Rattle.uw_chain.proofs.RouteLemmas.{stops_first}
use Rattle.uw_chain.proofs.routing.route.Goals as goal

pub returns-in-Err-clause-routes : goal.returns-in-Err-clause-routes
returns-in-Err-clause-routes g c = λ naming rules are.
    let desk = c.args.desk.now in
    stops_first (site g.D.Desk.leads g.P.Keeper.rows g.P.Keeper.append_faults g.P.Keeper.other_faults (desk, c.args.keep.now) (desk, c.args.keep.now)) (g.L.Life.allowances c.args.life.now) c.args.moment (course_of_request naming rules c.args.moment c.args.vars)
    c.new-in-Err.result (site_none g.D.Desk.leads g.P.Keeper.rows g.P.Keeper.append_faults g.P.Keeper.other_faults g.met.D.Desk.leads_none (desk, c.args.keep.now)) c.new-in-Err.ensures
