-- The place is free and no place before it is; or no place is left, and none before was free.
use Rattle.std.proofs.Common.{arith}
use Rattle.uw_model.specs.PlacementSteps.{counted}
use Rattle.uw_model.proofs.PlacementLemmas.{first_run_found, first_run_nowhere}
use Rattle.uw_model.proofs.placement.first_run.Goals as goal

pub returns-in-None : goal.returns-in-None
returns-in-None c =
    let conf = c.args.conf.now in
    first_run_found conf (counted conf c.args.at c.args.entries.now) c.args.n c.loop-place.place (omega arith) c.in-None.ensures c.loop-place.invariant.1

pub returns : goal.returns
returns c =
    let conf = c.args.conf.now in
    first_run_nowhere conf (counted conf c.args.at c.args.entries.now) c.args.n c.loop-place.place (omega arith) (omega arith) c.loop-place.invariant.1
