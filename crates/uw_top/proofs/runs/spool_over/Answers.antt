use Rattle.uw_outside.specs.Streams.{outflow}
use Rattle.uw_keeper.specs.Keeping.{keeping}
use Rattle.uw_model.specs.Lists.{Lists}
use Rattle.uw_session.specs.Exchange.{Site}
use Rattle.uw_top.specs.Pipe.{first_lists, list_leads}
use Rattle.uw_top.specs.Spool.{SpoolRun}
use Rattle.uw_top.specs.Run.{IsSaid}
use Rattle.uw_top.proofs.Configuring.{runs_over, site_is}
use Rattle.uw_top.proofs.runs.spool_over.Goals as goal

pub returns-in-Ok-clause-spools : goal.returns-in-Ok-clause-spools
returns-in-Ok-clause-spools g c =
    let before = g.M.Patterns.faults c.args.make.now in
    let after = g.M.Patterns.faults c.configuration.new.make in
    let snk = outflow g.K.Sink.taken g.K.Sink.faults c.args.snk.now c.spooled-fault.new.snk in
    let gave = g.C.Clock.gave c.args.clock.now c.spooled-fault.new.clock in
    let Ran : Site → Type 0 = λ site.
    (lists : Lists) × SpoolRun list_leads (first_lists site.options) lists (keeping g.P.Keeper.rows g.P.Keeper.append_faults g.P.Keeper.other_faults c.args.keep.now)
    (keeping g.P.Keeper.rows g.P.Keeper.append_faults g.P.Keeper.other_faults c.spooled-fault.new.keep) site snk gave c.new-in-Ok.result.fault in
    runs_over before after IsSaid _ _ _ Ran c.in-Ok.conf c.in-Ok.ensures.gives
    (λ text said. rw c.new-in-Ok.ensures (c.spooled-fault.ensures.spools _ (site_is before after text c.in-Ok.conf said)))
