use Rattle.uw_outside.specs.Streams.{outflow}
use Rattle.uw_session.specs.Exchange.{Site}
use Rattle.uw_top.specs.Load.{LoadRun}
use Rattle.uw_top.specs.Run.{IsSaidWithACache}
use Rattle.uw_top.proofs.Configuring.{runs_over, site_is}
use Rattle.uw_top.proofs.runs.load_over.Goals as goal

pub returns-in-Ok-clause-loads : goal.returns-in-Ok-clause-loads
returns-in-Ok-clause-loads g c =
    let before = g.M.Patterns.faults c.args.make.now in
    let after = g.M.Patterns.faults c.configuration_with_a_cache.new.make in
    let snk = outflow g.K.Sink.taken g.K.Sink.faults c.args.snk.now c.loaded-fault.new.snk in
    let gave = g.C.Clock.gave c.args.clock.now c.loaded-fault.new.clock in
    let Ran : Site → Type 0 = λ site. LoadRun site.options c.args.first c.args.count snk gave c.new-in-Ok.result.fault in
    runs_over before after IsSaidWithACache _ _ _ Ran c.in-Ok.conf c.in-Ok.ensures.gives
    (λ text said. rw c.new-in-Ok.ensures (c.loaded-fault.ensures _ (site_is before after text c.in-Ok.conf said.0)))
