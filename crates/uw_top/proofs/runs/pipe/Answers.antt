use Rattle.std.proofs.Common.{◌≡◌, []}
use Rattle.uw_outside.specs.Streams.{inflow, outflow}
use Rattle.uw_keeper.specs.Keeping.{keeping}
use Rattle.uw_session.specs.Exchange.{Site}
use Rattle.uw_top.specs.Kept.{PipeFlow, PipesOver}
use Rattle.uw_top.specs.Run.{IsSaid}
use Rattle.uw_top.proofs.Configuring.{runs_over, site_is}
use Rattle.uw_top.proofs.runs.pipe.Goals as goal

pub returns-in-Ok-clause-pipes : goal.returns-in-Ok-clause-pipes
returns-in-Ok-clause-pipes g c =
    let before = g.M.Patterns.faults c.args.make.now in
    let after = g.M.Patterns.faults c.configuration.new.make in
    let f : PipeFlow = record {
      src = inflow g.S.Source.left g.S.Source.ended g.S.Source.faults c.args.src.now c.piped.new.src;
      snk = outflow g.K.Sink.taken g.K.Sink.faults c.args.snk.now c.piped.new.snk;
      gave = g.C.Clock.gave c.args.clock.now c.piped.new.clock;
      kept = keeping g.P.Keeper.rows g.P.Keeper.append_faults g.P.Keeper.other_faults c.args.keep.now;
      left = keeping g.P.Keeper.rows g.P.Keeper.append_faults g.P.Keeper.other_faults c.piped.new.keep;
      desk = c.args.kept.now;
      desk_now = c.piped.new.kept;
    } in
    let untouched : Type 0 =
    (c.piped.new.src ≡ c.args.src.now) × (c.piped.new.snk ≡ c.args.snk.now) × (c.piped.new.clock ≡ c.args.clock.now) × (c.piped.new.keep ≡ c.args.keep.now)
    × (c.piped.new.kept ≡ c.args.kept.now) × (c.piped.result.briefs ≡ []) in
    let Ran : Site → Type 0 = λ site. PipesOver c.args.die.now site f untouched c.piped.result.briefs c.piped.result.fault in
    runs_over before after IsSaid _ _ _ Ran c.in-Ok.conf c.in-Ok.ensures.gives (λ text said. c.piped.ensures.pipes _ (site_is before after text c.in-Ok.conf said))
