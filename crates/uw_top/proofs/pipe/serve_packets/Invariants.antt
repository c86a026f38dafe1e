use Rattle.std.proofs.Common.{◌≡◌, ◌≤◌, Some, true}
use Rattle.uw_outside.specs.Faults.{Rose}
use Rattle.uw_keeper.specs.Keeping.{keeping}
use Rattle.uw_chain.specs.KeptSearches.{FitTable}
use Rattle.uw_session.specs.Exchange.{IsSiteOf, Site}
use Rattle.uw_top.specs.Pipe.{both_lead}
use Rattle.uw_top.specs.PipeSteps.{SoFar}
use Rattle.uw_top.proofs.pipe.serve_packets.Given as goal

-- the packets served so far
abbrev pub invariant-loop-served : goal.invariant-loop-served
invariant-loop-served g l = record {
  so_far : (site : Site) → IsSiteOf l.fn.conf site → SoFar (both_lead g.D.Desk.leads)
      (l.fn.desk, keeping g.P.Keeper.rows g.P.Keeper.append_faults g.P.Keeper.other_faults l.fn.keep) (Some l.fn.life.allowances) site
      (l.desk, keeping g.P.Keeper.rows g.P.Keeper.append_faults g.P.Keeper.other_faults l.keep) (Some l.life.allowances) l.briefs.items
      (g.S.Source.left l.fn.src) (g.S.Source.left l.src)
      (g.K.Sink.taken l.fn.snk) (g.K.Sink.taken l.snk) (g.C.Clock.gave l.fn.clock l.clock) l.served;
  fits : FitTable l.fn.conf.routes l.searches;
  alive : l.life.alive ≡ true;
  parts : g.D.Desk.parts l.desk ≡ g.D.Desk.parts l.fn.desk;
  settled : g.D.Desk.settled l.fn.desk ≡ true → (Rose l.fn.life.deaths l.life.deaths → ⊥) → g.D.Desk.settled l.desk ≡ true;
  deaths : l.fn.life.deaths ≤ l.life.deaths;
  src : g.S.Source.faults l.src ≡ g.S.Source.faults l.fn.src;
  snk : g.K.Sink.faults l.snk ≡ g.K.Sink.faults l.fn.snk;
}
