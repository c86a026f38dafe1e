use Rattle.std.proofs.Common.{◌≡◌, true}
use Rattle.uw_keeper.specs.Keeping.{keeping}
use Rattle.uw_chain.specs.KeptSearches.{FitTable}
use Rattle.uw_session.specs.Exchange.{IsSiteOf, Site}
use Rattle.uw_top.specs.SpoolSteps.{RoundsSoFar}
use Rattle.uw_top.proofs.spool.spool.Given as goal

-- the rounds so far
abbrev pub invariant-loop-spooler : goal.invariant-loop-spooler
invariant-loop-spooler g l = record {
  so_far : (site : Site) → IsSiteOf l.fn.conf site → RoundsSoFar g.D.Desk.leads site l.fn.now l.fn.desk l.desk
      (keeping g.P.Keeper.rows g.P.Keeper.append_faults g.P.Keeper.other_faults l.fn.keep) (keeping g.P.Keeper.rows g.P.Keeper.append_faults g.P.Keeper.other_faults l.keep)
      (g.K.Sink.taken l.fn.snk) (g.K.Sink.taken l.snk) l.spooler;
  fits : FitTable l.fn.conf.tasks l.searches;
  parts : g.D.Desk.parts l.desk ≡ g.D.Desk.parts l.fn.desk;
  settled : g.D.Desk.settled l.fn.desk ≡ true → g.D.Desk.settled l.desk ≡ true;
  kept : g.K.Sink.faults l.snk ≡ g.K.Sink.faults l.fn.snk;
}
