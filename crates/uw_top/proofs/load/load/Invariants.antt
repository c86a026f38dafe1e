use Rattle.std.proofs.Common.{◌≡◌, ◌<◌, ◌^◌, true}
use Rattle.uw_chain.specs.KeptSearches.{FitTable}
use Rattle.uw_session.specs.Exchange.{IsSiteOf, Site}
use Rattle.uw_top.specs.LoadSteps.{AreCounted, IsLoaded}
use Rattle.uw_top.proofs.load.load.Given as goal

-- the packets answered so far, and their figures
abbrev pub invariant-loop-served : goal.invariant-loop-served
invariant-loop-served g l = record {
  loaded : (site : Site) → IsSiteOf l.fn.conf site → IsLoaded g.D.Desk.leads site l.fn.first l.x l.fn.desk l.desk l.figures (g.C.Clock.gave l.fn.clock l.clock) l.served;
  fits : FitTable l.fn.conf.routes l.searches;
  parts : g.D.Desk.parts l.desk ≡ g.D.Desk.parts l.fn.desk;
  settled : g.D.Desk.settled l.fn.desk ≡ true → g.D.Desk.settled l.desk ≡ true;
  small : l.x < 2 ^ 31;
  counted : AreCounted l.figures;
  packets : l.figures.packets ≡ l.served;
}
