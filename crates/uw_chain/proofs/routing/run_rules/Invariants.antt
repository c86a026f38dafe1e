use Rattle.std.proofs.Common.{◌≡◌, ◌≤◌, ◌-◌, true, length}
use Rattle.uw_chain.specs.KeptSearches.{FitSlots}
use Rattle.uw_chain.proofs.RouteLemmas.{Passes}
use Rattle.uw_chain.proofs.SpoolLemmas.{site}
use Rattle.uw_chain.proofs.routing.run_rules.Given as goal

-- the rules up to here were followed, nobody died, and of the keeper no count fell and no other call failed
abbrev pub invariant-rules : goal.invariant-rules
invariant-rules g l = record {
  fits : FitSlots l.rules l.slots;
  alive : g.L.Life.alive l.life ≡ true;
  deaths : g.L.Life.deaths l.life ≡ g.L.Life.deaths l.fn.life;
  parts : g.D.Desk.parts l.desk ≡ g.D.Desk.parts l.fn.desk;
  settled : g.D.Desk.settled l.fn.desk ≡ true → g.D.Desk.settled l.desk ≡ true;
  later : g.P.Keeper.append_faults l.fn.keep ≤ g.P.Keeper.append_faults l.keep;
  others : g.P.Keeper.other_faults l.keep ≡ g.P.Keeper.other_faults l.fn.keep;
  passes :
      Passes (site g.D.Desk.leads g.P.Keeper.rows g.P.Keeper.append_faults g.P.Keeper.other_faults) (l.fn.desk, l.fn.keep) (l.desk, l.keep) (g.L.Life.allowances l.fn.life) (g.L.Life.allowances l.life) l.moment l.rules l.fn.first l.request l.at l.fn.asks l.asks;
}

abbrev pub decreases-rules : goal.decreases-rules
decreases-rules g l = length l.rules - l.at
