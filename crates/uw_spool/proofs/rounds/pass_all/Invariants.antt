use Rattle.std.proofs.Common.{◌≡◌, ◌-◌, true, false}
use Rattle.uw_outside.specs.Faults.{HasCause}
use Rattle.uw_keeper.specs.Keeping.{keeping}
use Rattle.uw_rules.specs.Compiled.{rules_of}
use Rattle.uw_rules.specs.Tables.{AreRulesOf}
use Rattle.uw_chain.specs.KeptSearches.{FitTable}
use Rattle.uw_spool.specs.Rounds.{TaskRules}
use Rattle.uw_spool.specs.RoundSteps.{Counted, SoFar}
use Rattle.uw_spool.proofs.TurnLemmas.{flow_of}
use Rattle.uw_spool.proofs.rounds.pass_all.Given as goal

-- the rows up to a number were passed
abbrev pub invariant-loop-number : goal.invariant-loop-number
invariant-loop-number g l = record {
  so_far : (rules : TaskRules) → AreRulesOf rules.naming.names rules.naming.labels (rules_of l.fn.table) rules.rules
      → SoFar (record { rules = rules; now = l.fn.now; spooler = l.fn.k; spoolers = l.fn.n })
      (flow_of g.D.Desk.leads l.fn.desk l.desk g.P.Keeper.rows g.P.Keeper.append_faults g.P.Keeper.other_faults l.fn.keep l.keep (g.L.Life.allowances l.fn.life) (g.L.Life.allowances l.life))
      l.fn.last l.number l.lines.items;
  counts : Counted (keeping g.P.Keeper.rows g.P.Keeper.append_faults g.P.Keeper.other_faults l.fn.keep) (keeping g.P.Keeper.rows g.P.Keeper.append_faults g.P.Keeper.other_faults l.keep) false;
  fits : FitTable l.fn.table l.searches;
  cause : HasCause (g.L.Life.deaths l.fn.life) (g.L.Life.deaths l.life) false;
  alive : g.L.Life.alive l.life ≡ true;
  parts : g.D.Desk.parts l.desk ≡ g.D.Desk.parts l.fn.desk;
  settled : g.D.Desk.settled l.fn.desk ≡ true → g.D.Desk.settled l.desk ≡ true;
}

abbrev pub decreases-loop-number : goal.decreases-loop-number
decreases-loop-number g l = l.fn.last - l.number
