use Rattle.std.proofs.Common.{List, Err, sym, subst}
use Rattle.uw_keeper.specs.Keeping.{keeping}
use Rattle.uw_spool.specs.declared.report.RoundFault.TheVariants as faults
use Rattle.uw_spool.specs.declared.report.TaskLine.{TaskLine}
use Rattle.uw_spool.specs.Rounds.{Round, Rounds}
use Rattle.uw_spool.proofs.RoundLemmas.{flow, nothing_run}
use Rattle.uw_spool.proofs.rounds.round.Goals as goal

pub returns-in-Err-clause-rounds : goal.returns-in-Err-clause-rounds
returns-in-Err-clause-rounds g c = λ rules are.
    let round : Round = record { rules = rules; now = c.args.now; spooler = c.args.k; spoolers = c.args.n } in
    let kept = keeping g.P.Keeper.rows g.P.Keeper.append_faults g.P.Keeper.other_faults c.args.keep.now in
    let told = g.L.Life.allowances c.args.life.now in
    subst (λ (done : List TaskLine). Rounds round (flow g.D.Desk.leads c.args.desk.now c.args.desk.now kept kept told told) (Err (faults.Memory done))) (sym c.new-in-Err.ensures)
    (nothing_run g.D.Desk.leads round c.args.desk.now kept told)
