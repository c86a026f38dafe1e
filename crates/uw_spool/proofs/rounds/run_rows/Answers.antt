use Rattle.std.proofs.Common.{List, Err, sym, subst}
use Rattle.uw_keeper.specs.Keeping.{keeping}
use Rattle.uw_spool.specs.declared.report.TaskLine.{TaskLine}
use Rattle.uw_spool.specs.Rounds.{Round}
use Rattle.uw_spool.specs.RoundSteps.{EndsRows}
use Rattle.uw_spool.proofs.RoundLemmas.{flow, rows_fault}
use Rattle.uw_spool.proofs.rounds.run_rows.Goals as goal

pub returns-in-Err-clause-ends : goal.returns-in-Err-clause-ends
returns-in-Err-clause-ends g c = λ rules are.
    let round : Round = record { rules = rules; now = c.args.now; spooler = c.args.k; spoolers = c.args.n } in
    let kept = keeping g.P.Keeper.rows g.P.Keeper.append_faults g.P.Keeper.other_faults c.args.keep.now in
    let left = keeping g.P.Keeper.rows g.P.Keeper.append_faults g.P.Keeper.other_faults c.last_row.new.keep in
    let told = g.L.Life.allowances c.args.life.now in
    subst (λ (lines : List TaskLine). EndsRows round (flow g.D.Desk.leads c.args.desk.now c.args.desk.now kept left told told) lines (Err c.in-Err.fault)) (sym c.requires.first)
    (rows_fault g.D.Desk.leads round c.args.desk.now kept left told c.in-Err.fault c.in-Err.ensures.row)
