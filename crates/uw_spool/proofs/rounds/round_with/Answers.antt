use Rattle.std.proofs.Common.{Err, ap, sym, subst, ◌∙◌}
use Rattle.uw_keeper.specs.Keeping.{keeping}
use Rattle.uw_spool.specs.declared.report.RoundFault.{RoundFault}
use Rattle.uw_spool.specs.Rounds.{Round, Rounds}
use Rattle.uw_spool.specs.RoundSteps.{fault_behind}
use Rattle.uw_spool.proofs.RoundLemmas.{flow, round_fails}
use Rattle.uw_spool.proofs.rounds.round_with.Goals as goal

pub returns-in-Err-clause-rounds : goal.returns-in-Err-clause-rounds
returns-in-Err-clause-rounds g c = λ rules are.
    let round : Round = record { rules = rules; now = c.args.now; spooler = c.args.k; spoolers = c.args.n } in
    let kept = keeping g.P.Keeper.rows g.P.Keeper.append_faults g.P.Keeper.other_faults c.args.keep.now in
    let left = keeping g.P.Keeper.rows g.P.Keeper.append_faults g.P.Keeper.other_faults c.run_rows.new.keep in
    let f = flow g.D.Desk.leads c.args.desk.now c.run_rows.new.desk kept left (g.L.Life.allowances c.args.life.now) (g.L.Life.allowances c.run_rows.new.life) in
    subst (λ (fault : RoundFault). Rounds round f (Err fault)) (sym (c.round_fault.ensures ∙ ap (fault_behind c.in-Err.fault) c.from_vec-in-Err.ensures))
    (round_fails round f c.run_rows.new.lines.items c.in-Err.fault (c.in-Err.ensures.ends rules are))
