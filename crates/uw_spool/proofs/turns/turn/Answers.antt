use Rattle.std.proofs.Common.{ℕ, subst, List, Ok, Err}
use Rattle.uw_keeper.specs.Keeping.{keeping}
use Rattle.uw_spool.specs.RoundSteps.{MakesOutcome}
use Rattle.uw_spool.specs.Tasks.{row_vars}
use Rattle.uw_spool.proofs.TurnLemmas.{flow_of, turn_done, turn_not_cleared, turn_stops, up_to}
use Rattle.uw_spool.proofs.turns.turn.Goals as goal

pub returns-in-Err-clause-turn : goal.returns-in-Err-clause-turn
returns-in-Err-clause-turn g c = λ rules are.
    let f = flow_of g.D.Desk.leads c.args.desk.now c.outcome_of.new.desk g.P.Keeper.rows g.P.Keeper.append_faults g.P.Keeper.other_faults c.args.keep.now c.outcome_of.new.keep
    (g.L.Life.allowances c.args.life.now) (g.L.Life.allowances c.outcome_of.new.life) in
    turn_stops rules c.args.now f c.args.row.now _ _ c.in-Err.end c.row_fault.result c.reserve.ensures.items c.row_fault.ensures
    (subst (λ (bytes : List ℕ). MakesOutcome rules c.args.now f (row_vars bytes) (Err c.in-Err.end)) c.as_slice-bytes.ensures (c.in-Err.ensures.outcome rules are))

pub returns-in-Ok-clear-clause-turn : goal.returns-in-Ok-clear-clause-turn
returns-in-Ok-clear-clause-turn g c = λ rules are.
    let f = flow_of g.D.Desk.leads c.args.desk.now c.outcome_of.new.desk g.P.Keeper.rows g.P.Keeper.append_faults g.P.Keeper.other_faults c.args.keep.now c.clear.new.keep
    (g.L.Life.allowances c.args.life.now) (g.L.Life.allowances c.outcome_of.new.life) in
    let put = keeping g.P.Keeper.rows g.P.Keeper.append_faults g.P.Keeper.other_faults c.outcome_of.new.keep in
    turn_done rules c.args.now f put c.args.row.now _ _ c.in-Ok.outcome c.in-Ok-clear.gone (rw c.reserve.ensures.items at c.push_reserved.ensures.items)
    (subst (λ (bytes : List ℕ). MakesOutcome rules c.args.now (up_to f put) (row_vars bytes) (Ok c.in-Ok.outcome)) c.as_slice-bytes.ensures (c.in-Ok.ensures.outcome rules are)) c.in-Ok-clear.ensures.clears

pub returns-in-Err-clear-clause-turn : goal.returns-in-Err-clear-clause-turn
returns-in-Err-clear-clause-turn g c = λ rules are.
    let f = flow_of g.D.Desk.leads c.args.desk.now c.outcome_of.new.desk g.P.Keeper.rows g.P.Keeper.append_faults g.P.Keeper.other_faults c.args.keep.now c.clear.new.keep
    (g.L.Life.allowances c.args.life.now) (g.L.Life.allowances c.outcome_of.new.life) in
    let put = keeping g.P.Keeper.rows g.P.Keeper.append_faults g.P.Keeper.other_faults c.outcome_of.new.keep in
    turn_not_cleared rules c.args.now f put c.args.row.now _ _ c.in-Ok.outcome c.in-Err-clear.fault c.reserve.ensures.items
    (subst (λ (bytes : List ℕ). MakesOutcome rules c.args.now (up_to f put) (row_vars bytes) (Ok c.in-Ok.outcome)) c.as_slice-bytes.ensures (c.in-Ok.ensures.outcome rules are)) c.in-Err-clear.ensures.clears
