use Rattle.std.proofs.Common.{sym, ◌∙◌}
use Rattle.uw_keeper.specs.Keeping.{keeping}
use Rattle.uw_spool.specs.Tasks.{row_vars}
use Rattle.uw_spool.proofs.TurnLemmas.{flow_of, makes_bad, makes_later, makes_stop}
use Rattle.uw_spool.proofs.turns.outcome_of.Goals as goal

pub returns-in_default-clause-outcome : goal.returns-in_default-clause-outcome
returns-in_default-clause-outcome g c = λ rules are.
    let kept = keeping g.P.Keeper.rows g.P.Keeper.append_faults g.P.Keeper.other_faults c.args.keep.now in
    makes_bad g.D.Desk.leads g.met.D.Desk.leads_none rules c.args.now c.args.desk.now kept _ (row_vars c.args.bytes.now) (sym c.in_ok-vars.ensures ∙ c.in_default.is)

pub returns-then-is_later-clause-outcome : goal.returns-then-is_later-clause-outcome
returns-then-is_later-clause-outcome g c = λ rules are.
    let kept = keeping g.P.Keeper.rows g.P.Keeper.append_faults g.P.Keeper.other_faults c.args.keep.now in
    makes_later g.D.Desk.leads g.met.D.Desk.leads_none rules c.args.now c.args.desk.now kept _ (row_vars c.args.bytes.now) c.in-Some.vars (sym c.in_ok-vars.ensures ∙ c.in-Some.is)
    (sym c.is_later.ensures ∙ c.if-is_later.true)

pub returns-in-Err-clause-outcome : goal.returns-in-Err-clause-outcome
returns-in-Err-clause-outcome g c = λ rules are.
    let f = flow_of g.D.Desk.leads c.args.desk.now c.run_task_with.new.desk g.P.Keeper.rows g.P.Keeper.append_faults g.P.Keeper.other_faults c.args.keep.now c.run_task_with.new.keep
    (g.L.Life.allowances c.args.life.now) (g.L.Life.allowances c.run_task_with.new.life) in
    makes_stop rules c.args.now f (row_vars c.args.bytes.now) c.in-Some.vars c.in-Err.fault (sym c.in_ok-vars.ensures ∙ c.in-Some.is)
    (sym c.is_later.ensures ∙ c.if-is_later.false) (c.in-Err.ensures.runs rules.naming rules.rules are)
