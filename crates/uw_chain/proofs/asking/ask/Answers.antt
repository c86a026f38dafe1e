use Rattle.uw_keeper.specs.Keeping.{keeping}
use Rattle.uw_chain.proofs.SpoolLemmas.{task_asked}
use Rattle.uw_chain.proofs.asking.ask.Goals as goal

pub returns-in-Ok-clause-asked : goal.returns-in-Ok-clause-asked
returns-in-Ok-clause-asked g c =
    let desk = c.args.desk.now in
    rw c.in-Spool.is
    (task_asked (g.D.Desk.leads desk desk) (keeping g.P.Keeper.rows g.P.Keeper.append_faults g.P.Keeper.other_faults c.args.keep.now)
    (keeping g.P.Keeper.rows g.P.Keeper.append_faults g.P.Keeper.other_faults c.ask_spool.new.keep) (g.L.Life.allowances c.args.life.now) c.args.moment c.in-Spool.vars
    c.in-Spool.body c.args.asks.now c.ask_spool.new.asks c.in-Ok.field-0 (g.met.D.Desk.leads_none desk) c.in-Ok.ensures)
