use Rattle.std.proofs.Common.{Err}
use Rattle.uw_top.specs.Spool.{task_rules_of}
use Rattle.uw_top.proofs.SpoolLemmas.{of_site}
use Rattle.uw_top.proofs.spool.run_round.Goals as goal

pub returns-in-Err-clause-runs : goal.returns-in-Err-clause-runs
returns-in-Err-clause-runs g c = λ site is.
    let fault = c.in-Err.fault in (
      Err fault,
      of_site g.D.Desk.leads c.args.conf.now site c.args.now c.args.spooler _ _ _ _ (Err fault) is (c.in-Err.ensures.rounds (task_rules_of site) is.task_rules),
      c.write_fault.ensures.written c.args.spooler,
    )
