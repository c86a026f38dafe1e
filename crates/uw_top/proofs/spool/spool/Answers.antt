use Rattle.std.proofs.Common.{◌<◌, ◌∙◌, ap, refl, arith}
use Rattle.uw_top.proofs.SpoolLemmas.{one_round_more, rounds_end, rounds_over}
use Rattle.uw_top.proofs.StandingRounds.{rounds_run_on}
use Rattle.uw_top.proofs.spool.spool.Goals as goal

pub returns-in-Some-clause-spools : goal.returns-in-Some-clause-spools
returns-in-Some-clause-spools g c = λ site is.
    let i = c.loop-spooler.invariant in
    let few : c.loop-spooler.spooler < site.options.spoolers = omega (arith, ap (λ o. o.spoolers) is.options, c.loop-spooler-test.true) in
    rounds_end g.D.Desk.leads site c.args.now _ _ _ _ _ _ _ _ _ _ _ _ c.loop-spooler.spooler c.in-Some.fault i.kept c.in-Some.ensures.cause few (i.so_far site is) (c.in-Some.ensures.runs site is)

pub returns-in-Some-clause-stands : goal.returns-in-Some-clause-stands
returns-in-Some-clause-stands g c = λ site lists is held.
    rounds_run_on g.D.Desk.leads g.D.OwnDesk.stands g.met.D.OwnDesk.stands_on site c.args.now _ _ lists _ _ _ _ held (returns-in-Some-clause-spools g c site is)

pub returns-in-Some-clause-settled : goal.returns-in-Some-clause-settled
returns-in-Some-clause-settled g c = λ settled. c.in-Some.ensures.settled (c.loop-spooler.invariant.settled settled)

pub loop-spooler-preserved : goal.loop-spooler-preserved
loop-spooler-preserved g c =
    let i = c.loop-spooler.invariant in
    let e = c.in-None.ensures in
    record {
      so_far = λ site is. one_round_more g.D.Desk.leads site c.args.now _ _ _ _ _ _ _ _ _ 0 0 c.loop-spooler.spooler (i.so_far site is) (e.runs site is);
      fits = e.fits;
      parts = e.parts ∙ i.parts;
      settled = λ settled. e.settled (i.settled settled);
      kept = e.cause.kept refl ∙ i.kept;
    }

pub returns-clause-stands : goal.returns-clause-stands
returns-clause-stands g c = λ site lists is held.
    let i = c.loop-spooler.invariant in
    rounds_run_on g.D.Desk.leads g.D.OwnDesk.stands g.met.D.OwnDesk.stands_on site c.args.now _ _ lists _ _ _ _ held
    (rounds_over g.D.Desk.leads site c.args.now _ _ _ _ _ _ _ _ c.loop-spooler.spooler i.kept (omega (arith, c.loop-spooler.auto.spooler-end, ap (λ o. o.spoolers) is.options)) (i.so_far site is))
