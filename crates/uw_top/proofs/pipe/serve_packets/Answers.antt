use Rattle.std.proofs.Common.{◌∙◌, refl, arith, Some}
use Rattle.uw_keeper.specs.Keeping.{keeping}
use Rattle.uw_outside.proofs.Lives.{Spends-none}
use Rattle.uw_chain.proofs.SpoolLemmas.{kept_none}
use Rattle.uw_top.specs.Pipe.{both_lead, list_leads}
use Rattle.uw_top.proofs.Machine.{one_more, run_ends, run_is_full}
use Rattle.uw_top.proofs.Settling.{not_before, not_since}
use Rattle.uw_top.proofs.Standing.{run_on}
use Rattle.uw_top.proofs.pipe.serve_packets.Goals as goal

pub returns-in-Ok-false-clause-runs : goal.returns-in-Ok-false-clause-runs
returns-in-Ok-false-clause-runs g c = λ site is.
    let i = c.loop-served.invariant in
    let ran = run_ends g.C.Clock.gave g.met.C.Clock.gave_more (both_lead g.D.Desk.leads) _ _ _ _ _ _ site _ _ _ _ _ _ _ _ _ _ _ _ _ _ _ _ _ _ c.loop-served.served _ i.src i.snk c.in-Ok-false.ensures.reads c.in-Ok-false.ensures.writes c.loop-served-test.true (i.so_far site is)
    (rw c.in-Ok-false.field-0-test at (c.in-Ok-false.ensures.turn site is)) in
    (ran.0, ran.1, λ lists held. run_on g.D.Desk.leads list_leads g.D.OwnDesk.stands g.met.D.OwnDesk.stands_on _ _ lists _ site _ _ _ _ _ held ran.0)

pub returns-in-Err-clause-runs : goal.returns-in-Err-clause-runs
returns-in-Err-clause-runs g c = λ site is.
    let i = c.loop-served.invariant in
    let ran = run_ends g.C.Clock.gave g.met.C.Clock.gave_more (both_lead g.D.Desk.leads) _ _ _ _ _ _ site _ _ _ _ _ _ _ _ _ _ _ _ _ _ _ _ _ _ c.loop-served.served _ i.src i.snk c.in-Err.ensures.reads c.in-Err.ensures.writes c.loop-served-test.true (i.so_far site is)
    (c.in-Err.ensures.turn site is) in
    (ran.0, ran.1, λ lists held. run_on g.D.Desk.leads list_leads g.D.OwnDesk.stands g.met.D.OwnDesk.stands_on _ _ lists _ site _ _ _ _ _ held ran.0)

pub returns-in-Ok-false-clause-parts : goal.returns-in-Ok-false-clause-parts
returns-in-Ok-false-clause-parts g c = c.in-Ok-false.ensures.parts ∙ c.loop-served.invariant.parts

pub returns-in-Err-clause-parts : goal.returns-in-Err-clause-parts
returns-in-Err-clause-parts g c = c.in-Err.ensures.parts ∙ c.loop-served.invariant.parts

pub returns-in-Ok-false-clause-settled : goal.returns-in-Ok-false-clause-settled
returns-in-Ok-false-clause-settled g c = λ settled none.
    let i = c.loop-served.invariant in
    let e = c.in-Ok-false.ensures in
    e.settled (i.settled settled (not_before _ _ _ e.deaths none)) (not_since _ _ _ i.deaths none)

pub returns-in-Err-clause-settled : goal.returns-in-Err-clause-settled
returns-in-Err-clause-settled g c = λ settled none.
    let i = c.loop-served.invariant in
    let e = c.in-Err.ensures in
    e.settled (i.settled settled (not_before _ _ _ e.deaths none)) (not_since _ _ _ i.deaths none)

pub loop-served-preserved : goal.loop-served-preserved
loop-served-preserved g c =
    let i = c.loop-served.invariant in
    let e = c.in-Ok-true.ensures in
    record {
      so_far = λ site is. one_more g.C.Clock.gave g.met.C.Clock.gave_more (both_lead g.D.Desk.leads) _ _ _ _ _ _ site _ _ _ _ _ _ _ _ _ _ _ _ _ _ _ _ _ (i.so_far site is) (rw c.in-Ok-true.field-0-test at (e.turn site is));
      fits = e.fits;
      alive = e.alive;
      parts = e.parts ∙ i.parts;
      settled = λ settled none. e.settled (i.settled settled (not_before _ _ _ e.deaths none)) (not_since _ _ _ i.deaths none);
      deaths = omega (arith, i.deaths, e.deaths);
      src = e.reads.kept refl ∙ i.src;
      snk = e.writes.kept refl ∙ i.snk;
    }

pub returns-clause-runs : goal.returns-clause-runs
returns-clause-runs g c = λ site is.
    let i = c.loop-served.invariant in
    let ran = run_is_full g.C.Clock.gave (both_lead g.D.Desk.leads) _ _ _ _ site _ _ _ _ _ _ c.args.clock.now c.loop-served.clock _ _ _ _ _ _ _ c.loop-served.served i.src i.snk c.look_further.ensures.reads (omega arith)
    (g.met.D.Desk.leads_none c.loop-served.desk, kept_none (keeping g.P.Keeper.rows g.P.Keeper.append_faults g.P.Keeper.other_faults c.loop-served.keep))
    (Spends-none (Some c.loop-served.life.allowances)) (i.so_far site is) c.look_further.ensures.further in
    (ran.0, ran.1, λ lists held. run_on g.D.Desk.leads list_leads g.D.OwnDesk.stands g.met.D.OwnDesk.stands_on _ _ lists _ site _ _ _ _ _ held ran.0)
