use Rattle.std.proofs.Common.{◌∙◌, ◌<◌, List, sym, subst, refl, arith}
use Rattle.uw_keeper.specs.Keeping.{keeping}
use Rattle.uw_model.specs.Asks.{DeskParts}
use Rattle.uw_rules.specs.Compiled.{rules_of}
use Rattle.uw_rules.specs.PartNumbers.{AskPartsBelow}
use Rattle.uw_spool.specs.declared.report.TaskLine.{TaskLine}
use Rattle.uw_spool.specs.Rounds.{Round}
use Rattle.uw_spool.specs.RoundSteps.{SoFar}
use Rattle.uw_spool.proofs.TurnLemmas.{Counted-more, Counted-none, HasCause-more, HasCause-none}
use Rattle.uw_spool.proofs.RoundLemmas.{ends_fault, ends_none, ends_over, flow, so_far_pass, so_far_start}
use Rattle.uw_spool.proofs.rounds.pass_all.Goals as goal

pub loop-number-init : goal.loop-number-init
loop-number-init g c =
    let kept = keeping g.P.Keeper.rows g.P.Keeper.append_faults g.P.Keeper.other_faults c.args.keep.now in
    let told = g.L.Life.allowances c.args.life.now in
    record {
      so_far = λ rules are.
          let round : Round = record { rules = rules; now = c.args.now; spooler = c.args.k; spoolers = c.args.n } in
          subst (λ (lines : List TaskLine). SoFar round (flow g.D.Desk.leads c.args.desk.now c.args.desk.now kept kept told told) c.args.last 0 lines) (sym c.requires.first)
          (so_far_start g.D.Desk.leads round c.args.desk.now kept told c.args.last);
      counts = Counted-none kept;
      fits = c.requires.fits;
      cause = HasCause-none (g.L.Life.deaths c.args.life.now);
      alive = c.requires.alive;
      parts = refl;
      settled = λ is. is;
    }

pub pass-requires-clause-known : goal.pass-requires-clause-known
pass-requires-clause-known g c =
    subst (λ (parts : DeskParts). AskPartsBelow parts (rules_of c.args.table.now)) (sym c.loop-number.invariant.parts) c.requires.known

pub loop-number-smaller : goal.loop-number-smaller
loop-number-smaller g c =
    let up : c.loop-number.number < c.in-Ok-Some.next = rw c.in-Ok-Some.field-0-is at c.in-Ok-Some.ensures.rises in
    omega (arith, up, c.loop-number-test.true)

pub loop-number-preserved : goal.loop-number-preserved
loop-number-preserved g c =
    let i = c.loop-number.invariant in
    let e = c.in-Ok-Some.ensures in
    record {
      so_far = λ rules are. so_far_pass g.D.Desk.leads (record { rules = rules; now = c.args.now; spooler = c.args.k; spoolers = c.args.n }) _ _ _ _ _ _ _ _ _ c.args.last _ c.in-Ok-Some.next _ _
          (i.so_far rules are) (rw c.in-Ok-Some.field-0-is at (e.passes rules are));
      counts = Counted-more _ _ _ _ i.counts e.counts;
      fits = e.fits;
      cause = HasCause-more _ _ _ _ i.cause e.cause;
      alive = e.alive;
      parts = e.parts ∙ i.parts;
      settled = λ is. e.settled (i.settled is) refl;
    }

pub returns-in-Ok-None-clause-ends : goal.returns-in-Ok-None-clause-ends
returns-in-Ok-None-clause-ends g c = λ rules are.
    let i = c.loop-number.invariant in
    ends_none g.D.Desk.leads (record { rules = rules; now = c.args.now; spooler = c.args.k; spoolers = c.args.n }) _ _ _ _ _ _ _ _ _ c.args.last _ _ _ c.requires.told
    (i.so_far rules are) (rw c.in-Ok-None.field-0-is at (c.in-Ok-None.ensures.passes rules are))

pub returns-in-Err-clause-ends : goal.returns-in-Err-clause-ends
returns-in-Err-clause-ends g c = λ rules are.
    let i = c.loop-number.invariant in
    ends_fault g.D.Desk.leads (record { rules = rules; now = c.args.now; spooler = c.args.k; spoolers = c.args.n }) _ _ _ _ _ _ _ _ _ c.args.last _ _ _ c.in-Err.fault c.requires.told
    (i.so_far rules are) (c.in-Err.ensures.passes rules are)

pub returns-clause-ends : goal.returns-clause-ends
returns-clause-ends g c = λ rules are.
    let i = c.loop-number.invariant in
    ends_over g.D.Desk.leads (record { rules = rules; now = c.args.now; spooler = c.args.k; spoolers = c.args.n }) _ _ _ _ _ _ c.args.last _ _ c.requires.told
    c.loop-number-test.false (i.so_far rules are)
