use Rattle.std.proofs.Common.{ℕ, List, Option, Some, subst}
use Rattle.uw_outside.specs.Faults.{HasCause}
use Rattle.uw_outside.specs.Streams.{outflow}
use Rattle.uw_keeper.specs.Keeping.{keeping}
use Rattle.uw_top.specs.Pipe.{both_lead, has_failed_to_read}
use Rattle.uw_top.specs.PipeSteps.{Turns, fault_of_turn}
use Rattle.uw_top.proofs.pipe.turn.Goals as goal

-- a wait leaves the source as it was
pub returns-clause-turn : goal.returns-clause-turn
returns-clause-turn g c = λ site is.
    let led = both_lead g.D.Desk.leads (c.args.desk.now, keeping g.P.Keeper.rows g.P.Keeper.append_faults g.P.Keeper.other_faults c.args.keep.now) (c.take_turn.new.desk, keeping g.P.Keeper.rows g.P.Keeper.append_faults g.P.Keeper.other_faults c.take_turn.new.keep) in
    let snk = outflow g.K.Sink.taken g.K.Sink.faults c.args.snk.now c.take_turn.new.snk in
    let From : Option (List ℕ) → ℕ → Type 0 = λ left faults.
    Turns led site (Some c.args.life.now.allowances) (Some c.take_turn.new.life.allowances) c.args.briefs.now.items c.take_turn.new.briefs.items
    (record {
      before = left;
      now = g.S.Source.left c.take_turn.new.src;
      ended = g.S.Source.ended c.take_turn.new.src;
      faults_before = faults;
      faults_now = g.S.Source.faults c.take_turn.new.src;
    })
    snk (g.C.Clock.gave c.args.clock.now c.take_turn.new.clock) c.take_turn.result in
    subst (λ (left : Option (List ℕ)). From left (g.S.Source.faults c.args.src.now)) c.wait.ensures.left
    (subst (λ (faults : ℕ). From (g.S.Source.left c.wait.new.self) faults) c.wait.ensures.faults (c.take_turn.ensures.turn site is))

pub returns-clause-reads : goal.returns-clause-reads
returns-clause-reads g c =
    subst (λ (faults : ℕ). HasCause faults (g.S.Source.faults c.take_turn.new.src) (has_failed_to_read (fault_of_turn c.take_turn.result))) c.wait.ensures.faults
    c.take_turn.ensures.reads
