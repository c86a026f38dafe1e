use Rattle.std.proofs.Common.{◌≡◌, ◌∙◌, sym, ap, subst, List, ℕ, drop}
use Rattle.uw_outside.specs.Faults.{Rose}
use Rattle.uw_outside.specs.Lives.{LifeLeft}
use Rattle.std.specs.Prelude.{Option, None, Some}
use Rattle.uw_outside.specs.Streams.{inflow, outflow}
use Rattle.uw_keeper.specs.Keeping.{keeping}
use Rattle.uw_chain.proofs.SpoolLemmas.{kept_none}
use Rattle.uw_ends.specs.declared.ends.RunFault.{RunFault}
use Rattle.uw_top.specs.Pipe.{both_lead}
use Rattle.uw_top.specs.PipeSteps.{IsLast}
use Rattle.uw_top.proofs.Settling.{not_dead}
use Rattle.uw_top.proofs.Stopping.{DeathTurn, LastBy, death_cut, death_goes, death_wrote_nothing, died, no_memory, not_served, served, told_since}
use Rattle.uw_top.proofs.pipe.take_turn.Goals as goal

pub returns-then-is_err-clause-turn : goal.returns-then-is_err-clause-turn
returns-then-is_err-clause-turn g c = λ site is. (
  c.reserve.ensures.items,
  no_memory (both_lead g.D.Desk.leads (c.args.desk.now, keeping g.P.Keeper.rows g.P.Keeper.append_faults g.P.Keeper.other_faults c.args.keep.now) (c.args.desk.now, keeping g.P.Keeper.rows g.P.Keeper.append_faults g.P.Keeper.other_faults c.args.keep.now)) site (Some c.args.life.now.allowances) _ _ _ _ _ _ _ c.now-moment.result _ c.now-moment.ensures
      (g.met.D.Desk.leads_none c.args.desk.now, kept_none (keeping g.P.Keeper.rows g.P.Keeper.append_faults g.P.Keeper.other_faults c.args.keep.now)),
)

pub returns-in-Ok-clause-turn : goal.returns-in-Ok-clause-turn
returns-in-Ok-clause-turn g c = λ site is.
    served (both_lead g.D.Desk.leads (c.args.desk.now, keeping g.P.Keeper.rows g.P.Keeper.append_faults g.P.Keeper.other_faults c.args.keep.now) (c.serve_with-served.new.desk, keeping g.P.Keeper.rows g.P.Keeper.append_faults g.P.Keeper.other_faults c.serve_with-served.new.keep)) site _ _ _ _ c.now-moment.result _ _ _ c.in-Ok.field-0 c.now-moment.ensures (c.in-Ok.ensures.serves site is)
    (rw c.reserve.ensures.items at c.push_reserved.ensures.items)

pub returns-in-ByFault-clause-turn : goal.returns-in-ByFault-clause-turn
returns-in-ByFault-clause-turn g c = λ site is.
    let led = both_lead g.D.Desk.leads (c.args.desk.now, keeping g.P.Keeper.rows g.P.Keeper.append_faults g.P.Keeper.other_faults c.args.keep.now) (c.serve_with-served.new.desk, keeping g.P.Keeper.rows g.P.Keeper.append_faults g.P.Keeper.other_faults c.serve_with-served.new.keep) in
    let src = inflow g.S.Source.left g.S.Source.ended g.S.Source.faults c.args.src.now c.serve_with-served.new.src in
    let gave = g.C.Clock.gave c.args.clock.now c.now-moment.new.self in
    let snk = outflow g.K.Sink.taken g.K.Sink.faults c.args.snk.now c.serve_with-served.new.snk in
    let before = Some c.args.life.now.allowances in
    let after = Some c.serve_with-served.new.life.allowances in
    let Ends : Option RunFault → Type 0 = λ end. IsLast led site before after src snk gave end in (
      c.reserve.ensures.items,
      subst (LastBy Ends) (sym c.stop_of.ensures ∙ c.in-ByFault.is)
          (not_served led site before after src snk c.now-moment.result gave c.in-Err.fault c.now-moment.ensures (c.in-Err.ensures.serves site is)),
    )

pub returns-clause-turn : goal.returns-clause-turn
returns-clause-turn g c = λ site is.
    let led = both_lead g.D.Desk.leads (c.args.desk.now, keeping g.P.Keeper.rows g.P.Keeper.append_faults g.P.Keeper.other_faults c.args.keep.now) (c.serve_with-served.new.desk, keeping g.P.Keeper.rows g.P.Keeper.append_faults g.P.Keeper.other_faults c.serve_with-served.new.keep) in
    let src = inflow g.S.Source.left g.S.Source.ended g.S.Source.faults c.args.src.now c.serve_with-served.new.src in
    let gave = g.C.Clock.gave c.args.clock.now c.now-moment.new.self in
    let snk = outflow g.K.Sink.taken g.K.Sink.faults c.args.snk.now c.tell_death.new.snk in
    let before = Some c.args.life.now.allowances in
    let spent = c.serve_with-served.new.life.allowances in
    let dead = sym c.stop_of.ensures ∙ c.in-Dead.is in
    let d = died led site before spent src _ c.now-moment.result c.in-Dead.whole c.in-Err.fault dead (c.in-Err.ensures.serves site is) in
    let kept = death_wrote_nothing c.in-Err.fault c.in-Dead.whole _ _ dead c.in-Err.ensures.writes in
    let next : Some (drop 1 spent) ≡ Some c.renew.new.self.allowances = ap (λ (life : LifeLeft). Some life.allowances) (sym c.renew.ensures) in
    let renewed : DeathTurn led site before (Some c.renew.new.self.allowances) src c.now-moment.result c.in-Dead.whole =
    subst (λ (after : Option (List ℕ)). DeathTurn led site before after src c.now-moment.result c.in-Dead.whole) next d.1 in (
      c.reserve.ensures.items,
      death_cut led site before (Some c.renew.new.self.allowances) src snk c.now-moment.result gave c.in-Dead.whole c.in-Some.fault c.now-moment.ensures renewed
          (told_since _ _ _ _ _ _ c.in-Dead.whole (Some c.in-Some.fault) d.0 kept c.in-Some.ensures.tells),
    )

pub returns-in-None-clause-turn : goal.returns-in-None-clause-turn
returns-in-None-clause-turn g c = λ site is.
    let led = both_lead g.D.Desk.leads (c.args.desk.now, keeping g.P.Keeper.rows g.P.Keeper.append_faults g.P.Keeper.other_faults c.args.keep.now) (c.serve_with-served.new.desk, keeping g.P.Keeper.rows g.P.Keeper.append_faults g.P.Keeper.other_faults c.serve_with-served.new.keep) in
    let src = inflow g.S.Source.left g.S.Source.ended g.S.Source.faults c.args.src.now c.serve_with-served.new.src in
    let gave = g.C.Clock.gave c.args.clock.now c.now-moment.new.self in
    let snk = outflow g.K.Sink.taken g.K.Sink.faults c.args.snk.now c.tell_death.new.snk in
    let before = Some c.args.life.now.allowances in
    let spent = c.serve_with-served.new.life.allowances in
    let dead = sym c.stop_of.ensures ∙ c.in-Dead.is in
    let d = died led site before spent src _ c.now-moment.result c.in-Dead.whole c.in-Err.fault dead (c.in-Err.ensures.serves site is) in
    let kept = death_wrote_nothing c.in-Err.fault c.in-Dead.whole _ _ dead c.in-Err.ensures.writes in
    let next : Some (drop 1 spent) ≡ Some c.renew.new.self.allowances = ap (λ (life : LifeLeft). Some life.allowances) (sym c.renew.ensures) in
    let renewed : DeathTurn led site before (Some c.renew.new.self.allowances) src c.now-moment.result c.in-Dead.whole =
    subst (λ (after : Option (List ℕ)). DeathTurn led site before after src c.now-moment.result c.in-Dead.whole) next d.1 in
    death_goes led site before (Some c.renew.new.self.allowances) src snk c.now-moment.result gave c.in-Dead.whole c.args.briefs.now.items c.push_reserved-in-None.new.self.items c.now-moment.ensures renewed
    (told_since (g.K.Sink.taken c.args.snk.now) (g.K.Sink.taken c.serve_with-served.new.snk) (g.K.Sink.taken c.tell_death.new.snk) (g.K.Sink.faults c.args.snk.now) (g.K.Sink.faults c.serve_with-served.new.snk) (g.K.Sink.faults c.tell_death.new.snk) c.in-Dead.whole None d.0 kept c.in-None.ensures.tells)
    (rw c.reserve.ensures.items at c.push_reserved-in-None.ensures.items)

pub returns-in-Ok-clause-settled : goal.returns-in-Ok-clause-settled
returns-in-Ok-clause-settled g c = λ settled none. c.in-Ok.ensures.settled settled (not_dead _ _ _ c.in-Ok.ensures.cause none)

pub returns-in-ByFault-clause-settled : goal.returns-in-ByFault-clause-settled
returns-in-ByFault-clause-settled g c = λ settled none. c.in-Err.ensures.settled settled (not_dead _ _ _ c.in-Err.ensures.cause none)

pub returns-in-AtEnd-clause-settled : goal.returns-in-AtEnd-clause-settled
returns-in-AtEnd-clause-settled g c = λ settled none. c.in-Err.ensures.settled settled (not_dead _ _ _ c.in-Err.ensures.cause none)

pub returns-clause-settled : goal.returns-clause-settled
returns-clause-settled g c = λ settled none. c.in-Err.ensures.settled settled (not_dead _ _ _ c.in-Err.ensures.cause (subst (λ (deaths : ℕ). Rose c.args.life.now.deaths deaths → ⊥) (ap (λ (life : LifeLeft). life.deaths) c.renew.ensures) none))

pub returns-in-None-clause-settled : goal.returns-in-None-clause-settled
returns-in-None-clause-settled g c = λ settled none. c.in-Err.ensures.settled settled (not_dead _ _ _ c.in-Err.ensures.cause (subst (λ (deaths : ℕ). Rose c.args.life.now.deaths deaths → ⊥) (ap (λ (life : LifeLeft). life.deaths) c.renew.ensures) none))
