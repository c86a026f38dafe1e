use Rattle.std.proofs.Common.{subst, ap, ◌∙◌}
use Rattle.uw_lock.specs.LockRule.{IsWhole, MayBeLeftHeld}
use Rattle.uw_lock.proofs.Steps.{closes_home, closes_whole, closes_held, closes_alone, if_some, if_none, is_some}
use Rattle.uw_lock.proofs.lock.RobustLock.close.Goals as goal

pub take_out-requires-clause-home : goal.take_out-requires-clause-home
take_out-requires-clause-home g c = closes_home g.K.Kept.stands g.K.Kept.pending g.K.Kept.conf _ _ _ _ _ c.close_with.ensures.values.2

pub returns-clause-value : goal.returns-clause-value
returns-clause-value g c =
    let stands = g.K.Kept.stands in let pending = g.K.Kept.pending in let conf = g.K.Kept.conf in let seat = c.into_seat-seat.result in let rest = c.into_seat-seat.ensures in
    if_some _ _ c.take_out.result
    (λ x h. subst (λ p. IsWhole stands pending conf p x) rest.0 (closes_whole stands pending conf _ seat.table_id seat.id seat.me.0 _ _ x rest.1.1 c.close_with.ensures.values.2 h.0 h.1))
    c.take_out.ensures.value

pub returns-clause-none : goal.returns-clause-none
returns-clause-none g c =
    let stands = g.K.Kept.stands in let pending = g.K.Kept.pending in let conf = g.K.Kept.conf in let seat = c.into_seat-seat.result in let rest = c.into_seat-seat.ensures in
    if_none _ _ c.take_out.result
    (λ h. subst (λ p. MayBeLeftHeld stands pending conf p) rest.0 (closes_held stands pending conf _ seat.table_id seat.id seat.me.0 _ _ rest.1.2 c.close_with.ensures.values.2 h))
    c.take_out.ensures.none

pub returns-clause-alone : goal.returns-clause-alone
returns-clause-alone g c only =
    let seat = c.into_seat-seat.result in let rest = c.into_seat-seat.ensures in
    is_some _ c.take_out.result
    (closes_alone g.K.Kept.stands g.K.Kept.pending g.K.Kept.conf _ seat.id seat.me.0 _ _ rest.1.1 rest.1.2 (ap (λ p. p.number) rest.0 ∙ only.0) (ap (λ p. p.step) rest.0 ∙ only.1) c.close_with.ensures.values.2)
    c.take_out.ensures.none
