use Rattle.std.proofs.Common.{rules, ◌<◌, sym, ap, ◌∙◌, subst, arith}
use Rattle.uw_lock.proofs.Steps.{splits_message, joins_message, looks_up}
use Rattle.uw_lock.proofs.lock.RobustLock.meet.Goals as goal

pub split_seat-message-requires : goal.split_seat-message-requires
split_seat-message-requires g c = let words = c.self.invariant.0 in (search rules, omega (arith, words), splits_message g.K.Kept.stands g.K.Kept.pending g.K.Kept.conf _ _ _ c.b.invariant.2)

pub join_seat-requires : goal.join_seat-requires
join_seat-requires g c = let words = c.self.invariant.0 in let message = c.split_seat-message.ensures in (
  search rules,
  search rules,
  ap (λ m. m.1) message.4,
  omega (arith, words),
  joins_message g.K.Kept.stands g.K.Kept.pending g.K.Kept.conf _ _ _ _ _ c.a.invariant.2 (ap (λ m. m.0.holds) message.4) (ap (λ m. m.0.step) message.4),
)

pub load-requires : goal.load-requires
load-requires g c = let words = c.self.invariant.0 in let after = c.join_seat.ensures.2 in (
  search rules,
  omega (arith, words),
  looks_up g.K.Kept.stands g.K.Kept.pending g.K.Kept.conf _ _ _ _ (subst (λ m. 0 < m.0.step) (sym after) c.a.invariant.1) (ap (λ m. m.0.holds) after ∙ c.a.invariant.2),
)
