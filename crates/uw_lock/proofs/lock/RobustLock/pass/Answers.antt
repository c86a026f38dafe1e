use Rattle.std.proofs.Common.{rules, sym, ap, ◌∙◌, arith}
use Rattle.uw_lock.specs.LockRule.{owns}
use Rattle.uw_lock.proofs.Histories.{halves_differ}
use Rattle.uw_lock.proofs.Views.{divided_rests, granted_rests}
use Rattle.uw_lock.proofs.Steps.{splits_pass}
use Rattle.uw_lock.proofs.lock.RobustLock.pass.Goals as goal

pub split_seat-requires : goal.split_seat-requires
split_seat-requires g c = let words = c.self.invariant.0 in
    (search rules, omega (arith, words), splits_pass g.K.Kept.stands g.K.Kept.pending g.K.Kept.conf _ _ _ c.from.invariant.1 c.from.invariant.2)

pub invariant_of-from : goal.invariant_of-from
invariant_of-from g c = divided_rests _ _ c.from.invariant c.split_seat.ensures.2

pub invariant_of-result : goal.invariant_of-result
invariant_of-result g c = granted_rests _ _ c.from.invariant c.split_seat.ensures.4

pub returns-clause-apart : goal.returns-clause-apart
returns-clause-apart g c i j same =
    halves_differ c.from.inside.seat.me.0 i j c.from.invariant.1 (ap (λ m. owns m.0 i) (sym c.split_seat.ensures.2) ∙ (same ∙ ap (λ m. owns m.0 j) c.split_seat.ensures.4))

pub returns-clause-own : goal.returns-clause-own
returns-clause-own g c = let a = divided_rests _ _ c.from.invariant c.split_seat.ensures.2 in let b = granted_rests _ _ c.from.invariant c.split_seat.ensures.4 in (a.4.0, b.4.0)
