use Rattle.std.proofs.Common.{rules, ◌∷◌, Some, sym, ap, ◌∙◌}
use Rattle.atomic_table.specs.Table.{rest}
use Rattle.uw_lock.proofs.Steps.{takes_lock}
use Rattle.uw_lock.proofs.lock.RobustLock.try_take.Goals as goal

pub swap-found-requires : goal.swap-found-requires
swap-found-requires g c = (search rules, search rules, takes_lock g.K.Kept.stands g.K.Kept.pending g.K.Kept.conf _ _ _ _ c.requires.rest)

pub exchange-requires : goal.exchange-requires
exchange-requires g c = let t = c.swap-found.ensures.2.1 c.if-found-eq-HELD.false in
    (search rules, (Some t.0, t.1 ∙ ap (λ l. (0, Some t.0) ∷ rest l) (sym t.1)))
