use Rattle.std.proofs.Common.{rules}
use Rattle.atomic_table.specs.Table.{rest}
use Rattle.uw_lock.proofs.Steps.{leaves_lock}
use Rattle.uw_lock.proofs.turn.end.Goals as goal

pub store-requires : goal.store-requires
store-requires g c = let h = c.requires.holding in (
  search rules,
  search rules,
  leaves_lock g.K.Kept.stands g.K.Kept.pending g.K.Kept.conf _ _ _ c.args.seat.me.0 c.args.value (rest c.args.seat.me.1) _ c.args.owner c.exchange.ensures.3 h.1 h.2 c.requires.fit,
)
