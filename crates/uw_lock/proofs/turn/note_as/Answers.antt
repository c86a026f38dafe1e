use Rattle.std.proofs.Common.{arith}
use Rattle.uw_lock.proofs.Steps.{notes_entry}
use Rattle.uw_lock.proofs.turn.note_as.Goals as goal

pub fetch_add-requires : goal.fetch_add-requires
fetch_add-requires g c = let words = c.requires.table.1 in let h = c.requires.holding in (
  c.requires.table.0,
  omega (arith, words),
  notes_entry g.K.Kept.stands g.K.Kept.pending g.K.Kept.conf _ _ _ c.args.seat.now.me g.B.Announced.moment c.args.entry.now g.B.Announced.entry h.1 h.2 c.requires.entry.1,
)
