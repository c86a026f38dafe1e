use Rattle.std.proofs.Common.{rules}
use Rattle.uw_lock.proofs.Views.{noted_holds}
use Rattle.uw_lock.proofs.turn.Turn.note.Goals as goal

pub invariant_of-self : goal.invariant_of-self
invariant_of-self g c = (search rules, noted_holds _ _ _ _ c.self.invariant.1 c.note_as.ensures.noted)

pub returns-clause-own : goal.returns-clause-own
returns-clause-own g c = let h = noted_holds _ _ _ _ c.self.invariant.1 c.note_as.ensures.noted in h.4.0
