use Rattle.std.proofs.Common.{Some}
use Rattle.uw_lock.proofs.turn.Turn.note.Given as goal

abbrev pub ghosts-note_as : goal.ghosts-note_as
ghosts-note_as g a = record { moment = a.moment; entry = Some a.entry.now }
