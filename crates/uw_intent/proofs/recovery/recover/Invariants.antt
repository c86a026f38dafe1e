use Rattle.std.proofs.Common.{◌≡◌, ◌-◌, true}
use Rattle.uw_intent.proofs.Repairs.{Walked}
use Rattle.uw_intent.proofs.recovery.recover.Given as goal

abbrev pub invariant-loop-write : goal.invariant-loop-write
invariant-loop-write g l = record {
  walked : Walked l.frame l.fn.ram l.ram (g.L.Life.allowances l.fn.life) (g.L.Life.allowances l.life) l.cursor;
  alive : g.L.Life.alive l.life ≡ true;
  deaths : g.L.Life.deaths l.life ≡ g.L.Life.deaths l.fn.life;
}

abbrev pub decreases-loop-write : goal.decreases-loop-write
decreases-loop-write g l = l.cursor.end - l.cursor.next
