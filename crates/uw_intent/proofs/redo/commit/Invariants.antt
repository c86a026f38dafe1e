use Rattle.std.proofs.Common.{◌≡◌, ◌+◌, ◌-◌, ◌≤◌, true, length}
use Rattle.uw_intent.specs.RedoRecord.{commit_writes}
use Rattle.uw_intent.proofs.Progress.{SoFar}
use Rattle.uw_intent.proofs.redo.commit.Given as goal

abbrev pub invariant-loop-write : goal.invariant-loop-write
invariant-loop-write g l = record {
  first : 1 ≤ l.n;
  so_far : SoFar (commit_writes l.frame l.plan.writes) l.fn.ram l.ram (g.L.Life.allowances l.fn.life) (g.L.Life.allowances l.life) (l.n - 1);
  alive : g.L.Life.alive l.life ≡ true;
  deaths : g.L.Life.deaths l.life ≡ g.L.Life.deaths l.fn.life;
}

abbrev pub decreases-loop-write : goal.decreases-loop-write
decreases-loop-write g l = length (commit_writes l.frame l.plan.writes) + 1 - l.n
