use Rattle.std.proofs.Common.{length, ◌-◌, ◌≤◌, ◌≡◌, take}
use Rattle.uw_outside.specs.Streams.{Gives}
use Rattle.uw_outside.proofs.sink.put_all.Given as goal

abbrev pub invariant-loop-count : goal.invariant-loop-count
invariant-loop-count g l =
    record {
      within : l.count ≤ length l.piece;
      given : Gives (g.K.Sink.taken l.initial.snk) (g.K.Sink.taken l.snk) (take l.count l.piece);
      kept : g.K.Sink.faults l.initial.snk ≡ g.K.Sink.faults l.snk;
    }

abbrev pub decreases-loop-count : goal.decreases-loop-count
decreases-loop-count g l = length l.piece - l.count
