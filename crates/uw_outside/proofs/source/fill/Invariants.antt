use Rattle.std.proofs.Common.{length, ◌-◌, ◌≤◌, ◌≡◌, take}
use Rattle.uw_outside.specs.Streams.{Takes}
use Rattle.uw_outside.proofs.source.fill.Given as goal

abbrev pub invariant-loop-count : goal.invariant-loop-count
invariant-loop-count g l =
    record {
      within : l.count ≤ length l.buf;
      taken : Takes (g.S.Source.left l.initial.src) (g.S.Source.left l.src) (take l.count l.buf);
      kept : g.S.Source.faults l.initial.src ≡ g.S.Source.faults l.src;
    }

abbrev pub decreases-loop-count : goal.decreases-loop-count
decreases-loop-count g l = length l.initial.buf - l.count
