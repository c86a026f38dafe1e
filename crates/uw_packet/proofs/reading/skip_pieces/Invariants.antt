use Rattle.std.proofs.Common.{◌-◌, ◌≡◌, ◌≤◌, List, ℕ, length}
use Rattle.uw_outside.specs.Streams.{Takes}
use Rattle.uw_packet.proofs.reading.skip_pieces.Given as goal

abbrev pub invariant-loop-skipped : goal.invariant-loop-skipped
invariant-loop-skipped g l =
    record {
      within : l.skipped ≤ l.len;
      room : length l.piece ≡ 4096;
      taken : (bytes : List ℕ) × (length bytes ≡ l.skipped) × Takes (g.S.Source.left l.initial.src) (g.S.Source.left l.src) bytes;
      kept : g.S.Source.faults l.src ≡ g.S.Source.faults l.initial.src;
    }

abbrev pub decreases-loop-skipped : goal.decreases-loop-skipped
decreases-loop-skipped g l = l.len - l.skipped
