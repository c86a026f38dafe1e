use Rattle.std.proofs.Common.{◌≡◌, ◌≤◌, ◌++◌, length}
use Rattle.uw_packet.specs.Blocks.{texts_of_pairs}
use Rattle.uw_packet.proofs.Arrays.{array_front}
use Rattle.uw_packet.proofs.blocks.read_vars.Given as goal

abbrev pub invariant-loop-rest : goal.invariant-loop-rest
invariant-loop-rest l =
    record {
      within : length l.rest ≤ length l.block;
      front : array_front l.block ≡ (texts_of_pairs l.vars ++ (array_front l.rest).0, (array_front l.rest).1);
    }

abbrev pub decreases-loop-rest : goal.decreases-loop-rest
decreases-loop-rest l = length l.rest
