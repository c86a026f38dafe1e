use Rattle.std.proofs.Common.{◌≡◌, ◌<◌, ◌++◌, length, drop}
use Rattle.uw_packet.specs.Blocks.{array_of, texts_of_pairs}
use Rattle.uw_packet.proofs.blocks.write_vars.Given as goal

-- the bytes so far and those of the other pairs are the whole array
abbrev pub invariant-loop-place : goal.invariant-loop-place
invariant-loop-place l =
    record {
      short : length l.block < 65536;
      whole : l.block ++ array_of (texts_of_pairs (drop l.place l.vars)) ≡ array_of (texts_of_pairs l.vars);
    }
