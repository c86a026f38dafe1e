use Rattle.std.proofs.Common.{◌≡◌, ◌+◌, ◌<◌, length, drop}
use Rattle.uw_packet.specs.Blocks.{array_of, texts_of_pairs}
use Rattle.uw_chain.proofs.spooling.has_block.Given as goal

-- the bytes so far and those of the other pairs are those of the whole block
abbrev pub invariant-loop-place : goal.invariant-loop-place
invariant-loop-place l = record {
  short : l.length < 65536;
  whole : l.length + length (array_of (texts_of_pairs (drop l.place l.vars))) ≡ length (array_of (texts_of_pairs l.vars));
}
