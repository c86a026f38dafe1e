use Rattle.std.proofs.Common.{◌≡◌, length, take}
use Rattle.uw_packet.specs.Blocks.{array_of}
use Rattle.uw_cachecmd.proofs.commands.array_len.Given as goal

-- the length of the array of the texts so far
abbrev pub invariant-loop-text : goal.invariant-loop-text
invariant-loop-text l = l.len ≡ length (array_of (take l.text-index l.texts))
