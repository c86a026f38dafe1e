use Rattle.std.proofs.Common.{◌≡◌, ◌++◌, take, codes}
use Rattle.uw_packet.specs.Blocks.{array_of}
use Rattle.uw_cachecmd.proofs.reply.keys_text.Given as goal

-- the keys so far
abbrev pub invariant-loop-key : goal.invariant-loop-key
invariant-loop-key l = l.reply ≡ codes "keys\n" ++ array_of (take l.key-index l.keys)
