use Rattle.std.proofs.Common.{◌≡◌, ◌++◌, take}
use Rattle.uw_reply.specs.ReplyBytes.{without_breaks}
use Rattle.uw_reply.proofs.reply.put_clean.Given as goal

-- the text so far, without these bytes
abbrev pub invariant-loop-byte : goal.invariant-loop-byte
invariant-loop-byte l = l.out ≡ l.fn.out ++ without_breaks (take l.byte-index l.text)
