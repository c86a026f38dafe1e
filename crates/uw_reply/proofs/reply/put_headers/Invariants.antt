use Rattle.std.proofs.Common.{◌≡◌, ◌++◌, take}
use Rattle.std.specs.List.{flat_map}
use Rattle.uw_reply.specs.ReplyBytes.{ended_line}
use Rattle.uw_reply.proofs.reply.put_headers.Given as goal

-- the lines so far
abbrev pub invariant-loop-header : goal.invariant-loop-header
invariant-loop-header l = l.out ≡ l.fn.out ++ flat_map ended_line (take l.header-index l.headers)
