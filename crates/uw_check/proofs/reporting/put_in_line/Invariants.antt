use Rattle.std.proofs.Common.{◌≡◌, ◌==◌, not, ◌++◌, filter, take}
use Rattle.uw_check.proofs.reporting.put_in_line.Given as goal

-- the text so far, without line feeds
abbrev pub invariant-loop-byte : goal.invariant-loop-byte
invariant-loop-byte l = l.out ≡ l.fn.out ++ filter (λ byte. not (byte == 10)) (take l.byte-index l.text)
