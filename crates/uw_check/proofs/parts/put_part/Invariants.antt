use Rattle.std.proofs.Common.{◌≡◌, ◌++◌, drop}
use Rattle.uw_check.specs.Reports.{shown_part}
use Rattle.uw_check.proofs.parts.put_part.Given as goal

-- what is put so far, and what is shown of the rest
abbrev pub invariant-loop-byte : goal.invariant-loop-byte
invariant-loop-byte l = l.out ++ shown_part l.ahead (drop l.byte-index l.text) ≡ l.fn.out ++ shown_part 60 l.text
