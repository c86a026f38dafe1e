use Rattle.std.proofs.Common.{◌≡◌, ◌+◌, ◌≤◌, ◌++◌, drop, length}
use Rattle.uw_check.specs.Checking.{without_line}
use Rattle.uw_check.proofs.checking.without_line.Given as goal

-- what is left so far, and what the rest of the text leaves
abbrev pub invariant-loop-byte : goal.invariant-loop-byte
invariant-loop-byte l = record {
  left : l.left ++ without_line l.ahead (drop l.byte-index l.text) ≡ without_line l.fn.number l.text;
  shorter : length l.left ≤ l.byte-index;
}
