use Rattle.uw_area.proofs.Splices.{Splicing}
use Rattle.uw_area.proofs.bytes.put_bytes.Given as goal

abbrev pub invariant-loop-n : goal.invariant-loop-n
invariant-loop-n l = Splicing l.fn.ram l.fn.over l.over l.fn.at l.fn.put l.n
