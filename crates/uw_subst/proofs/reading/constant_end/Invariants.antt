use Rattle.uw_subst.proofs.PieceLemmas.{ArePlain}
use Rattle.uw_subst.proofs.reading.constant_end.Given as goal

-- so far the bytes stand for themselves
abbrev pub invariant-loop-place : goal.invariant-loop-place
invariant-loop-place l = ArePlain l.text l.at l.place
