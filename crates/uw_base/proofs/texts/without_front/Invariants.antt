use Rattle.std.proofs.Common.{◌≡◌, drop}
use Rattle.uw_base.specs.Texts.{without_blanks}
use Rattle.uw_base.proofs.texts.without_front.Given as goal

-- so far there were only blanks
abbrev pub invariant-loop-place : goal.invariant-loop-place
invariant-loop-place l = without_blanks (drop l.place l.text) ≡ without_blanks l.text
