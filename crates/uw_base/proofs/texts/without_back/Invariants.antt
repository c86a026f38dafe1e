use Rattle.std.proofs.Common.{◌≡◌, take, reverse}
use Rattle.uw_base.specs.Texts.{without_blanks}
use Rattle.uw_base.proofs.texts.without_back.Given as goal

-- so far there were only blanks
abbrev pub invariant-loop-place : goal.invariant-loop-place
invariant-loop-place l = reverse (without_blanks (reverse (take l.place l.text))) ≡ reverse (without_blanks (reverse l.text))
