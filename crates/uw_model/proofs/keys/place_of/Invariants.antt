use Rattle.std.proofs.Common.{◌≡◌, true, take}
use Rattle.uw_model.specs.KeySteps.{lacks}
use Rattle.uw_model.proofs.keys.place_of.Given as goal

abbrev pub invariant-loop-place : goal.invariant-loop-place
invariant-loop-place l = lacks l.key (take l.place l.entries) ≡ true
