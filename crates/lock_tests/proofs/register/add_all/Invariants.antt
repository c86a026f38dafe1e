use Rattle.std.proofs.Common.{◌≡◌}
use Rattle.lock_tests.proofs.register.add_all.Given as goal

abbrev pub invariant-loop-k : goal.invariant-loop-k
invariant-loop-k g l = l.pass.lock ≡ l.lock
