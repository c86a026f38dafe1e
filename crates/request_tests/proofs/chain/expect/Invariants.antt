use Rattle.std.proofs.Common.{◌≡◌, length}
use Rattle.request_tests.proofs.chain.expect.Given as goal

abbrev pub invariant-loop-number : goal.invariant-loop-number
invariant-loop-number g l = (length l.desk.caches ≡ length l.conf.caches) × (length l.desk.areas ≡ length l.conf.areas)
