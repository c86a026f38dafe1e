use Rattle.std.proofs.Common.{◌≡◌}
use Rattle.lock_bench.specs.Turns.{TookTurns}
use Rattle.lock_bench.proofs.take_turns.Given as goal

abbrev pub invariant-loop : goal.invariant-loop
invariant-loop g l = (l.pass.lock ≡ l.lock) × TookTurns l.initial.pass l.pass l.counter
