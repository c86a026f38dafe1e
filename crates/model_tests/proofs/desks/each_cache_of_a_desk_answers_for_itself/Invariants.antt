use Rattle.std.proofs.Common.{◌≡◌, length}
use Rattle.model_tests.proofs.desks.each_cache_of_a_desk_answers_for_itself.Given as goal

abbrev pub invariant-loop-number : goal.invariant-loop-number
invariant-loop-number g l = length l.desk.caches ≡ 2
