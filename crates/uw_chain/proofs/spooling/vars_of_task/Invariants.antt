use Rattle.std.proofs.Common.{◌≡◌, ◌++◌, drop}
use Rattle.uw_chain.specs.Spooling.{task_vars}
use Rattle.uw_chain.proofs.spooling.vars_of_task.Given as goal

-- the variables so far and those among the other pairs are all of them
abbrev pub invariant-loop-place : goal.invariant-loop-place
invariant-loop-place l = l.vars ++ task_vars (drop l.place l.pairs) ≡ task_vars l.pairs
