-- Counts of faults over two calls.
use Rattle.std.proofs.Common.{◌≡◌, ℕ, Bool, false, subst, arith}
use Rattle.std.proofs.lemmas.Bool.{false≢true}
use Rattle.uw_outside.specs.Faults.{HasCause}

-- a count that stayed
pub HasCause-none : (before now : ℕ) → now ≡ before → HasCause before now false
HasCause-none before now same = record { later = omega (arith, same); rose = λ failed. absurd (false≢true failed); kept = λ kept. same }

-- a count that stayed, and then a call
pub HasCause-then : (before middle now : ℕ) (failed : Bool) → middle ≡ before → HasCause middle now failed → HasCause before now failed
HasCause-then before middle now failed same cause = subst (λ (from : ℕ). HasCause from now failed) same cause
