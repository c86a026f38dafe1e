-- A desk stays settled where no death was counted.
use Rattle.std.proofs.Common.{◌≡◌, ℕ, ◌≤◌, Bool, true, false, refl, arith}
use Rattle.uw_outside.specs.Faults.{HasCause, Rose}

-- a count that did not rise in all did not rise at first
pub not_before : (old now new : ℕ) → now ≤ new → (Rose old new → ⊥) → Rose old now → ⊥
not_before old now new more none rose = none (omega (arith, more, rose))

-- nor since then
pub not_since : (old now new : ℕ) → old ≤ now → (Rose old new → ⊥) → Rose now new → ⊥
not_since old now new more none rose = none (omega (arith, more, rose))

-- a call in which no death was counted ended without one
pub not_dead : (before now : ℕ) (died : Bool) → HasCause before now died → (Rose before now → ⊥) → died ≡ false
not_dead before now true cause none = absurd (none (cause.rose refl))
not_dead before now false cause none = refl
