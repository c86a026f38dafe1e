-- Lives that were asked nothing.
use Rattle.std.proofs.Common.{ℕ, List, [], ◌∷◌, Option, None, Some, refl, sym, ap, add-zero}
use Rattle.uw_outside.specs.Lives.{Spends}

-- no word write was let through where the life was not asked
pub Spends-none : (told : Option (List ℕ)) → Spends told told 0
Spends-none None = refl
Spends-none (Some []) = refl
Spends-none (Some (first ∷ others)) = ap (λ (n : ℕ). Some (n ∷ others)) (sym (add-zero first))
