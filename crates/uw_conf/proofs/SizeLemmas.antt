-- Each cache of a list, and the bytes of all regions.
use Rattle.std.proofs.Common.{ℕ, suc, zero, ◌<◌, List, [], ◌∷◌, ◌++◌, length, get_or, arith}
use Rattle.std.specs.List.{AllByRecursion}

-- what holds of each holds at a place
pub AllByRecursion-at : {X : Type 0} (P : X → Type 0) (xs : List X) (i : ℕ) (d : X) → AllByRecursion P xs → i < length xs → P (get_or xs i d)
AllByRecursion-at P [] i d all within = absurd (omega arith)
AllByRecursion-at P (x ∷ xs) zero d all within = all.0
AllByRecursion-at P (x ∷ xs) (suc i) d all within = AllByRecursion-at P xs i d all.1 (omega arith)

pub AllByRecursion-push : {X : Type 0} (P : X → Type 0) (xs : List X) (y : X) → AllByRecursion P xs → P y → AllByRecursion P (xs ++ y ∷ [])
AllByRecursion-push P [] y all here = (here, tt)
AllByRecursion-push P (x ∷ xs) y all here = (all.0, AllByRecursion-push P xs y all.1 here)
