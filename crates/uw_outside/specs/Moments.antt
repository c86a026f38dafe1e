-- The moments that a clock gives.
use Rattle.std.specs.Prelude.{◌≡◌, refl, ℕ, List, [], ◌∷◌, ◌++◌, All}
use Rattle.std.proofs.Common.{subst}
use Rattle.std.proofs.lemmas.List.Elements.{All-nil, All-append}

-- a list of moments, of which the last repeats, gave these and has those left
abbrev pub GivesInOrder : List ℕ → List ℕ → List ℕ → Type 0
GivesInOrder plan [] rest = rest ≡ plan
GivesInOrder [] (moment ∷ moments) rest = ⊥
GivesInOrder (m ∷ []) (moment ∷ moments) rest = (moment ≡ m) × GivesInOrder (m ∷ []) moments rest
GivesInOrder (m ∷ n ∷ plan) (moment ∷ moments) rest = (moment ≡ m) × GivesInOrder (n ∷ plan) moments rest

-- what it gave first, and then what it gave after that
pub GivesInOrder-append : (plan between rest early late : List ℕ) → GivesInOrder plan early between → GivesInOrder between late rest → GivesInOrder plan (early ++ late) rest
GivesInOrder-append plan between rest [] late first then =
    let Gives : List ℕ → Type 0 = λ from. GivesInOrder from late rest in subst Gives first then
GivesInOrder-append [] between rest (moment ∷ moments) late first then = absurd first
GivesInOrder-append (m ∷ []) between rest (moment ∷ moments) late first then =
    (first.0, GivesInOrder-append (m ∷ []) between rest moments late first.1 then)
GivesInOrder-append (m ∷ n ∷ plan) between rest (moment ∷ moments) late first then =
    (first.0, GivesInOrder-append (n ∷ plan) between rest moments late first.1 then)

-- a clock of one moment gave these, and has that moment still
abbrev pub GivesAlways : ℕ → ℕ → List ℕ → Type 0
GivesAlways before now moments = (now ≡ before) × All (λ moment. moment ≡ before) moments

-- it gave none where it was not asked
pub GivesAlways-none : (clock : ℕ) → GivesAlways clock clock []
GivesAlways-none clock = (refl, All-nil (λ moment. moment ≡ clock))

-- what it gave first, and then what it gave after that
pub GivesAlways-append : (a b c : ℕ) (early late : List ℕ) → GivesAlways a b early → GivesAlways b c late
    → GivesAlways a c (early ++ late)
GivesAlways-append a b c early late first then =
    let later = subst (λ (from : ℕ). GivesAlways from c late) first.0 then in
    (later.0, All-append (λ moment. moment ≡ a) early late first.1 later.1)
