-- The word writes that a life lets through (own rule).
use Rattle.std.specs.Prelude.{◌≡◌, ℕ, ◌+◌, ◌==◌, Bool, true, false, not, List, [], ◌∷◌, Option, IfSome}
use Rattle.std.specs.Option.{option_map}

-- allowances as they were so many word writes ago: the first one counts down
abbrev pub raised : ℕ → List ℕ → List ℕ
raised writes [] = []
raised writes (first ∷ others) = (first + writes) ∷ others

-- just so many word writes were let through; a life that does not tell says nothing
abbrev pub Spends : Option (List ℕ) → Option (List ℕ) → ℕ → Type 0
Spends before now writes = before ≡ option_map (raised writes) now

-- the next word write is refused: the first number is 0
abbrev pub is_spent : List ℕ → Bool
is_spent [] = false
is_spent (first ∷ others) = first == 0

-- the next word write is refused, where the life tells
abbrev pub IsSpent : Option (List ℕ) → Type 0
IsSpent left = IfSome left (λ allowances. is_spent allowances ≡ true)

-- one word write asked for, where the life tells: an alive life refuses it exactly where its first allowance is spent; one that it lets through is counted, and a
-- refusal leaves the allowances
pub record Allows (before now : Option (List ℕ)) (alive answer : Bool) : Type 0 where
  pub refused : alive ≡ true → IfSome before (λ allowances. answer ≡ not (is_spent allowances))
  pub counted : answer ≡ true → Spends before now 1
  pub kept : answer ≡ false → now ≡ before

-- what a life that tells shows: whether it is alive, how often it has died, and its allowances
pub record LifeLeft : Type 0 where
  pub alive : Bool
  pub deaths : ℕ
  pub allowances : List ℕ
