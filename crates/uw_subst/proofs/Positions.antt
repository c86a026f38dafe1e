-- The first place at which a test passes.
use Rattle.std.proofs.Common.{◌≡◌, ℕ, suc, ◌+◌, ◌<◌, Bool, true, false, ◌||◌, not, cond, List, [], ◌∷◌, length, refl, sym, ◌∙◌, arith, Option, Some, None, is_some, nat_lt}
use Rattle.std.proofs.lemmas.Bool.Decides.{nat_tests}
use Rattle.std.proofs.lemmas.Option.{cond_some}
use Rattle.std.specs.List.{list_any, position, position_or_len, prefix_len}

zero_lt : (n : ℕ) → true ≡ nat_lt 0 (suc n)
zero_lt n = grind (arith, nat_tests)

lt_step : (k n : ℕ) → nat_lt k n ≡ nat_lt (1 + k) (suc n)
lt_step k n = grind (arith, nat_tests)

list_any-position : {X : Type 0} (p : X → Bool) (xs : List X) → list_any p xs ≡ nat_lt (position_or_len p xs) (length xs)
list_any-position p [] = refl
list_any-position p (x ∷ xs) =
    elim (p x) as (λ b. (b || list_any p xs) ≡ nat_lt (cond (not b) (1 + prefix_len (λ y. not (p y)) xs) 0) (suc (length xs)))
    [ true ↦ zero_lt (length xs) | false ↦ list_any-position p xs ∙ lt_step _ _ ]

cond_none : {X : Type 0} (b : Bool) (x : X) → None ≡ cond b (Some x) None → b ≡ false
cond_none true x h = cc
cond_none false x h = refl

before_lt : (a b : ℕ) → nat_lt a b ≡ true → a < b
before_lt a b h = grind (arith, nat_tests)

-- the first place at which a test passes
pub record IsFirst {X : Type 0} (p : X → Bool) (xs : List X) (i : ℕ) : Type 0 where
  pub some : list_any p xs ≡ true
  pub place : position_or_len p xs ≡ i
  pub within : i < length xs

pub first_found : {X : Type 0} (p : X → Bool) (xs : List X) (i : ℕ) → Some i ≡ position p xs → IsFirst p xs i
first_found p xs i h =
    let there = cond_some (nat_lt (position_or_len p xs) (length xs)) (position_or_len p xs) i (sym h) in
    let below : position_or_len p xs < length xs = before_lt _ _ there.0 in
    let same : position_or_len p xs ≡ i = there.1 in
    record { some = list_any-position p xs ∙ there.0; place = same; within = omega arith }

pub none_found : {X : Type 0} (p : X → Bool) (xs : List X) → None ≡ position p xs → list_any p xs ≡ false
none_found p xs h = list_any-position p xs ∙ cond_none (nat_lt (position_or_len p xs) (length xs)) (position_or_len p xs) h

pub list_any_place : {X : Type 0} (p : X → Bool) (xs : List X) → list_any p xs ≡ true → position_or_len p xs < length xs
list_any_place p xs h = before_lt _ _ (sym (list_any-position p xs) ∙ h)

-- the same by whether a place was found
pub found_of_some : {X : Type 0} (p : X → Bool) (xs : List X) (o : Option ℕ) → o ≡ position p xs → true ≡ is_some o → list_any p xs ≡ true
found_of_some p xs None same some = absurd (cc)
found_of_some p xs (Some i) same some = (first_found p xs i same).some

pub lacks_of_none : {X : Type 0} (p : X → Bool) (xs : List X) (o : Option ℕ) → o ≡ position p xs → false ≡ is_some o → list_any p xs ≡ false
lacks_of_none p xs None same none = none_found p xs same
lacks_of_none p xs (Some i) same none = absurd (cc)
