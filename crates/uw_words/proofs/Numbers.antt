-- Lists of numbers, and what is among them.
use Rattle.std.proofs.Common.{◌≡◌, ◌≢◌, ⊎_elim, inl, inr, ℕ, zero, suc, ◌<◌, ◌≤◌, true, false, eqb, List, [], ◌∷◌, length, get_or, refl, sym, subst, arith}
use Rattle.std.specs.List.{IsDistinct, AllByRecursion, list_any}
use Rattle.std.proofs.lemmas.Bool.{cases_eq, or_cases}
use Rattle.std.proofs.lemmas.Bool.Decides.{nat_tests}
use Rattle.std.proofs.lemmas.Map.Steps.{length-le_from_distinct_below}
use Rattle.uw_words.specs.Numbers.{IsOneOf, IsNoneOf, AreDistinct, without_number}

pub not_none : (numbers : List ℕ) (number : ℕ) → IsOneOf numbers number → IsNoneOf numbers number → ⊥
not_none [] number one none = one
not_none (first ∷ numbers) number (inl here) none = none.0 here
not_none (first ∷ numbers) number (inr later) none = not_none numbers number later none.1

pub one_apart : (numbers : List ℕ) (one other : ℕ) → IsOneOf numbers one → IsNoneOf numbers other → one ≢ other
one_apart numbers one other among none = λ same. not_none numbers one among (subst (IsNoneOf numbers) (sym same) none)

-- an element of a list is one of it
pub one_at : (numbers : List ℕ) (k : ℕ) → k < length numbers → IsOneOf numbers (get_or numbers k 0)
one_at [] k short = absurd (omega arith)
one_at (first ∷ numbers) zero short = inl refl
one_at (first ∷ numbers) (suc k) short = inr (one_at numbers k (omega arith))

pub none_without : (numbers : List ℕ) (number other : ℕ) → IsNoneOf numbers other → IsNoneOf (without_number numbers number) other
none_without [] number other none = tt
none_without (first ∷ numbers) number other none = elim (cases_eq first number) [
  | inl same ↦ (let e : without_number (first ∷ numbers) number ≡ numbers = grind (arith, nat_tests) in subst (λ (l : List ℕ). IsNoneOf l other) (sym e) none.1)
  | inr apart ↦ (let e : without_number (first ∷ numbers) number ≡ first ∷ without_number numbers number = grind (arith, nat_tests) in
      subst (λ (l : List ℕ). IsNoneOf l other) (sym e) (none.0, none_without numbers number other none.1))
]

pub distinct_without : (numbers : List ℕ) (number : ℕ) → AreDistinct numbers → AreDistinct (without_number numbers number)
distinct_without [] number distinct = tt
distinct_without (first ∷ numbers) number distinct = elim (cases_eq first number) [
  | inl same ↦ (let e : without_number (first ∷ numbers) number ≡ numbers = grind (arith, nat_tests) in subst AreDistinct (sym e) distinct.1)
  | inr apart ↦ (let e : without_number (first ∷ numbers) number ≡ first ∷ without_number numbers number = grind (arith, nat_tests) in
      subst AreDistinct (sym e) (none_without numbers number first distinct.0, distinct_without numbers number distinct.1))
]

-- a number is none of the distinct ones without it
pub gone : (numbers : List ℕ) (number : ℕ) → AreDistinct numbers → IsNoneOf (without_number numbers number) number
gone [] number distinct = tt
gone (first ∷ numbers) number distinct = elim (cases_eq first number) [
  | inl same ↦ (let e : without_number (first ∷ numbers) number ≡ numbers = grind (arith, nat_tests) in
      subst (λ (l : List ℕ). IsNoneOf l number) (sym e) (subst (IsNoneOf numbers) same distinct.0))
  | inr apart ↦ (let e : without_number (first ∷ numbers) number ≡ first ∷ without_number numbers number = grind (arith, nat_tests) in
      subst (λ (l : List ℕ). IsNoneOf l number) (sym e) (apart, gone numbers number distinct.1))
]

-- distinct numbers below a bound are no more than the bound
apart_by_test : (numbers : List ℕ) (number : ℕ) → IsNoneOf numbers number → AllByRecursion (λ other. eqb number other ≡ false) numbers
apart_by_test [] number none = tt
apart_by_test (first ∷ numbers) number none =
    let apart : number ≢ first = λ same. none.0 (sym same) in
    (grind (arith, nat_tests), apart_by_test numbers number none.1)

distinct_by_test : (numbers : List ℕ) → AreDistinct numbers → IsDistinct eqb numbers
unfolding IsDistinct
distinct_by_test [] distinct = tt
distinct_by_test (first ∷ numbers) distinct = (apart_by_test numbers first distinct.0, distinct_by_test numbers distinct.1)

one_by_test : (numbers : List ℕ) (number : ℕ) → list_any (eqb number) numbers ≡ true → IsOneOf numbers number
one_by_test [] number any = absurd (let none : ⊥ = cc in none)
one_by_test (first ∷ numbers) number any = elim (or_cases (eqb number first) (list_any (eqb number) numbers) any) [
  | inl here ↦ inl (let same : number ≡ first = grind (arith, nat_tests) in sym same)
  | inr later ↦ inr (one_by_test numbers number later)
]

pub distinct_length : (numbers : List ℕ) (bound : ℕ) → AreDistinct numbers → ((number : ℕ) → IsOneOf numbers number → number < bound) → length numbers ≤ bound
distinct_length numbers bound distinct below =
    length-le_from_distinct_below numbers bound (distinct_by_test numbers distinct) (λ number any. below number (one_by_test numbers number any))

pub one_of_without : (numbers : List ℕ) (number other : ℕ) → IsOneOf (without_number numbers number) other → IsOneOf numbers other
one_of_without [] number other one = one
one_of_without (first ∷ numbers) number other one = elim (cases_eq first number) [
  | inl same ↦ (let e : without_number (first ∷ numbers) number ≡ numbers = grind (arith, nat_tests) in inr (subst (λ (l : List ℕ). IsOneOf l other) e one))
  | inr apart ↦ (let e : without_number (first ∷ numbers) number ≡ first ∷ without_number numbers number = grind (arith, nat_tests) in
      ⊎_elim (λ here. inl here) (λ later. inr (one_of_without numbers number other later)) (subst (λ (l : List ℕ). IsOneOf l other) e one))
]
