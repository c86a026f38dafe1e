-- Two lists place by place, and one place of them.
use Rattle.std.proofs.Common.{◌≡◌, ℕ, zero, suc, ◌&&◌, Bool, true, false, List, [], ◌∷◌, Some, refl, sym, set, subst}
use Rattle.std.proofs.lemmas.Option.{none-some, same_Some}
use Rattle.std.specs.List.{AllByRecursion, AllZip, list_all, slice_get}

-- ---- a relation of two lists

module _ {A B : Type 0} (R : A → B → Type 0) where
  -- what stands beside an element
  pub zip_at : (xs : List A) (ys : List B) (i : ℕ) (x : A) → AllZip R xs ys → slice_get xs i ≡ Some x → (y : B) × (slice_get ys i ≡ Some y) × R x y
  zip_at [] ys i x all here = absurd (none-some x here)
  zip_at (a ∷ xs) [] i x all here = absurd all
  zip_at (a ∷ xs) (b ∷ ys) zero x all here = (b, refl, subst (λ (v : A). R v b) (same_Some a x here) all.0)
  zip_at (a ∷ xs) (b ∷ ys) (suc i) x all here = zip_at xs ys i x all.1 here

  -- one element of each is replaced
  pub zip_set : (xs : List A) (ys : List B) (i : ℕ) (x : A) (y : B) → AllZip R xs ys → R x y → AllZip R (set xs i x) (set ys i y)
  zip_set [] [] i x y all here = all
  zip_set [] (b ∷ ys) i x y all here = absurd all
  zip_set (a ∷ xs) [] i x y all here = absurd all
  zip_set (a ∷ xs) (b ∷ ys) zero x y all here = (here, all.1)
  zip_set (a ∷ xs) (b ∷ ys) (suc i) x y all here = (all.0, zip_set xs ys i x y all.1 here)

  -- one element of the first is replaced by another that fits what stands beside it
  pub zip_set_left : (xs : List A) (ys : List B) (i : ℕ) (x : A) (y : B) → AllZip R xs ys → slice_get ys i ≡ Some y → R x y → AllZip R (set xs i x) ys
  zip_set_left [] ys i x y all there here = all
  zip_set_left (a ∷ xs) [] i x y all there here = absurd all
  zip_set_left (a ∷ xs) (b ∷ ys) zero x y all there here = (subst (R x) (sym (same_Some b y there)) here, all.1)
  zip_set_left (a ∷ xs) (b ∷ ys) (suc i) x y all there here = (all.0, zip_set_left xs ys i x y all.1 there here)

-- ---- a fact of each element

module _ {A : Type 0} (P : A → Type 0) where
  pub each_at : (xs : List A) (i : ℕ) (x : A) → AllByRecursion P xs → slice_get xs i ≡ Some x → P x
  each_at [] i x all here = absurd (none-some x here)
  each_at (a ∷ xs) zero x all here = subst P (same_Some a x here) all.0
  each_at (a ∷ xs) (suc i) x all here = each_at xs i x all.1 here

  pub each_set : (xs : List A) (i : ℕ) (x : A) → AllByRecursion P xs → P x → AllByRecursion P (set xs i x)
  each_set [] i x all here = all
  each_set (a ∷ xs) zero x all here = (here, all.1)
  each_set (a ∷ xs) (suc i) x all here = (all.0, each_set xs i x all.1 here)

-- ---- a test of each element

pub both_true : (a b : Bool) → (a && b) ≡ true → (a ≡ true) × (b ≡ true)
both_true true b all = (refl, all)
both_true false b all = absurd (let none : false ≡ true = all in let absurdly : ⊥ = cc in absurdly)

pub join_true : (a b : Bool) → a ≡ true → b ≡ true → (a && b) ≡ true
join_true true b first second = second
join_true false b first second = first

module _ {A : Type 0} (test : A → Bool) where
  pub passing_set : (xs : List A) (i : ℕ) (x : A) → list_all test xs ≡ true → test x ≡ true → list_all test (set xs i x) ≡ true
  passing_set [] i x all here = all
  passing_set (a ∷ xs) zero x all here = join_true (test x) (list_all test xs) here (both_true (test a) (list_all test xs) all).1
  passing_set (a ∷ xs) (suc i) x all here =
      let parts = both_true (test a) (list_all test xs) all in
      join_true (test a) (list_all test (set xs i x)) parts.0 (passing_set xs i x parts.1 here)
