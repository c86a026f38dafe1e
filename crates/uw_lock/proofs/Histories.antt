-- Histories: how one begins another, and the entries of a number.
use Rattle.std.proofs.Common.{◌≡◌, ◌≢◌, ℕ, suc, ◌+◌, ◌-◌, ◌*◌, ◌<◌, ◌≤◌, Bool, true, false, if◌then◌else◌, eqb, List, [], ◌∷◌, ◌++◌, sym, refl, ap, ◌∙◌, subst, arith, mul-le-mul_right, suc-mul}
use Rattle.std.proofs.lemmas.Bool.{eq-eqb, ne_eqb}
use Rattle.std.proofs.lemmas.List.{append_assoc, append-nil, append_cancel_left}
use Rattle.std.proofs.Math.Nat.{mul_assoc}
use mathlib.Core.Logic.{dite}
use native.Mathlib.Decide.{dec_le, ℕ_discrete}
use Rattle.uw_lock.specs.declared.entries.Made.{Made}
use Rattle.uw_lock.specs.declared.entries.View.{View}
use Rattle.uw_lock.specs.LockRule.{StartsWith, GrewByOthers, entries_by, owns, HasJustMine}
use Rattle.uw_lock.specs.LockSteps.{divided, granted, with_entry}

module _ {E : Type 0} where
  pub starts_same : (all : List (Made E)) → StartsWith all all
  starts_same all = ([], sym (append-nil all))

  pub starts_longer : (all begin more : List (Made E)) → StartsWith all begin → StartsWith (all ++ more) begin
  starts_longer all begin more s = (s.0 ++ more, ap (λ (l : List (Made E)). l ++ more) s.1 ∙ append_assoc begin s.0 more)

  by_more : (x : Made E) (b : Bool) (all first more : List (Made E)) → all ≡ first ++ more → (if b then x ∷ all else all) ≡ (if b then x ∷ first else first) ++ more
  by_more x true all first more e = ap (λ (l : List (Made E)). x ∷ l) e
  by_more x false all first more e = e

  pub entries_by-append : (n : ℕ) (xs ys : List (Made E)) → entries_by n (xs ++ ys) ≡ entries_by n xs ++ entries_by n ys
  entries_by-append n [] ys = refl
  entries_by-append n (x ∷ xs) ys = by_more x (eqb x.by n) _ _ _ (entries_by-append n xs ys)

  pub entries_by-one : (n : ℕ) (e : Made E) → e.by ≡ n → entries_by n (e ∷ []) ≡ e ∷ []
  entries_by-one n e same = ap (λ (b : Bool). if b then e ∷ [] else []) (eq-eqb e.by n same)

  pub entries_by-none : (n : ℕ) (e : Made E) → e.by ≢ n → entries_by n (e ∷ []) ≡ []
  entries_by-none n e other = ap (λ (b : Bool). if b then e ∷ [] else []) (ne_eqb e.by n other)

  -- where the longer history has no more entries of a number than its beginning, what comes after is of others
  pub grown_by_others : (n : ℕ) (all begin mine : List (Made E)) → StartsWith all begin → entries_by n all ≡ mine → entries_by n begin ≡ mine → GrewByOthers n all begin
  grown_by_others n all begin mine s whole first = (
    s.0,
    s.1,
    append_cancel_left mine (entries_by n s.0) []
        (ap (λ (l : List (Made E)). l ++ entries_by n s.0) (sym first) ∙ (sym (entries_by-append n begin s.0) ∙ (sym (ap (entries_by n) s.1) ∙ (whole ∙ sym (append-nil mine))))),
  )

  by_head_same : (n : ℕ) (x : Made E) (xs : List (Made E)) → x.by ≡ n → entries_by n (x ∷ xs) ≡ x ∷ entries_by n xs
  by_head_same n x xs e = ap (λ (b : Bool). if b then x ∷ entries_by n xs else entries_by n xs) (eq-eqb x.by n e)

  by_head_other : (n : ℕ) (x : Made E) (xs : List (Made E)) → x.by ≢ n → entries_by n (x ∷ xs) ≡ entries_by n xs
  by_head_other n x xs e = ap (λ (b : Bool). if b then x ∷ entries_by n xs else entries_by n xs) (ne_eqb x.by n e)

  -- where no later number has an entry, all are of number 0
  entries_by-all : (h : List (Made E)) → ((k : ℕ) → entries_by (k + 1) h ≡ []) → entries_by 0 h ≡ h
  entries_by-all [] none = refl
  entries_by-all (x ∷ xs) none = dite (ℕ_discrete x.by 0)
      (λ first. by_head_same 0 x xs first ∙ ap (λ (l : List (Made E)). x ∷ l) (entries_by-all xs (λ k. sym (by_head_other (k + 1) x xs (λ e. let z = first in omega arith)) ∙ none k)))
      (λ later. let e : x.by ≡ (x.by - 1) + 1 = omega arith in let f : x ∷ entries_by ((x.by - 1) + 1) xs ≡ [] = sym (by_head_same ((x.by - 1) + 1) x xs e) ∙ none (x.by - 1) in absurd cc)

-- the numbers of two halves: each half has every second number
twice : (k s : ℕ) → k * (2 * s) ≡ (2 * k) * s
twice k s = let e : k * 2 ≡ 2 * k = omega arith in sym (mul_assoc k 2 s) ∙ ap (λ (n : ℕ). n * s) e

one_more : (k s : ℕ) → (k + 1) * s ≡ k * s + s
one_more k s = let e : k + 1 ≡ suc k = omega arith in ap (λ (n : ℕ). n * s) e ∙ suc-mul k s

module _ {E C : Type 0} where
  pub divided_owns : (v : View E C) (k : ℕ) → owns (divided v) k ≡ owns v (2 * k)
  divided_owns v k = ap (λ (n : ℕ). v.number + n) (twice k v.step)

  pub granted_owns : (v : View E C) (k : ℕ) → owns (granted v) k ≡ owns v (2 * k + 1)
  granted_owns v k = omega (arith, twice k v.step, one_more (2 * k) v.step)

  pub owns-zero : (v : View E C) → owns v 0 ≡ v.number
  owns-zero v = omega arith

  pub owns_any : (v : View E C) (n : ℕ) → v.number ≡ 0 → v.step ≡ 1 → owns v n ≡ n
  owns_any v n first whole = (λ i. first i + n * whole i) ∙ omega arith

  -- where a view owns every number, the history is its own entries
  pub all_mine : (v : View E C) (h : List (Made E)) → v.number ≡ 0 → v.step ≡ 1 → HasJustMine v h → h ≡ v.mine
  all_mine v h first whole f = sym (entries_by-all h (λ k. subst (λ (n : ℕ). entries_by n h ≡ []) (owns_any v (k + 1) first whole) (f.1 k))) ∙ (ap (λ (n : ℕ). entries_by n h) (sym first) ∙ f.0)

  -- a view's numbers differ from one another
  pub owns_differ : (v : View E C) (i j : ℕ) → 0 < v.step → i < j → owns v i ≢ owns v j
  owns_differ v i j some_step less same = let m : (i + 1) * v.step ≤ j * v.step = mul-le-mul_right v.step (omega arith) in omega (arith, one_more i v.step)

  pub halves_differ : (v : View E C) (k l : ℕ) → 0 < v.step → owns (divided v) k ≢ owns (granted v) l
  halves_differ v k l some_step same = let e : owns v (2 * k) ≡ owns v (2 * l + 1) = sym (divided_owns v k) ∙ (same ∙ granted_owns v l) in
      dite (dec_le (2 * k) (2 * l)) (λ le. owns_differ v (2 * k) (2 * l + 1) some_step (omega arith) e) (λ no. owns_differ v (2 * l + 1) (2 * k) some_step (omega arith) (sym e))

  pub divided_mine : (v : View E C) (h : List (Made E)) → HasJustMine v h → HasJustMine (divided v) h
  divided_mine v h f = (
    f.0,
    λ k. let e : 2 * (k + 1) ≡ (2 * k + 1) + 1 = omega arith in
        subst (λ (n : ℕ). entries_by n h ≡ []) (sym (divided_owns v (k + 1) ∙ ap (owns v) e)) (f.1 (2 * k + 1)),
  )

  pub granted_mine : (v : View E C) (h : List (Made E)) → HasJustMine v h → HasJustMine (granted v) h
  granted_mine v h f = (
    (let e : owns v (0 + 1) ≡ v.number + v.step = omega arith in subst (λ (n : ℕ). entries_by n h ≡ []) e (f.1 0)),
    λ k. subst (λ (n : ℕ). entries_by n h ≡ []) (sym (granted_owns v (k + 1))) (f.1 (2 * (k + 1))),
  )

  -- an entry under the view's own number
  pub noted_mine : (v : View E C) (e : Made E) (h : List (Made E)) → e.by ≡ v.number → 0 < v.step → HasJustMine v h → HasJustMine (with_entry v e) (h ++ e ∷ [])
  noted_mine v e h own some_step f = (
    entries_by-append v.number h (e ∷ []) ∙ (λ i. f.0 i ++ entries_by-one v.number e own i),
    λ k. entries_by-append (owns v (k + 1)) h (e ∷ [])
        ∙ (λ i. f.1 k i ++ entries_by-none (owns v (k + 1)) e (λ same. owns_differ v 0 (k + 1) some_step (omega arith) (owns-zero v ∙ (sym own ∙ same))) i),
  )

  -- an entry under a number that is none of the view's
  pub other_mine : (v : View E C) (e : Made E) (h : List (Made E)) → ((k : ℕ) → owns v k ≢ e.by) → HasJustMine v h → HasJustMine v (h ++ e ∷ [])
  other_mine v e h other f = (
    entries_by-append v.number h (e ∷ []) ∙ ((λ i. f.0 i ++ entries_by-none v.number e (λ same. other 0 (owns-zero v ∙ sym same)) i) ∙ append-nil v.mine),
    λ k. entries_by-append (owns v (k + 1)) h (e ∷ []) ∙ (λ i. f.1 k i ++ entries_by-none (owns v (k + 1)) e (λ same. other (k + 1) (sym same)) i),
  )
