-- Planned writes by their indexes.
use Rattle.std.proofs.Common.{◌≡◌, ◌≢◌, inl, inr, ℕ, zero, suc, ◌<◌, List, [], ◌∷◌, ◌++◌, Some, None, length, get_or, set, refl, sym, ap, ◌∙◌, subst, arith}
use Rattle.std.proofs.lemmas.Bool.{cases_eq}
use Rattle.std.proofs.lemmas.Bool.Decides.{nat_tests}
use Rattle.std.proofs.lemmas.List.{length-set, get_or-set_same, get_or-set_other}
use Rattle.std.proofs.lemmas.List.Quantifiers.{all_pairs_push}
use Rattle.uw_words.specs.Plans.{planned, with_put, HasDistinctPlaces}
use Rattle.uw_words.specs.Slots.{place}

-- a place that no write has
pub planned_none : (plan : List (ℕ × ℕ)) (at : ℕ) → ((k : ℕ) → k < length plan → place plan k ≢ at) → planned plan at ≡ None
planned_none [] at free = refl
planned_none (write ∷ plan) at free =
    let first : write.0 ≢ at = free 0 (omega arith) in
    let rest : planned plan at ≡ None = planned_none plan at (λ k h. free (suc k) (omega arith)) in
    grind (arith, nat_tests)

pub with_put_new : (plan : List (ℕ × ℕ)) (at word : ℕ) → ((k : ℕ) → k < length plan → place plan k ≢ at) → with_put plan at word ≡ plan ++ (at, word) ∷ []
with_put_new [] at word free = refl
with_put_new (write ∷ plan) at word free =
    let first : write.0 ≢ at = free 0 (omega arith) in
    let rest : with_put plan at word ≡ plan ++ (at, word) ∷ [] = with_put_new plan at word (λ k h. free (suc k) (omega arith)) in
    grind (arith, nat_tests)

distinct_rest : (write : ℕ × ℕ) (plan : List (ℕ × ℕ)) → HasDistinctPlaces (write ∷ plan) → HasDistinctPlaces plan
distinct_rest write plan distinct = λ i j d early within. distinct (suc i) (suc j) d (omega arith) (omega arith)

-- a place that a write has
pub planned_at : (plan : List (ℕ × ℕ)) (at k : ℕ) → HasDistinctPlaces plan → k < length plan → place plan k ≡ at → planned plan at ≡ Some (get_or plan k (0, 0)).1
planned_at [] at k distinct within is = absurd (omega arith)
planned_at (write ∷ plan) at zero distinct within is = grind (arith, nat_tests)
planned_at (write ∷ plan) at (suc k) distinct within is =
    let first : write.0 ≢ at = λ same. distinct 0 (suc k) (0, 0) (omega arith) within (same ∙ sym is) in
    let rest : planned plan at ≡ Some (get_or plan k (0, 0)).1 = planned_at plan at k (distinct_rest write plan distinct) (omega arith) is in
    grind (arith, nat_tests)

pub with_put_at : (plan : List (ℕ × ℕ)) (at word k : ℕ) → HasDistinctPlaces plan → k < length plan → place plan k ≡ at → with_put plan at word ≡ set plan k (at, word)
with_put_at [] at word k distinct within is = absurd (omega arith)
with_put_at (write ∷ plan) at word zero distinct within is = grind (arith, nat_tests)
with_put_at (write ∷ plan) at word (suc k) distinct within is =
    let first : write.0 ≢ at = λ same. distinct 0 (suc k) (0, 0) (omega arith) within (same ∙ sym is) in
    let rest : with_put plan at word ≡ set plan k (at, word) = with_put_at plan at word k (distinct_rest write plan distinct) (omega arith) is in
    grind (arith, nat_tests)

pub distinct_push : (plan : List (ℕ × ℕ)) (at word : ℕ) → HasDistinctPlaces plan → ((k : ℕ) → k < length plan → place plan k ≢ at) → HasDistinctPlaces (plan ++ (at, word) ∷ [])
distinct_push plan at word distinct free =
    all_pairs_push (λ early late. early.0 ≢ late.0) plan (at, word) distinct (λ k d h. subst (λ (p : ℕ × ℕ). p.0 ≢ at) (default plan k d h) (free k h))
  where
    default : (plan : List (ℕ × ℕ)) (k : ℕ) (d : ℕ × ℕ) → k < length plan → get_or plan k (0, 0) ≡ get_or plan k d
    default [] k d h = absurd (omega arith)
    default (write ∷ plan) zero d h = refl
    default (write ∷ plan) (suc k) d h = default plan k d (omega arith)

pub distinct_set : (plan : List (ℕ × ℕ)) (at word k : ℕ) → HasDistinctPlaces plan → k < length plan → place plan k ≡ at → HasDistinctPlaces (set plan k (at, word))
distinct_set plan at word k distinct within is = λ i j d early h.
    let short : j < length plan = omega (arith, length-set plan k (at, word)) in
    λ same. distinct i j (at, word) early short (sym (same_place i (omega arith)) ∙ default_place i d (omega arith) ∙ same ∙ sym (default_place j d short) ∙ same_place j short)
  where
    default : (plan : List (ℕ × ℕ)) (k : ℕ) (d e : ℕ × ℕ) → k < length plan → get_or plan k d ≡ get_or plan k e
    default [] k d e h = absurd (omega arith)
    default (write ∷ plan) zero d e h = refl
    default (write ∷ plan) (suc k) d e h = default plan k d e (omega arith)

    default_place : (i : ℕ) (d : ℕ × ℕ) → i < length plan → (get_or (set plan k (at, word)) i (at, word)).0 ≡ (get_or (set plan k (at, word)) i d).0
    default_place i d h = ap (λ (p : ℕ × ℕ). p.0) (default (set plan k (at, word)) i (at, word) d (omega (arith, length-set plan k (at, word))))

    same_place : (i : ℕ) → i < length plan → (get_or (set plan k (at, word)) i (at, word)).0 ≡ (get_or plan i (at, word)).0
    same_place i h = elim (cases_eq i k) [
      | inl same ↦
          ap (λ (p : ℕ × ℕ). p.0) (ap (λ (n : ℕ). get_or (set plan k (at, word)) n (at, word)) same ∙ get_or-set_same plan k (at, word) (at, word) within)
          ∙ sym is ∙ ap (λ (p : ℕ × ℕ). p.0) (default plan k (0, 0) (at, word) within) ∙ ap (λ (n : ℕ). (get_or plan n (at, word)).0) (sym same)
      | inr other ↦ ap (λ (p : ℕ × ℕ). p.0) (get_or-set_other plan k i (at, word) (at, word) other)
    ]
