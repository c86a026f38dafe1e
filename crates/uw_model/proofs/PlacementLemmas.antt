-- The least place at which a test holds.
use Rattle.std.proofs.Common.{◌≡◌, ℕ, zero, suc, ◌+◌, ◌-◌, ◌<◌, ◌≤◌, Bool, true, false, List, take, None, Some, refl, sym, ap, ◌∙◌, inl, inr, arith}
use Rattle.std.proofs.lemmas.Bool.{cases_eq, cases_Bool}
use Rattle.std.proofs.lemmas.Option.{none-some, same_Some}
use Rattle.uw_model.specs.declared.conf.CacheConf.{CacheConf}
use Rattle.uw_model.specs.declared.entries.Entry.{Entry}
use Rattle.uw_model.specs.Placement.{least_place, is_free, first_run, fits, longest_front}

-- the test fails at each place from one up to another
abbrev pub FailsBetween : (ℕ → Bool) → ℕ → ℕ → Type 0
FailsBetween test from to = (k : ℕ) → from ≤ k → k < to → test k ≡ false

-- s is the first of the places from one up to another at which the test holds
pub record IsLeast (test : ℕ → Bool) (from to s : ℕ) : Type 0 where
  pub above : from ≤ s
  pub below : s < to
  pub holds : test s ≡ true
  pub before : FailsBetween test from s

-- what the least place is from the next place on, where the test fails here
least_later : (test : ℕ → Bool) (count from s : ℕ) → test from ≡ false → IsLeast test from (from + suc count) s → IsLeast test (from + 1) ((from + 1) + count) s
least_later test count from s e h =
    let apart : from ≡ s → ⊥ = λ q. let t : test s ≡ false = rw (← q) e in let f : true ≡ false = sym h.holds ∙ t in cc in
    record { above = omega (arith, h.above, apart); below = omega (arith, h.below); holds = h.holds; before = λ k a b. h.before k (omega arith) b }

-- the first place is the least one where the test holds there
least_here : (test : ℕ → Bool) (from to s : ℕ) → test from ≡ true → IsLeast test from to s → from ≡ s
least_here test from to s e h = elim (cases_eq from s) [ inl q ↦ q | inr apart ↦ (let f : true ≡ false = sym e ∙ h.before from (omega arith) (omega (arith, h.above, apart)) in cc) ]

pub least_place_found : (test : ℕ → Bool) (count from s : ℕ) → IsLeast test from (from + count) s → least_place test count from ≡ Some s
unfolding least_place
least_place_found test zero from s h = absurd (omega (arith, h.above, h.below))
least_place_found test (suc count) from s h =
    elim (cases_Bool (test from)) [
      | inl e ↦ rw e (ap (λ k. Some k) (least_here test from _ s e h))
      | inr e ↦ rw e (least_place_found test count (from + 1) s (least_later test count from s e h))
    ]

pub least_place_nowhere : (test : ℕ → Bool) (count from : ℕ) → FailsBetween test from (from + count) → least_place test count from ≡ None
unfolding least_place
least_place_nowhere test zero from h = refl
least_place_nowhere test (suc count) from h =
    rw (h from (omega arith) (omega arith)) (least_place_nowhere test count (from + 1) (λ k a b. h k (omega arith) (omega arith)))

-- the other way round: what the answer says
least_from_here : (test : ℕ → Bool) (count from s : ℕ) → test from ≡ true → from ≡ s → IsLeast test from (from + suc count) s
least_from_here test count from s here q = record {
  above = omega (arith, q);
  below = omega (arith, q);
  holds = rw (← q) here;
  before = λ k a b. absurd (omega (arith, q));
}

least_from_later : (test : ℕ → Bool) (count from s : ℕ) → test from ≡ false → IsLeast test (from + 1) ((from + 1) + count) s → IsLeast test from (from + suc count) s
least_from_later test count from s here h = record {
  above = omega (arith, h.above);
  below = omega (arith, h.below);
  holds = h.holds;
  before = λ k a b. elim (cases_eq from k) [ inl q ↦ rw (← q) here | inr apart ↦ h.before k (omega arith) b ];
}

pub least_place_is : (test : ℕ → Bool) (count from s : ℕ) → least_place test count from ≡ Some s → IsLeast test from (from + count) s
unfolding least_place
least_place_is test zero from s e = absurd (none-some s e)
least_place_is test (suc count) from s e =
    elim (cases_Bool (test from)) [
      | inl here ↦ least_from_here test count from s here (same_Some from s (rw here at e))
      | inr here ↦ least_from_later test count from s here (least_place_is test count (from + 1) s (rw here at e))
    ]

pub least_place_none : (test : ℕ → Bool) (count from : ℕ) → least_place test count from ≡ None → FailsBetween test from (from + count)
unfolding least_place
least_place_none test zero from e k a b = absurd (omega arith)
least_place_none test (suc count) from e k a b =
    elim (cases_Bool (test from)) [
      | inl here ↦ absurd (none-some from (sym (rw here at e)))
      | inr here ↦ elim (cases_eq from k) [
        | inl q ↦ rw (← q) here
        | inr apart ↦ least_place_none test count (from + 1) (rw here at e) k (omega arith) (omega arith)
      ]
    ]

-- the least free run, by a place that is free and stands behind no free one
pub first_run_found : (conf : CacheConf) (list : List Entry) (n s : ℕ) → s + n ≤ conf.blocks → is_free conf list n s ≡ true → ((k : ℕ) → k < s → is_free conf list n k ≡ false) → Some s ≡ first_run conf list n
first_run_found conf list n s within free before =
    sym (least_place_found (is_free conf list n) (conf.blocks + 1 - n) 0 s (record { above = omega arith; below = omega arith; holds = free; before = λ k _ b. before k b }))

pub first_run_nowhere : (conf : CacheConf) (list : List Entry) (n s : ℕ) → s ≤ conf.blocks → conf.blocks < s + n → ((k : ℕ) → k < s → is_free conf list n k ≡ false) → None ≡ first_run conf list n
first_run_nowhere conf list n s within past before =
    sym (least_place_nowhere (is_free conf list n) (conf.blocks + 1 - n) 0 (λ k _ b. before k (omega arith)))

-- the longest front, by whether the front of just so many entries fits
module _ (conf : CacheConf) (list : List Entry) (n : ℕ) where
  pub front_fits : (count : ℕ) → fits conf (take count list) n ≡ true → longest_front conf list n count ≡ Some (take count list)
  unfolding longest_front
  front_fits zero e = rw e refl
  front_fits (suc count) e = rw e refl

  pub no_front : (count : ℕ) → fits conf (take count list) n ≡ false → count ≡ 0 → longest_front conf list n count ≡ None
  unfolding longest_front
  no_front zero e _ = rw e refl
  no_front (suc count) e z = absurd (omega (arith, z))

  pub shorter_front : (count : ℕ) → fits conf (take count list) n ≡ false → (count ≡ 0 → ⊥) → longest_front conf list n count ≡ longest_front conf list n (count - 1)
  unfolding longest_front
  shorter_front zero e nz = absurd (nz refl)
  shorter_front (suc count) e nz = let back : count ≡ suc count - 1 = omega arith in rw e (ap (λ k. longest_front conf list n k) back)
