-- A table of slots, as a place is looked for in it and as writes join it.
use Rattle.std.proofs.Common.{◌≡◌, ◌≢◌, ◌⊎◌, inl, inr, ⊎_elim, ℕ, zero, suc, ◌+◌, ◌-◌, ◌*◌, ◌<◌, ◌≤◌, List, [], ◌∷◌, ◌++◌, cond, eqb, length, get_or, set, take, replicate, count_by, refl, sym, ap, ◌∙◌, subst, arith}
use Rattle.std.proofs.lemmas.Bool.{cases_eq, cases_lt}
use Rattle.std.proofs.lemmas.Bool.Decides.{nat_tests}
use Rattle.std.proofs.lemmas.List.{length-set, get_or-set_same, get_or-set_other, get_or_append_left, get_or_push, length_push, length-replicate, length-take-le, get_or-take, take_more}
use Rattle.std.proofs.lemmas.List.Folds.{sum_by-replicate}
use Rattle.std.proofs.lemmas.List.Sums.{sum_by-set}
use Rattle.uw_words.specs.Plans.{HasDistinctPlaces}
use Rattle.uw_words.specs.Slots.{place, home, step_on, IsFullBefore, Reaches, IsTable}
use Rattle.uw_words.specs.SlotSteps.{Ends}

-- the slots before this step from a place's home are full, and none of them has the place's number
pub record Passed (plan : List (ℕ × ℕ)) (slots : List ℕ) (at steps : ℕ) : Type 0 where
  pub full : IsFullBefore slots at steps
  pub others : (i k : ℕ) → i < steps → get_or slots (step_on (length slots) (home (length slots) at) i) 0 ≡ k + 1 → place plan k ≢ at

module _ (plan : List (ℕ × ℕ)) (slots : List ℕ) (at : ℕ) where
  abbrev at_step : ℕ → ℕ
  at_step i = step_on (length slots) (home (length slots) at) i

  pub none_passed : Passed plan slots at 0
  none_passed = record { full = λ i h. absurd (omega arith); others = λ i k h. absurd (omega arith) }

  pub passed_more : (steps slot : ℕ) → Passed plan slots at steps → at_step steps ≡ slot → get_or slots slot 0 ≢ 0
      → ((k : ℕ) → get_or slots slot 0 ≡ k + 1 → place plan k ≢ at) → Passed plan slots at (steps + 1)
  passed_more steps slot passed here full other = record {
    full = λ i h. ⊎_elim (λ below. passed.full i below) (λ same. subst (λ (j : ℕ). get_or slots j 0 ≢ 0) (sym (ap at_step same ∙ here)) full) (below_or i h);
    others = λ i k h is. ⊎_elim (λ below. passed.others i k below is) (λ same. other k (ap (λ (j : ℕ). get_or slots j 0) (sym (ap at_step same ∙ here)) ∙ is)) (below_or i h);
  }
    where
      below_or : (i : ℕ) → i < steps + 1 → (i < steps) ⊎ (i ≡ steps)
      below_or i h = elim (cases_lt i steps) [ inl below ↦ inl below | inr above ↦ inr (omega arith) ]

  pub ends_named : (steps slot k : ℕ) → Passed plan slots at steps → steps < length slots → slot < length slots → at_step steps ≡ slot
      → get_or slots slot 0 ≡ k + 1 → k < length plan → place plan k ≡ at → Ends plan slots at slot
  ends_named steps slot k passed short within here number planned is = record {
    within = within;
    reached = record { steps = steps; within = short; full = passed.full; here = here };
    named = λ j other. let same : j ≡ k = omega (arith, number, other) in
        (omega arith, ap (place plan) same ∙ is);
    free = λ none. absurd (omega (arith, number, none));
  }

  pub ends_free : (steps slot : ℕ) → IsTable plan slots → Passed plan slots at steps → steps < length slots → slot < length slots → at_step steps ≡ slot
      → get_or slots slot 0 ≡ 0 → Ends plan slots at slot
  ends_free steps slot table passed short within here free = record {
    within = within;
    reached = record { steps = steps; within = short; full = passed.full; here = here };
    named = λ j other. absurd (omega (arith, free, other));
    free = λ none k planned is. unplanned k planned is;
  }
    where
      unplanned : (k : ℕ) → k < length plan → place plan k ≢ at
      unplanned k planned is =
          let found = table.found k planned in
          let way : Reaches slots at found.0 = subst (λ (p : ℕ). Reaches slots p found.0) is found.1 in
          let number : get_or slots (at_step way.steps) 0 ≡ k + 1 = ap (λ (j : ℕ). get_or slots j 0) way.here ∙ found.2 in
          elim (cases_lt way.steps steps) [
            | inl before ↦ passed.others way.steps k before number is
            | inr after ↦ elim (cases_eq way.steps steps) [
              | inl same ↦
                  let empty : get_or slots (at_step way.steps) 0 ≡ 0 = ap (λ (j : ℕ). get_or slots j 0) (ap at_step same ∙ here) ∙ free in
                  absurd (omega (arith, number, empty))
              | inr other ↦
                  way.full steps (omega arith) (ap (λ (j : ℕ). get_or slots j 0) here ∙ free)
            ]
          ]

none_empty : (xs : List ℕ) → ((i : ℕ) → i < length xs → get_or xs i 0 ≢ 0) → count_by (λ number. eqb number 0) xs ≡ 0
none_empty [] full = refl
none_empty (x ∷ xs) full =
    let first : x ≢ 0 = full 0 (omega arith) in
    let rest : count_by (λ number. eqb number 0) xs ≡ 0 = none_empty xs (λ i h. full (suc i) (omega arith)) in
    grind (arith, nat_tests)

-- each slot is met on the way round the table
round : (n from slot : ℕ) → from < n → slot < n → (i : ℕ) × (i < n) × (step_on n from i ≡ slot)
round n from slot f s = elim (cases_lt slot from) [
  | inl before ↦ (slot + n - from, omega arith, let past : n ≤ from + (slot + n - from) = omega arith in grind (arith, nat_tests))
  | inr after ↦ (slot - from, omega arith, let short : from + (slot - from) < n = omega arith in grind (arith, nat_tests))
]

-- a table with more slots than writes is never passed round
pub passed_all : (plan : List (ℕ × ℕ)) (slots : List ℕ) (at : ℕ) → IsTable plan slots → length plan < length slots → home (length slots) at < length slots
    → Passed plan slots at (length slots) → ⊥
passed_all plan slots at table spare within passed =
    let full : count_by (λ number. eqb number 0) slots ≡ 0 = none_empty slots (λ i h.
    let met = round (length slots) (home (length slots) at) i within h in
    subst (λ (j : ℕ). get_or slots j 0 ≢ 0) met.2 (passed.full met.0 met.1)) in
    omega (arith, full, table.empty)

-- no write, and so many empty slots
pub table_empty : (n : ℕ) → IsTable [] (replicate n 0)
table_empty n = record {
  numbers = λ slot. zeros n slot;
  found = λ k h. absurd (omega arith);
  empty = count_zeros n;
}
  where
    zeros : (n slot : ℕ) → get_or (replicate n 0) slot 0 ≤ 0
    zeros zero slot = omega arith
    zeros (suc n) zero = omega arith
    zeros (suc n) (suc slot) = zeros n slot

    count_zeros : (n : ℕ) → count_by (λ number. eqb number 0) (replicate n 0) + 0 ≡ length {A = ℕ} (replicate n 0)
    count_zeros n =
        let all : count_by (λ number. eqb number 0) (replicate n 0) ≡ n * 1 = sum_by-replicate (λ (m : ℕ). cond (eqb m 0) 1 0) n 0 in
        omega (arith, all, length-replicate {A = ℕ} n 0)

pub place-push : (plan : List (ℕ × ℕ)) (at word k : ℕ) → k < length plan → place (plan ++ (at, word) ∷ []) k ≡ place plan k
place-push plan at word k h = ap (λ (p : ℕ × ℕ). p.0) (get_or_append_left plan ((at, word) ∷ []) (0, 0) k h)

pub place_last : (plan : List (ℕ × ℕ)) (at word k : ℕ) → length plan ≡ k → place (plan ++ (at, word) ∷ []) k ≡ at
place_last plan at word k h = ap (λ (p : ℕ × ℕ). p.0) (get_or_push plan (at, word) (0, 0) k h)

-- one more write, at the empty slot where the search for its place ended
pub table_push : (plan : List (ℕ × ℕ)) (slots : List ℕ) (at word slot number : ℕ) → IsTable plan slots → slot < length slots → Reaches slots at slot
    → get_or slots slot 0 ≡ 0 → number ≡ length plan + 1 → IsTable (plan ++ (at, word) ∷ []) (set slots slot number)
table_push plan slots at word slot number table within way free is = record {
  numbers = λ i. numbers i;
  found = λ k h. found k h;
  empty = empty;
}
  where
    longer : length (plan ++ (at, word) ∷ []) ≡ length plan + 1
    longer = length_push plan (at, word)

    more : List ℕ
    more = set slots slot number

    numbers : (i : ℕ) → get_or (set slots slot number) i 0 ≤ length (plan ++ (at, word) ∷ [])
    numbers i = elim (cases_eq i slot) [
      | inl same ↦
          let put : get_or (set slots slot number) i 0 ≡ number = ap (λ (j : ℕ). get_or (set slots slot number) j 0) same ∙ get_or-set_same slots slot number 0 within in
          omega (arith, longer, put, is)
      | inr other ↦ omega (arith, longer, get_or-set_other slots slot i number 0 other, table.numbers i)
    ]

    -- full slots stay so
    stays_full : (i : ℕ) → get_or slots i 0 ≢ 0 → get_or (set slots slot number) i 0 ≢ 0
    stays_full i full = elim (cases_eq i slot) [
      | inl same ↦ absurd (full (ap (λ (j : ℕ). get_or slots j 0) same ∙ free))
      | inr other ↦ λ none. full (sym (get_or-set_other slots slot i number 0 other) ∙ none)
    ]

    keeps : (p to : ℕ) → Reaches slots p to → Reaches (set slots slot number) p to
    keeps p to r =
        let len : length (set slots slot number) ≡ length slots = length-set slots slot number in
        record {
          steps = r.steps;
          within = omega (arith, len, r.within);
          full = λ i h. subst (λ (n : ℕ). get_or (set slots slot number) (step_on n (home n p) i) 0 ≢ 0) (sym len) (stays_full (step_on (length slots) (home (length slots) p) i) (r.full i h));
          here = ap (λ (n : ℕ). step_on n (home n p) r.steps) len ∙ r.here;
        }

    found : (k : ℕ) → k < length (plan ++ (at, word) ∷ []) → (to : ℕ) × Reaches (set slots slot number) (place (plan ++ (at, word) ∷ []) k) to × (get_or (set slots slot number) to 0 ≡ k + 1)
    found k h = elim (cases_lt k (length plan)) [
      | inl before ↦
          let old = table.found k before in
          let other : old.0 ≢ slot = λ same. (let none : get_or slots old.0 0 ≡ 0 = ap (λ (j : ℕ). get_or slots j 0) same ∙ free in omega (arith, none, old.2)) in (
            old.0,
            subst (λ (p : ℕ). Reaches (set slots slot number) p old.0) (sym (place-push plan at word k before)) (keeps (place plan k) old.0 old.1),
            get_or-set_other slots slot old.0 number 0 other ∙ old.2,
          )
      | inr last ↦
          let same : length plan ≡ k = omega (arith, longer) in (
            slot,
            subst (λ (p : ℕ). Reaches (set slots slot number) p slot) (sym (place_last plan at word k same)) (keeps at slot way),
            get_or-set_same slots slot number 0 within ∙ is ∙ ap (λ (n : ℕ). n + 1) same,
          )
    ]

    empty : count_by (λ n. eqb n 0) (set slots slot number) + length (plan ++ (at, word) ∷ []) ≡ length (set slots slot number)
    empty =
        let changed = sum_by-set (λ (n : ℕ). cond (eqb n 0) 1 0) slots slot number 0 within in
        let test : ℕ → ℕ = λ n. cond (eqb n 0) 1 0 in
        let was : test (get_or slots slot 0) ≡ test 0 = ap test free in
        let now : test number ≡ 0 = grind (arith, nat_tests) in
        omega (arith, longer, length-set slots slot number, table.empty, changed, was, now)

-- a new word for a place that is planned
pub place-set : (plan : List (ℕ × ℕ)) (at word k j : ℕ) → k < length plan → place plan k ≡ at → place (set plan k (at, word)) j ≡ place plan j
place-set plan at word k j within is = elim (cases_eq j k) [
  | inl same ↦
      ap (place (set plan k (at, word))) same ∙ ap (λ (p : ℕ × ℕ). p.0) (get_or-set_same plan k (at, word) (0, 0) within) ∙ sym is ∙ sym (ap (place plan) same)
  | inr other ↦ ap (λ (p : ℕ × ℕ). p.0) (get_or-set_other plan k j (at, word) (0, 0) other)
]

pub table_set : (plan : List (ℕ × ℕ)) (slots : List ℕ) (at word k : ℕ) → IsTable plan slots → place plan k ≡ at → k < length plan → IsTable (set plan k (at, word)) slots
table_set plan slots at word k table is within = record {
  numbers = λ slot. omega (arith, length-set plan k (at, word), table.numbers slot);
  found = λ j h.
      let old = table.found j (omega (arith, length-set plan k (at, word))) in
      (old.0, subst (λ (p : ℕ). Reaches slots p old.0) (sym (place-set plan at word k j within is)) old.1, old.2);
  empty = omega (arith, length-set plan k (at, word), table.empty);
}

-- the next write of a plan joins the table of those before it
pub table_next : (plan : List (ℕ × ℕ)) (slots : List ℕ) (k slot number : ℕ) → HasDistinctPlaces plan → k < length plan → IsTable (take k plan) slots
    → Ends (take k plan) slots (place plan k) slot → number ≡ k + 1 → IsTable (take (k + 1) plan) (set slots slot number)
table_next plan slots k slot number distinct within table ends is =
    let short : length (take k plan) ≡ k = length-take-le k plan (omega arith) in
    let free : get_or slots slot 0 ≡ 0 = elim (cases_eq (get_or slots slot 0) 0) [
      | inl none ↦ none
      | inr some ↦
          let j = get_or slots slot 0 - 1 in
          let named = ends.named j (omega (arith, some)) in
          let before : j < k = omega (arith, short, named.0) in
          absurd (distinct j k (0, 0) before within (ap (λ (p : ℕ × ℕ). p.0) (sym (get_or-take k plan j (0, 0) before)) ∙ named.1))
    ] in
    subst (λ (l : List (ℕ × ℕ)). IsTable l (set slots slot number)) (sym (take_more plan k (0, 0) within))
    (table_push (take k plan) slots (place plan k) (get_or plan k (0, 0)).1 slot number table ends.within ends.reached free (omega (arith, short, is)))
