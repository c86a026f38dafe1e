-- What a step costs: planned words of the bitmap, and others.
use Rattle.std.proofs.Common.{◌≡◌, ◌≢◌, ◌⊎◌, inl, inr, ℕ, suc, ◌+◌, ◌≤◌, Bool, true, false, not, List, [], ◌∷◌, length, filter, refl, sym, ap, ◌∙◌, subst, arith}
use Rattle.std.proofs.lemmas.Bool.{cases_Bool, cases_eq}
use Rattle.std.proofs.lemmas.Bool.Decides.{nat_tests}
use Rattle.uw_words.specs.declared.shape.Shape.{Shape}
use Rattle.uw_words.specs.Shapes.{shape_words}
use Rattle.uw_words.specs.Plans.{Plan}
use Rattle.uw_words.specs.Parts.{GrewAt, places_of, with_place, with_places}
use Rattle.uw_words.specs.Numbers.{AreDistinct, IsNoneOf, IsOneOf}
use Rattle.uw_intent.specs.RedoRecord.{IsTarget}
use Rattle.uw_plan.specs.Plans.{Costs, is_bit_place}
use Rattle.uw_plan.specs.Regions.{frame_of}

pub place_here : (first : ℕ) (named : List ℕ) (at : ℕ) → first ≡ at → with_place (first ∷ named) at ≡ first ∷ named
place_here first named at same = grind (arith, nat_tests)

pub place_later : (first : ℕ) (named : List ℕ) (at : ℕ) → first ≢ at → with_place (first ∷ named) at ≡ first ∷ with_place named at
place_later first named at apart = grind (arith, nat_tests)

-- places of one kind among those that are named
module _ (test : ℕ → Bool) where
  pub filter_yes : (first : ℕ) (named : List ℕ) → test first ≡ true → filter test (first ∷ named) ≡ first ∷ filter test named
  filter_yes first named passes = rw passes refl

  pub filter_no : (first : ℕ) (named : List ℕ) → test first ≡ false → filter test (first ∷ named) ≡ filter test named
  filter_no first named fails = rw fails refl

  kept_place : (named : List ℕ) (at : ℕ) → test at ≡ true → filter test (with_place named at) ≡ with_place (filter test named) at
  kept_place [] at passes = filter_yes at [] passes
  kept_place (first ∷ named) at passes = elim (cases_eq first at) [
    | inl same ↦
        let first_yes : test first ≡ true = ap test same ∙ passes in
        ap (filter test) (place_here first named at same) ∙ filter_yes first named first_yes ∙ sym (place_here first (filter test named) at same)
        ∙ ap (λ (l : List ℕ). with_place l at) (sym (filter_yes first named first_yes))
    | inr apart ↦ elim (cases_Bool (test first)) [
      | inl first_yes ↦
          ap (filter test) (place_later first named at apart) ∙ filter_yes first (with_place named at) first_yes ∙ ap (λ (l : List ℕ). first ∷ l) (kept_place named at passes)
          ∙ sym (place_later first (filter test named) at apart)
          ∙ ap (λ (l : List ℕ). with_place l at) (sym (filter_yes first named first_yes))
      | inr first_no ↦
          ap (filter test) (place_later first named at apart) ∙ filter_no first (with_place named at) first_no ∙ kept_place named at passes
          ∙ ap (λ (l : List ℕ). with_place l at) (sym (filter_no first named first_no))
    ]
  ]

  left_place : (named : List ℕ) (at : ℕ) → test at ≡ false → filter test (with_place named at) ≡ filter test named
  left_place [] at fails = filter_no at [] fails
  left_place (first ∷ named) at fails = elim (cases_eq first at) [
    | inl same ↦ ap (filter test) (place_here first named at same)
    | inr apart ↦ elim (cases_Bool (test first)) [
      | inl first_yes ↦
          ap (filter test) (place_later first named at apart) ∙ filter_yes first (with_place named at) first_yes ∙ ap (λ (l : List ℕ). first ∷ l) (left_place named at fails)
          ∙ sym (filter_yes first named first_yes)
      | inr first_no ↦ ap (filter test) (place_later first named at apart) ∙ filter_no first (with_place named at) first_no ∙ left_place named at fails ∙ sym (filter_no first named first_no)
    ]
  ]

  few_place : (named : List ℕ) (at : ℕ) → length (filter test (with_place named at)) ≤ length (filter test named) + 1
  few_place [] at = elim (cases_Bool (test at)) [
    | inl passes ↦ (let e : length (filter test (at ∷ [])) ≡ 1 = ap length (filter_yes at [] passes) in omega (arith, e))
    | inr fails ↦ (let e : length (filter test (at ∷ [])) ≡ 0 = ap length (filter_no at [] fails) in omega (arith, e))
  ]
  few_place (first ∷ named) at =
      let rest : length (filter test (with_place named at)) ≤ length (filter test named) + 1 = few_place named at in
      elim (cases_eq first at) [
        | inl same ↦ (let e : length (filter test (with_place (first ∷ named) at)) ≡ length (filter test (first ∷ named)) = ap (λ (l : List ℕ). length (filter test l)) (place_here first named at same) in omega (arith, e))
        | inr apart ↦
            let e : length (filter test (with_place (first ∷ named) at)) ≡ length (filter test (first ∷ with_place named at)) = ap (λ (l : List ℕ). length (filter test l)) (place_later first named at apart) in
            elim (cases_Bool (test first)) [
              | inl passes ↦
                  let now : length (filter test (first ∷ with_place named at)) ≡ suc (length (filter test (with_place named at))) = ap length (filter_yes first (with_place named at) passes) in
                  let before : length (filter test (first ∷ named)) ≡ suc (length (filter test named)) = ap length (filter_yes first named passes) in
                  omega (arith, e, now, before, rest)
              | inr fails ↦
                  let now : length (filter test (first ∷ with_place named at)) ≡ length (filter test (with_place named at)) = ap length (filter_no first (with_place named at) fails) in
                  let before : length (filter test (first ∷ named)) ≡ length (filter test named) = ap length (filter_no first named fails) in
                  omega (arith, e, now, before, rest)
            ]
      ]

  pub kept_places : (named places : List ℕ) → ((at : ℕ) → IsOneOf places at → test at ≡ true) → filter test (with_places named places) ≡ with_places (filter test named) places
  kept_places named [] all = refl
  kept_places named (at ∷ places) all =
      kept_places (with_place named at) places (λ p one. all p (inr one)) ∙ ap (λ (l : List ℕ). with_places l places) (kept_place named at (all at (inl refl)))

  pub left_places : (named places : List ℕ) → ((at : ℕ) → IsOneOf places at → test at ≡ false) → filter test (with_places named places) ≡ filter test named
  left_places named [] all = refl
  left_places named (at ∷ places) all = left_places (with_place named at) places (λ p one. all p (inr one)) ∙ left_place named at (all at (inl refl))

  pub few_places : (named places : List ℕ) → length (filter test (with_places named places)) ≤ length (filter test named) + length places
  few_places named [] = omega arith
  few_places named (at ∷ places) = omega (arith, few_places (with_place named at) places, few_place named at)

one_of_place : (named : List ℕ) (at other : ℕ) → IsOneOf (with_place named at) other → IsOneOf named other ⊎ (at ≡ other)
one_of_place [] at other (inl same) = inr same
one_of_place [] at other (inr none) = absurd none
one_of_place (first ∷ named) at other one = elim (cases_eq first at) [
  | inl same ↦ inl (subst (λ (l : List ℕ). IsOneOf l other) (let e : with_place (first ∷ named) at ≡ first ∷ named = grind (arith, nat_tests) in e) one)
  | inr apart ↦ elim (subst (λ (l : List ℕ). IsOneOf l other) (let e : with_place (first ∷ named) at ≡ first ∷ with_place named at = grind (arith, nat_tests) in e) one) [
    | inl here ↦ inl (inl here)
    | inr later ↦ elim (one_of_place named at other later) [ inl old ↦ inl (inr old) | inr new ↦ inr new ]
  ]
]

pub one_of_places : (named places : List ℕ) (other : ℕ) → IsOneOf (with_places named places) other → IsOneOf named other ⊎ IsOneOf places other
one_of_places named [] other one = inl one
one_of_places named (at ∷ places) other one = elim (one_of_places (with_place named at) places other one) [
  | inl early ↦ elim (one_of_place named at other early) [ inl old ↦ inl old | inr new ↦ inr (inl new) ]
  | inr later ↦ inr (inr later)
]

-- a place that is named stays so
kept_one : (named : List ℕ) (at other : ℕ) → IsOneOf named other → IsOneOf (with_place named at) other
kept_one [] at other none = absurd none
kept_one (first ∷ named) at other (inl here) = elim (cases_eq first at) [
  | inl same ↦ subst (λ (l : List ℕ). IsOneOf l other) (sym (place_here first named at same)) (inl here)
  | inr apart ↦ subst (λ (l : List ℕ). IsOneOf l other) (sym (place_later first named at apart)) (inl here)
]
kept_one (first ∷ named) at other (inr later) = elim (cases_eq first at) [
  | inl same ↦ subst (λ (l : List ℕ). IsOneOf l other) (sym (place_here first named at same)) (inr later)
  | inr apart ↦ subst (λ (l : List ℕ). IsOneOf l other) (sym (place_later first named at apart)) (inr (kept_one named at other later))
]

pub kept_named : (named places : List ℕ) (other : ℕ) → IsOneOf named other → IsOneOf (with_places named places) other
kept_named named [] other one = one
kept_named named (at ∷ places) other one = kept_named (with_place named at) places other (kept_one named at other one)

-- places that are named once each stay so
none_place : (named : List ℕ) (at other : ℕ) → IsNoneOf named other → at ≢ other → IsNoneOf (with_place named at) other
none_place [] at other none apart = (apart, tt)
none_place (first ∷ named) at other none apart = elim (cases_eq first at) [
  | inl same ↦ subst (λ (l : List ℕ). IsNoneOf l other) (sym (place_here first named at same)) none
  | inr differs ↦ subst (λ (l : List ℕ). IsNoneOf l other) (sym (place_later first named at differs)) (none.0, none_place named at other none.1 apart)
]

once_more : (named : List ℕ) (at : ℕ) → AreDistinct named → AreDistinct (with_place named at)
once_more [] at once = (tt, tt)
once_more (first ∷ named) at once = elim (cases_eq first at) [
  | inl same ↦ subst AreDistinct (sym (place_here first named at same)) once
  | inr differs ↦ subst AreDistinct (sym (place_later first named at differs)) (none_place named at first once.0 (λ same. differs (sym same)), once_more named at once.1)
]

pub once_each : (named places : List ℕ) → AreDistinct named → AreDistinct (with_places named places)
once_each named [] once = once
once_each named (at ∷ places) once = once_each (with_place named at) places (once_more named at once)

-- a number is one of some or none of them
pub one_or_none : (numbers : List ℕ) (number : ℕ) → IsOneOf numbers number ⊎ IsNoneOf numbers number
one_or_none [] number = inr tt
one_or_none (first ∷ numbers) number = elim (cases_eq first number) [
  | inl same ↦ inl (inl same)
  | inr apart ↦ elim (one_or_none numbers number) [ inl later ↦ inl (inr later) | inr none ↦ inr (apart, none) ]
]

-- a step that plans words of the bitmap at a run's places, and then other words
pub costs_of : (shape : Shape) (most : ℕ) (run places : List ℕ) (before mid now : Plan) → GrewAt run before mid → GrewAt places mid now
    → ((at : ℕ) → IsOneOf run at → is_bit_place shape at ≡ true) → ((at : ℕ) → IsOneOf places at → is_bit_place shape at ≡ false) → length places ≤ most
    → ((at : ℕ) → IsOneOf run at → IsTarget (frame_of shape) (shape_words shape) at) → ((at : ℕ) → IsOneOf places at → IsTarget (frame_of shape) (shape_words shape) at)
    → Costs shape most run before now
costs_of shape most run places before mid now ran grew bits others few run_targets targets = record {
  room = grew.room ∙ ran.room;
  bits =
      ap (filter bit) grew.named ∙ left_places bit (places_of mid.writes) places others ∙ ap (filter bit) ran.named ∙ kept_places bit (places_of before.writes) run bits;
  others =
      let more : length (filter other (places_of now.writes)) ≤ length (filter other (places_of mid.writes)) + length places =
      subst (λ (l : List ℕ). length (filter other l) ≤ length (filter other (places_of mid.writes)) + length places) (sym grew.named) (few_places other (places_of mid.writes) places) in
      let same : length (filter other (places_of mid.writes)) ≡ length (filter other (places_of before.writes)) =
      ap (λ (l : List ℕ). length (filter other l)) ran.named
      ∙ ap length (left_places other (places_of before.writes) run (λ at one. ap not (bits at one))) in
      omega (arith, more, same, few);
  kept = λ at one.
      let mid_kept : IsOneOf (places_of mid.writes) at = subst (λ (l : List ℕ). IsOneOf l at) (sym ran.named) (kept_named (places_of before.writes) run at one) in
      subst (λ (l : List ℕ). IsOneOf l at) (sym grew.named) (kept_named (places_of mid.writes) places at mid_kept);
  once = λ distinct.
      let mid_once : AreDistinct (places_of mid.writes) = subst AreDistinct (sym ran.named) (once_each (places_of before.writes) run distinct) in
      subst AreDistinct (sym grew.named) (once_each (places_of mid.writes) places mid_once);
  beyond = λ at. elim (one_or_none run at) [
    | inl of_run ↦ inl (run_targets at of_run)
    | inr off_run ↦ elim (one_or_none places at) [ inl of_places ↦ inl (targets at of_places) | inr off ↦ inr (grew.others at off ∙ ran.others at off_run) ]
  ];
}
  where
    bit : ℕ → Bool
    bit at = is_bit_place shape at

    other : ℕ → Bool
    other at = not (is_bit_place shape at)
