-- The entries that left a list one by one are lost in the next one, and their blocks are counted.
use Rattle.std.proofs.Common.{◌≡◌, inl, inr, ℕ, suc, ◌≤◌, ◌||◌, Bool, true, false, not, List, [], ◌∷◌, ◌++◌, filter, length, Option, None, Some, refl, sym, ap, ◌∙◌, subst, arith}
use Rattle.std.proofs.lemmas.Bool.{and_from, and_parts, cases_Bool, cases_eq, or_left, or_right, not_from_false}
use Rattle.std.proofs.lemmas.Bool.Decides.{nat_tests}
use Rattle.std.specs.List.{list_any}
use Rattle.std.specs.Str.{bytes_eq}
use Rattle.uw_model.specs.declared.conf.CacheConf.{CacheConf}
use Rattle.uw_model.specs.declared.entries.Entry.{Entry}
use Rattle.uw_model.specs.Entries.{span}
use Rattle.uw_model.specs.Calls.{without}
use Rattle.uw_model.specs.KeySteps.{lacks}
use Rattle.uw_model.proofs.KeysLemmas.{other_key, same_key}
use Rattle.uw_words.specs.Numbers.{IsOneOf}
use Rattle.uw_words.specs.Parts.{with_place, with_places}
use Rattle.uw_bitmap.specs.Bits.{run_places}
use Rattle.uw_plan.specs.Regions.{shape_of}
use Rattle.uw_plan.specs.Bounds.{bitmap_places, is_overwritten, is_same_entry, lost_entries, all_run_places}
use Rattle.uw_plan.specs.CallSteps.{IsEntryOf, LeaveOneByOne}
use Rattle.uw_plan.proofs.Costing.{kept_named, once_each, one_of_places, place_here, place_later}
use Rattle.uw_plan.proofs.Counting.{distinct_few}
use Rattle.uw_plan.proofs.Dropping.{one_of_append}

-- a list without a key, and one with a test
without_here : (e : Entry) (list : List Entry) (key : List ℕ) → bytes_eq e.key key ≡ true → without key (e ∷ list) ≡ without key list
without_here e list key same = rw same refl

without_later : (e : Entry) (list : List Entry) (key : List ℕ) → bytes_eq e.key key ≡ false → without key (e ∷ list) ≡ e ∷ without key list
without_later e list key apart = rw apart refl

module _ (test : Entry → Bool) where
  yes : (e : Entry) (list : List Entry) → test e ≡ true → filter test (e ∷ list) ≡ e ∷ filter test list
  yes e list passes = rw passes refl

  no : (e : Entry) (list : List Entry) → test e ≡ false → filter test (e ∷ list) ≡ filter test list
  no e list fails = rw fails refl

  pub passed_few : (list : List Entry) → length (filter test list) ≤ length list
  passed_few [] = omega arith
  passed_few (e ∷ list) = elim (cases_Bool (test e)) [
    | inl passes ↦ omega (arith, ap length (yes e list passes), passed_few list)
    | inr fails ↦ omega (arith, ap length (no e list fails), passed_few list)
  ]

  passed_entry : (list : List Entry) (e : Entry) → IsEntryOf list e → test e ≡ true → IsEntryOf (filter test list) e
  passed_entry [] e one passes = absurd one
  passed_entry (first ∷ list) e (inl here) passes = subst (λ (l : List Entry). IsEntryOf l e) (sym (yes first list (ap test here ∙ passes))) (inl here)
  passed_entry (first ∷ list) e (inr later) passes = elim (cases_Bool (test first)) [
    | inl own ↦ subst (λ (l : List Entry). IsEntryOf l e) (sym (yes first list own)) (inr (passed_entry list e later passes))
    | inr fails ↦ subst (λ (l : List Entry). IsEntryOf l e) (sym (no first list fails)) (passed_entry list e later passes)
  ]

  fewer_without : (list : List Entry) (key : List ℕ) → length (filter test (without key list)) ≤ length (filter test list)
  fewer_without [] key = omega arith
  fewer_without (e ∷ list) key =
      let rest : length (filter test (without key list)) ≤ length (filter test list) = fewer_without list key in
      let more : length (filter test list) ≤ length (filter test (e ∷ list)) = elim (cases_Bool (test e)) [
        | inl passes ↦ omega (arith, ap length (yes e list passes))
        | inr fails ↦ omega (arith, ap length (no e list fails))
      ] in
      elim (cases_Bool (bytes_eq e.key key)) [
        | inl same ↦ (let here : length (filter test (without key (e ∷ list))) ≡ length (filter test (without key list)) = ap (λ (l : List Entry). length (filter test l)) (without_here e list key same) in omega (arith, here, rest, more))
        | inr apart ↦
            let here : length (filter test (without key (e ∷ list))) ≡ length (filter test (e ∷ without key list)) = ap (λ (l : List Entry). length (filter test l)) (without_later e list key apart) in
            elim (cases_Bool (test e)) [
              | inl passes ↦ omega (arith, here, rest, ap length (yes e (without key list) passes), ap length (yes e list passes))
              | inr fails ↦ omega (arith, here, rest, ap length (no e (without key list) fails), ap length (no e list fails))
            ]
      ]

  one_fewer : (list : List Entry) (e : Entry) → IsEntryOf list e → test e ≡ true → suc (length (filter test (without e.key list))) ≤ length (filter test list)
  one_fewer [] e one passes = absurd one
  one_fewer (first ∷ list) e (inl here) passes =
      let same : bytes_eq first.key e.key ≡ true = ap (λ (o : Entry). bytes_eq o.key e.key) here ∙ same_key e.key in
      let gone : length (filter test (without e.key (first ∷ list))) ≡ length (filter test (without e.key list)) = ap (λ (l : List Entry). length (filter test l)) (without_here first list e.key same) in
      omega (arith, gone, fewer_without list e.key, ap length (yes first list (ap test here ∙ passes)))
  one_fewer (first ∷ list) e (inr later) passes =
      let rest : suc (length (filter test (without e.key list))) ≤ length (filter test list) = one_fewer list e later passes in
      elim (cases_Bool (bytes_eq first.key e.key)) [
        | inl same ↦
            let here : length (filter test (without e.key (first ∷ list))) ≡ length (filter test (without e.key list)) = ap (λ (l : List Entry). length (filter test l)) (without_here first list e.key same) in
            elim (cases_Bool (test first)) [
              | inl own ↦ omega (arith, here, rest, ap length (yes first list own))
              | inr fails ↦ omega (arith, here, rest, ap length (no first list fails))
            ]
        | inr apart ↦
            let here : length (filter test (without e.key (first ∷ list))) ≡ length (filter test (first ∷ without e.key list)) = ap (λ (l : List Entry). length (filter test l)) (without_later first list e.key apart) in
            elim (cases_Bool (test first)) [
              | inl own ↦ omega (arith, here, rest, ap length (yes first (without e.key list) own), ap length (yes first list own))
              | inr fails ↦ omega (arith, here, rest, ap length (no first (without e.key list) fails), ap length (no first list fails))
            ]
      ]

  -- those that left and pass a test are no more than those of the list that do
  pub left_few : (gone list kept : List Entry) → LeaveOneByOne list gone kept → ((e : Entry) → IsEntryOf gone e → test e ≡ true) → length gone ≤ length (filter test list)
  left_few [] list kept leave all = omega arith
  left_few (e ∷ gone) list kept leave all =
      omega (arith, left_few gone (without e.key list) kept leave.1 (λ o one. all o (inr one)), one_fewer list e leave.0 (all e (inl refl)))

-- an entry that left stood in the list, and no entry that is kept has its key
stood : (list : List Entry) (key : List ℕ) (e : Entry) → IsEntryOf (without key list) e → IsEntryOf list e
stood [] key e one = absurd one
stood (first ∷ list) key e one = elim (cases_Bool (bytes_eq first.key key)) [
  | inl same ↦ inr (stood list key e (subst (λ (l : List Entry). IsEntryOf l e) (without_here first list key same) one))
  | inr apart ↦
      let both : IsEntryOf (first ∷ without key list) e = subst (λ (l : List Entry). IsEntryOf l e) (without_later first list key apart) one in
      elim both [ inl here ↦ inl here | inr later ↦ inr (stood list key e later) ]
]

pub left_stood : (gone list kept : List Entry) → LeaveOneByOne list gone kept → (e : Entry) → IsEntryOf gone e → IsEntryOf list e
left_stood [] list kept leave e one = absurd one
left_stood (first ∷ gone) list kept leave e (inl here) = subst (IsEntryOf list) here leave.0
left_stood (first ∷ gone) list kept leave e (inr later) = stood list first.key e (left_stood gone (without first.key list) kept leave.1 e later)

lacks_then : (list : List Entry) (key gone : List ℕ) → lacks key list ≡ true → lacks key (without gone list) ≡ true
lacks_then [] key gone all = refl
lacks_then (e ∷ list) key gone all =
    let parts = and_parts (not (bytes_eq e.key key)) (lacks key list) all in
    elim (cases_Bool (bytes_eq e.key gone)) [
      | inl same ↦ ap (lacks key) (without_here e list gone same) ∙ lacks_then list key gone parts.1
      | inr apart ↦ ap (lacks key) (without_later e list gone apart) ∙ and_from (not (bytes_eq e.key key)) (lacks key (without gone list)) parts.0 (lacks_then list key gone parts.1)
    ]

lacks_own : (list : List Entry) (key : List ℕ) → lacks key (without key list) ≡ true
lacks_own [] key = refl
lacks_own (e ∷ list) key = elim (cases_Bool (bytes_eq e.key key)) [
  | inl same ↦ ap (lacks key) (without_here e list key same) ∙ lacks_own list key
  | inr apart ↦ ap (lacks key) (without_later e list key apart) ∙ and_from (not (bytes_eq e.key key)) (lacks key (without key list)) (not_from_false (bytes_eq e.key key) apart) (lacks_own list key)
]

lacks_after : (gone list kept : List Entry) (key : List ℕ) → LeaveOneByOne list gone kept → lacks key list ≡ true → lacks key kept ≡ true
lacks_after [] list kept key leave all = subst (λ (l : List Entry). lacks key l ≡ true) leave all
lacks_after (e ∷ gone) list kept key leave all = lacks_after gone (without e.key list) kept key leave.1 (lacks_then list key e.key all)

pub left_key : (gone list kept : List Entry) → LeaveOneByOne list gone kept → (e : Entry) → IsEntryOf gone e → lacks e.key kept ≡ true
left_key [] list kept leave e one = absurd one
left_key (first ∷ gone) list kept leave e (inl here) =
    subst (λ (o : Entry). lacks o.key kept ≡ true) here (lacks_after gone (without first.key list) kept first.key leave.1 (lacks_own list first.key))
left_key (first ∷ gone) list kept leave e (inr later) = left_key gone (without first.key list) kept leave.1 e later

-- an entry whose key no entry has is none of them
other_entry : (e o : Entry) → bytes_eq e.key o.key ≡ false → is_same_entry e o ≡ false
other_entry e o apart = rw apart refl

pub not_same : (list : List Entry) (e : Entry) → lacks e.key list ≡ true → list_any (is_same_entry e) list ≡ false
not_same [] e all = refl
not_same (o ∷ list) e all =
    let parts = and_parts (not (bytes_eq o.key e.key)) (lacks e.key list) all in
    let apart : bytes_eq o.key e.key ≡ false = grind (arith, nat_tests) in
    rw (other_entry e o (other_key o.key e.key apart)) (not_same list e parts.1)

-- the entries that left are lost in the next list, be it those that are kept alone or one written in front of them
abbrev is_lost : List Entry → Option Entry → Entry → Bool
is_lost next written e = is_overwritten written e || not (list_any (is_same_entry e) next)

module _ (list gone kept : List Entry) (leave : LeaveOneByOne list gone kept) where
  lost_alone : (e : Entry) → IsEntryOf gone e → is_lost kept None e ≡ true
  lost_alone e one = not_from_false (list_any (is_same_entry e) kept) (not_same kept e (left_key gone list kept leave e one))

  lost_behind : (w e : Entry) → IsEntryOf gone e → is_lost (w ∷ kept) (Some w) e ≡ true
  lost_behind w e one = elim (cases_Bool (bytes_eq e.key w.key)) [
    | inl same ↦ or_left (bytes_eq e.key w.key) (not (list_any (is_same_entry e) (w ∷ kept))) same
    | inr apart ↦
        let none : list_any (is_same_entry e) (w ∷ kept) ≡ false = rw (other_entry e w apart) (not_same kept e (left_key gone list kept leave e one)) in
        or_right (bytes_eq e.key w.key) (not (list_any (is_same_entry e) (w ∷ kept))) (not_from_false (list_any (is_same_entry e) (w ∷ kept)) none)
  ]

  pub lost_few : length gone ≤ length (lost_entries list kept None)
  lost_few = left_few (is_lost kept None) gone list kept leave lost_alone

  pub lost_has : (e : Entry) → IsEntryOf gone e → IsEntryOf (lost_entries list kept None) e
  lost_has e one = passed_entry (is_lost kept None) list e (left_stood gone list kept leave e one) (lost_alone e one)

  pub lost_few_behind : (w : Entry) → length gone ≤ length (lost_entries list (w ∷ kept) (Some w))
  lost_few_behind w = left_few (is_lost (w ∷ kept) (Some w)) gone list kept leave (lost_behind w)

  pub lost_has_behind : (w e : Entry) → IsEntryOf gone e → IsEntryOf (lost_entries list (w ∷ kept) (Some w)) e
  lost_has_behind w e one = passed_entry (is_lost (w ∷ kept) (Some w)) list e (left_stood gone list kept leave e one) (lost_behind w e one)

  pub gone_few : length gone ≤ length list
  gone_few = omega (arith, lost_few, passed_few (is_lost kept None) list)

-- the blocks of some entries touch no more words of the bitmap than those of more entries
module _ (conf : CacheConf) where
  abbrev run : Entry → List ℕ
  run e = run_places (shape_of conf) e.first (span conf e.value)

  one_of_run : (list : List Entry) (at : ℕ) → IsOneOf (all_run_places conf list) at → (e : Entry) × (IsEntryOf list e × IsOneOf (run e) at)
  one_of_run [] at one = absurd one
  one_of_run (e ∷ list) at one = elim (one_of_append (run e) (all_run_places conf list) at one) [
    | inl own ↦ (e, (inl refl, own))
    | inr later ↦ (let found = one_of_run list at later in (found.0, (inr found.1.0, found.1.1)))
  ]

  early : (some more : List ℕ) (at : ℕ) → IsOneOf some at → IsOneOf (some ++ more) at
  early [] more at one = absurd one
  early (first ∷ some) more at (inl here) = inl here
  early (first ∷ some) more at (inr later) = inr (early some more at later)

  late : (some more : List ℕ) (at : ℕ) → IsOneOf more at → IsOneOf (some ++ more) at
  late [] more at one = one
  late (first ∷ some) more at one = inr (late some more at one)

  has_run : (list : List Entry) (e : Entry) (at : ℕ) → IsEntryOf list e → IsOneOf (run e) at → IsOneOf (all_run_places conf list) at
  has_run [] e at one own = absurd one
  has_run (first ∷ list) e at (inl here) own = early (run first) (all_run_places conf list) at (subst (λ (o : Entry). IsOneOf (run o) at) (sym here) own)
  has_run (first ∷ list) e at (inr later) own = late (run first) (all_run_places conf list) at (has_run list e at later own)

  place_in : (named : List ℕ) (at : ℕ) → IsOneOf (with_place named at) at
  place_in [] at = inl refl
  place_in (first ∷ named) at = elim (cases_eq first at) [
    | inl same ↦ subst (λ (l : List ℕ). IsOneOf l at) (sym (place_here first named at same)) (inl same)
    | inr apart ↦ subst (λ (l : List ℕ). IsOneOf l at) (sym (place_later first named at apart)) (inr (place_in named at))
  ]

  places_in : (named places : List ℕ) (at : ℕ) → IsOneOf places at → IsOneOf (with_places named places) at
  places_in named [] at one = absurd one
  places_in named (first ∷ places) at (inl here) = kept_named (with_place named first) places at (subst (λ (p : ℕ). IsOneOf (with_place named first) p) here (place_in named first))
  places_in named (first ∷ places) at (inr later) = places_in (with_place named first) places at later

  pub bits_few : (some all : List Entry) → ((e : Entry) → IsEntryOf some e → IsEntryOf all e) → length (with_places [] (all_run_places conf some)) ≤ length (bitmap_places conf all)
  bits_few some all among = distinct_few (with_places [] (all_run_places conf some)) (bitmap_places conf all) (once_each [] (all_run_places conf some) tt) (λ at one.
      elim (one_of_places [] (all_run_places conf some) at one) [
        | inl none ↦ absurd none
        | inr own ↦
            let found = one_of_run some at own in
            places_in [] (all_run_places conf all) at (has_run all found.0 at (among found.0 found.1.0) found.1.1)
      ])
