-- What steps cost together, and how many words are planned by them at most.
use Rattle.std.proofs.Common.{◌≡◌, inl, inr, ℕ, ◌+◌, ◌<◌, ◌≤◌, nat_le, nat_lt, Bool, true, not, List, [], ◌∷◌, ◌++◌, filter, length, None, Some, refl, sym, ap, ◌∙◌, subst, arith}
use Rattle.std.proofs.lemmas.Bool.{and_from, cases_Bool, cases_eq, le-leb, lt-ltb}
use Rattle.std.proofs.lemmas.Bool.Decides.{nat_tests}
use Rattle.std.proofs.lemmas.List.{length-map}
use Rattle.std.proofs.lemmas.List.Filters.{length-filter_both}
use Rattle.uw_words.specs.declared.shape.Shape.{Shape}
use Rattle.uw_words.specs.Shapes.{IsShape, bit_words, shape_words}
use Rattle.uw_words.specs.Plans.{Plan, planned}
use Rattle.uw_words.specs.Numbers.{AreDistinct, IsOneOf, places_from, without_number}
use Rattle.uw_words.specs.Parts.{places_of, with_places}
use Rattle.uw_words.proofs.Growth.{row_has, row_length, with_places-append}
use Rattle.uw_words.proofs.Numbers.{not_none}
use Rattle.uw_intent.specs.RedoRecord.{IsTarget}
use Rattle.uw_bitmap.specs.Bits.{run_places}
use Rattle.uw_plan.specs.Regions.{frame_of}
use Rattle.uw_plan.specs.Plans.{Costs, HasRoomFor, bit_places, count_of_others, is_bit_place}
use Rattle.uw_plan.specs.CallSteps.{HasSpare}
use Rattle.uw_plan.proofs.Adding.{length_left}
use Rattle.uw_plan.proofs.Costing.{filter_no, filter_yes, kept_places, left_places, once_each, one_of_places}
use Rattle.uw_plan.proofs.Dropping.{one_left}
use Rattle.uw_plan.proofs.Steps.{run_bits}

-- steps one after the other, and no step
pub costs_then : (shape : Shape) (m n : ℕ) (run more : List ℕ) (before mid now : Plan) → Costs shape m run before mid → Costs shape n more mid now → Costs shape (m + n) (run ++ more) before now
costs_then shape m n run more before mid now first second = record {
  room = second.room ∙ first.room;
  bits = second.bits ∙ ap (λ (l : List ℕ). with_places l more) first.bits ∙ sym (with_places-append (bit_places shape before) run more);
  others = omega (arith, first.others, second.others);
  kept = λ at one. second.kept at (first.kept at one);
  once = λ distinct. second.once (first.once distinct);
  beyond = λ at. elim (second.beyond at) [
    | inl target ↦ inl target
    | inr later ↦ elim (first.beyond at) [ inl target ↦ inl target | inr early ↦ inr (later ∙ early) ]
  ];
}

pub costs_none : (shape : Shape) (plan : Plan) → Costs shape 0 [] plan plan
costs_none shape plan = record { room = refl; bits = refl; others = omega arith; kept = λ at one. one; once = λ distinct. distinct; beyond = λ at. inr refl }

pub costs_more : (shape : Shape) (m n : ℕ) (run : List ℕ) (before now : Plan) → m ≤ n → Costs shape m run before now → Costs shape n run before now
costs_more shape m n run before now less costs = record {
  room = costs.room;
  bits = costs.bits;
  others = omega (arith, costs.others, less);
  kept = costs.kept;
  once = costs.once;
  beyond = costs.beyond;
}

-- what is spare after a step
pub spare_after : (shape : Shape) (m n : ℕ) (run : List ℕ) (before now : Plan) → HasSpare shape (m + n) before → Costs shape m run before now → HasSpare shape n now
spare_after shape m n run before now spare costs = record {
  room = omega (arith, spare.room, costs.room, costs.others);
  distinct = subst AreDistinct (sym costs.bits) (once_each (bit_places shape before) run spare.distinct);
}

pub spare_less : (shape : Shape) (m n : ℕ) (plan : Plan) → m ≤ n → HasSpare shape n plan → HasSpare shape m plan
spare_less shape m n plan less spare = record { room = omega (arith, spare.room, less); distinct = spare.distinct }

-- distinct numbers that all stand in a list are no more than its
pub distinct_few : (some all : List ℕ) → AreDistinct some → ((number : ℕ) → IsOneOf some number → IsOneOf all number) → length some ≤ length all
distinct_few [] all distinct among = omega arith
distinct_few (first ∷ some) all distinct among =
    let here : IsOneOf all first = among first (inl refl) in
    let rest : length some ≤ length (without_number all first) =
    distinct_few some (without_number all first) distinct.1
    (λ number one. one_left all first number (among number (inr one)) (λ same. not_none some first (subst (IsOneOf some) same one) distinct.0)) in
    omega (arith, rest, length_left all first here)

module _ (shape : Shape) where
  abbrev bit : ℕ → Bool
  bit at = is_bit_place shape at

  abbrev other : ℕ → Bool
  other at = not (is_bit_place shape at)

  -- the places that are named are those of the bitmap and the others
  split : (places : List ℕ) → length places ≡ length (filter bit places) + length (filter other places)
  split places = sym (length-filter_both bit other (λ at. refl) places)

  pub few_writes : (plan : Plan) → length plan.writes ≡ length (bit_places shape plan) + count_of_others shape plan
  few_writes plan = sym (length-map plan.writes (λ (w : ℕ × ℕ). w.0)) ∙ split (places_of plan.writes)

  -- words of the bitmap that are named once each are no more than it has
  module _ (is : IsShape shape) where
    passed : (places : List ℕ) (at : ℕ) → IsOneOf (filter bit places) at → bit at ≡ true
    passed [] at one = absurd one
    passed (first ∷ places) at one = elim (cases_Bool (bit first)) [
      | inl passes ↦
          let both : IsOneOf (first ∷ filter bit places) at = subst (λ (l : List ℕ). IsOneOf l at) (filter_yes bit first places passes) one in
          elim both [ inl here ↦ ap bit (sym here) ∙ passes | inr later ↦ passed places at later ]
      | inr fails ↦ passed places at (subst (λ (l : List ℕ). IsOneOf l at) (filter_no bit first places fails) one)
    ]

    few_bits : (places : List ℕ) → AreDistinct places → ((at : ℕ) → IsOneOf places at → bit at ≡ true) → length places ≤ bit_words shape.n_blocks
    few_bits places once all =
        let few : length places ≤ length (places_from shape.bitmap (bit_words shape.n_blocks)) =
        distinct_few places (places_from shape.bitmap (bit_words shape.n_blocks)) once (λ at one.
        let passes : bit at ≡ true = all at one in
        let low : shape.bitmap ≤ at = grind (arith, nat_tests) in
        let high : at < shape.chains = grind (arith, nat_tests) in
        row_has shape.bitmap (bit_words shape.n_blocks) at low (omega (arith, high, is.chains))) in
        omega (arith, few, row_length shape.bitmap (bit_words shape.n_blocks))

    pub bits_within : (plan : Plan) → AreDistinct (bit_places shape plan) → length (bit_places shape plan) ≤ bit_words shape.n_blocks
    bits_within plan once = few_bits (bit_places shape plan) once (passed (places_of plan.writes))

    pub room_of_spare : (most first n : ℕ) (plan : Plan) → first + n ≤ shape.n_blocks → HasSpare shape most plan → HasRoomFor plan most (run_places shape first n)
    room_of_spare most first n plan within spare =
        let run = run_places shape first n in
        let bits : (at : ℕ) → IsOneOf run at → bit at ≡ true = λ at one. run_bit at one in
        let named : filter bit (with_places (places_of plan.writes) run) ≡ with_places (bit_places shape plan) run = kept_places bit (places_of plan.writes) run bits in
        let beside : filter other (with_places (places_of plan.writes) run) ≡ filter other (places_of plan.writes) =
        left_places other (places_of plan.writes) run (λ at one. ap not (bits at one)) in
        let few : length (with_places (bit_places shape plan) run) ≤ bit_words shape.n_blocks =
        few_bits (with_places (bit_places shape plan) run) (once_each (bit_places shape plan) run spare.distinct) (λ at one. elim (one_of_places (bit_places shape plan) run at one) [
          | inl early ↦ passed (places_of plan.writes) at early
          | inr late ↦ bits at late
        ]) in
        omega (arith, split (with_places (places_of plan.writes) run), ap length named, ap length beside, few, spare.room)
      where
        run_bit : (at : ℕ) → IsOneOf (run_places shape first n) at → bit at ≡ true
        run_bit at one =
            let both = run_bits shape is first n at within one in
            and_from (nat_le shape.bitmap at) (nat_lt at shape.chains) (le-leb shape.bitmap at both.0) (lt-ltb at shape.chains both.1)

-- a place that is named is planned
named_planned : (writes : List (ℕ × ℕ)) (at : ℕ) → IsOneOf (places_of writes) at → planned writes at ≡ None → ⊥
named_planned [] at one none = absurd one
named_planned (write ∷ writes) at one none = elim (cases_eq write.0 at) [
  | inl same ↦ (let found : planned (write ∷ writes) at ≡ Some write.1 = grind (arith, nat_tests) in let nothing : ⊥ = cc in nothing)
  | inr apart ↦ elim one [
    | inl here ↦ absurd (apart here)
    | inr later ↦ named_planned writes at later (let e : planned writes at ≡ None = grind (arith, nat_tests) in e)
  ]
]

pub targets_of : (shape : Shape) (most : ℕ) (run : List ℕ) (before now : Plan) → before.writes ≡ [] → Costs shape most run before now → (at : ℕ) → IsOneOf (places_of now.writes) at
    → IsTarget (frame_of shape) (shape_words shape) at
targets_of shape most run before now empty costs at one = elim (costs.beyond at) [
  | inl target ↦ target
  | inr same ↦ absurd (named_planned now.writes at one (same ∙ ap (λ (w : List (ℕ × ℕ)). planned w at) empty))
]
