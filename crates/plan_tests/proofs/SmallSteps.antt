-- Entries are added to the small cache, and one is dropped.
use Rattle.std.proofs.Common.{◌≡◌, inl, inr, ℕ, ◌+◌, ◌*◌, ◌≤◌, List, [], ◌∷◌, get_or, length, refl, sym, ap, ◌∙◌, subst, arith}
use Rattle.std.proofs.lemmas.List.{length-map}
use Rattle.uw_model.specs.declared.conf.CacheConf.{CacheConf}
use Rattle.uw_model.specs.declared.entries.Entry.{Entry}
use Rattle.uw_model.specs.Entries.{IsApart, IsCacheConf, IsEntry, IsState, span_of}
use Rattle.uw_words.specs.Plans.{Plan, region, through}
use Rattle.uw_words.specs.Parts.{places_of, seen}
use Rattle.uw_words.proofs.Growth.{places-le-length}
use Rattle.uw_bitmap.specs.Bits.{run_places}
use Rattle.uw_recency.specs.Recency.{AreLinkedBack}
use Rattle.uw_plan.specs.Agreement.{Agrees, AgreesAs}
use Rattle.uw_plan.specs.Plans.{HasRoomFor, IsInUse, IsPaired, item_run_places}
use Rattle.uw_plan.specs.Regions.{shape_of}
use Rattle.uw_plan.proofs.OneByOne.{run_of}
use Rattle.plan_tests.specs.SmallSteps.{first_entry, second_entry, small_conf, third_entry}

pub small_is : IsCacheConf small_conf
small_is = record {
  items = (omega arith, omega arith);
  blocksize = (omega arith, omega arith);
  words = refl;
  blocks = (omega arith, omega arith);
  keysize = (omega arith, omega arith);
  chains = (omega arith, omega arith);
  no_bitmap = λ none. refl;
}

-- the words that are seen agree with a list
abbrev pub Sees : CacheConf → List ℕ → Plan → List Entry → Type 0
Sees conf words plan list = (items : List ℕ) × AgreesAs (seen plan words) (shape_of conf) conf items list

-- what is promised where an entry is added
abbrev pub Adds : CacheConf → List ℕ → (before now : Plan) → Entry → Type 0
Adds conf words before now entry =
    (items : List ℕ) (list : List Entry) → AgreesAs (seen before words) (shape_of conf) conf items list → (e : Entry) → e ≡ entry → IsState conf (e ∷ list)
    → (item : ℕ) × AgreesAs (seen now words) (shape_of conf) conf (item ∷ items) (e ∷ list)

first_is : IsEntry small_conf first_entry
first_is = record { key = (omega arith, omega arith); value = omega arith; blocks = omega arith }

second_is : IsEntry small_conf second_entry
second_is = record { key = (omega arith, omega arith); value = omega arith; blocks = omega arith }

third_is : IsEntry small_conf third_entry
third_is = record { key = (omega arith, omega arith); value = omega arith; blocks = omega arith }

second_apart : IsApart small_conf second_entry first_entry
second_apart = record {
  keys = λ same. omega (arith, ap (λ (l : List ℕ). get_or l 0 0) same);
  blocks = λ block one two. omega (arith, one.0, one.1, two.0, two.1);
}

third_apart : IsApart small_conf third_entry first_entry
third_apart = record {
  keys = λ same. omega (arith, ap (λ (l : List ℕ). get_or l 0 0) same);
  blocks = λ block one two. omega (arith, one.0, one.1, two.0, two.1);
}

third_beside : IsApart small_conf third_entry second_entry
third_beside = record {
  keys = λ same. omega (arith, ap (λ (l : List ℕ). get_or l 0 0) same);
  blocks = λ block one two. omega (arith, one.0, one.1, two.0, two.1);
}

one_state : IsState small_conf (first_entry ∷ [])
one_state = record { few = omega arith; apart = (first_is, tt, tt) }

two_state : IsState small_conf (second_entry ∷ first_entry ∷ [])
two_state = record { few = omega arith; apart = (second_is, (second_apart, tt), (first_is, tt, tt)) }

three_state : IsState small_conf (third_entry ∷ second_entry ∷ first_entry ∷ [])
three_state = record { few = omega arith; apart = (third_is, (third_beside, (third_apart, tt)), (second_is, (second_apart, tt), (first_is, tt, tt))) }

-- of three entries the last one's item is that of header word 7
last_in_use : (reader : ℕ → ℕ) (items : List ℕ) → AgreesAs reader (shape_of small_conf) small_conf items (third_entry ∷ second_entry ∷ first_entry ∷ []) → reader 7 ≡ 21
    → IsPaired items (third_entry ∷ second_entry ∷ first_entry ∷ []) 0 first_entry
last_in_use reader [] agrees last = absurd agrees.entries
last_in_use reader (x ∷ []) agrees last = absurd agrees.entries.1
last_in_use reader (x ∷ y ∷ []) agrees last = absurd agrees.entries.1.1
last_in_use reader (x ∷ y ∷ z ∷ []) agrees last =
    let back : AreLinkedBack reader (shape_of small_conf) 0 (x ∷ y ∷ z ∷ []) = subst (AreLinkedBack reader (shape_of small_conf) 0) agrees.is agrees.held.recency.back in
    let link : reader 7 ≡ 21 + z * 9 = back.1.1.1 in
    inr (inr (inl ((let e : z ≡ 0 = omega (arith, link, last) in e), refl)))
last_in_use reader (x ∷ y ∷ z ∷ w ∷ items) agrees last = absurd agrees.entries.1.1.1

roomy : (plan : Plan) (run : List ℕ) (most count : ℕ) → run ≡ 16 ∷ [] → length plan.writes ≡ count → plan.room ≡ 115 → count + 1 + most ≤ 115 → HasRoomFor plan most run
roomy plan run most count one many room few =
    subst (HasRoomFor plan most) (sym one)
    (omega (arith, places-le-length (places_of plan.writes) (16 ∷ []), length-map plan.writes (λ (write : ℕ × ℕ). write.0), many, room, few))

module _ (conf : CacheConf) (is : conf ≡ small_conf) (words : List ℕ) where
  as_state : (list : List Entry) → IsState small_conf list → IsState conf list
  as_state list state = subst (λ (c : CacheConf). IsState c list) (sym is) state

  -- a blank region is seen where nothing is planned
  blank_seen : (plan : Plan) → plan.writes ≡ [] → Agrees conf words [] → Sees conf words plan []
  blank_seen plan empty agrees =
      (agrees.items, subst (λ (w : List (ℕ × ℕ)). AgreesAs (through w (region words)) (shape_of conf) conf agrees.items []) (sym empty) agrees.agrees)

  added : (before now : Plan) (list : List Entry) (e : Entry) → Sees conf words before list → IsState small_conf (e ∷ list) → Adds conf words before now e → Sees conf words now (e ∷ list)
  added before now list e sees state adds =
      let more = adds sees.0 list sees.1 e refl (as_state (e ∷ list) state) in (more.0 ∷ sees.0, more.1)

  may_add : (plan : Plan) (list : List Entry) (e : Entry) → Sees conf words plan list → IsState small_conf (e ∷ list)
      → (items : List ℕ) × (l : List Entry) × (AgreesAs (seen plan words) (shape_of conf) conf items l × IsState conf (e ∷ l))
  may_add plan list e sees state = (sees.0, list, (sees.1, as_state (e ∷ list) state))

  -- each of the entries may be added, where the ones before it were
  module _ (one : Plan) (empty : one.writes ≡ []) (blank : Agrees conf words []) where
    pub may_first : (items : List ℕ) × (l : List Entry) × (AgreesAs (seen one words) (shape_of conf) conf items l × IsState conf (first_entry ∷ l))
    may_first = may_add one [] first_entry (blank_seen one empty blank) one_state

    module _ (two : Plan) (first : Adds conf words one two first_entry) where
      abbrev sees_one : Sees conf words two (first_entry ∷ [])
      sees_one = added one two [] first_entry (blank_seen one empty blank) one_state first

      pub may_second : (items : List ℕ) × (l : List Entry) × (AgreesAs (seen two words) (shape_of conf) conf items l × IsState conf (second_entry ∷ l))
      may_second = may_add two (first_entry ∷ []) second_entry sees_one two_state

      module _ (three : Plan) (second : Adds conf words two three second_entry) where
        abbrev sees_two : Sees conf words three (second_entry ∷ first_entry ∷ [])
        sees_two = added two three (first_entry ∷ []) second_entry sees_one two_state second

        pub may_third : (items : List ℕ) × (l : List Entry) × (AgreesAs (seen three words) (shape_of conf) conf items l × IsState conf (third_entry ∷ l))
        may_third = may_add three (second_entry ∷ first_entry ∷ []) third_entry sees_two three_state

        module _ (four : Plan) (third : Adds conf words three four third_entry) (last : seen four words 7 ≡ 21) where
          abbrev sees_three : Sees conf words four (third_entry ∷ second_entry ∷ first_entry ∷ [])
          sees_three = added three four (second_entry ∷ first_entry ∷ []) third_entry sees_two three_state third

          paired : IsPaired sees_three.0 (third_entry ∷ second_entry ∷ first_entry ∷ []) 0 first_entry
          paired =
              last_in_use (seen four words) sees_three.0
              (subst (λ (c : CacheConf). AgreesAs (seen four words) (shape_of c) c sees_three.0 (third_entry ∷ second_entry ∷ first_entry ∷ [])) is sees_three.1) last

          pub first_in_use : IsInUse (seen four words) (shape_of conf) conf 0
          first_in_use = (sees_three.0, third_entry ∷ second_entry ∷ first_entry ∷ [], first_entry, (sees_three.1, paired))

          pub first_room : length four.writes ≡ 37 → four.room ≡ 115 → HasRoomFor four 16 (item_run_places (seen four words) (shape_of conf) conf 0)
          first_room many room =
              let conf_is : IsCacheConf conf = subst IsCacheConf (sym is) small_is in
              let run : item_run_places (seen four words) (shape_of conf) conf 0 ≡ run_places (shape_of conf) 0 (span_of conf 3) =
              run_of conf conf_is words (seen four words) sees_three.0 (third_entry ∷ second_entry ∷ first_entry ∷ []) sees_three.1 0 first_entry paired in
              roomy four (item_run_places (seen four words) (shape_of conf) conf 0) 16 37 (run ∙ ap (λ (c : CacheConf). run_places (shape_of c) 0 (span_of c 3)) is) many room (omega arith)

  -- there is room for one more entry of a block
  pub room_for_one : (plan : Plan) (first bytes most count : ℕ) → run_places (shape_of small_conf) first (span_of small_conf bytes) ≡ 16 ∷ [] → length plan.writes ≡ count → plan.room ≡ 115
      → count + 1 + most ≤ 115 → HasRoomFor plan most (run_places (shape_of conf) first (span_of conf bytes))
  room_for_one plan first bytes most count one many room few =
      roomy plan (run_places (shape_of conf) first (span_of conf bytes)) most count (ap (λ (c : CacheConf). run_places (shape_of c) first (span_of c bytes)) is ∙ one) many room few
