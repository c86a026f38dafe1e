-- An entry comes in front of the list: the words after each step of an add.
use Rattle.std.proofs.Common.{◌≡◌, ◌≢◌, ◌⊎◌, inl, inr, ℕ, ◌+◌, ◌*◌, ◌^◌, ◌<◌, ◌≤◌, true, false, cond, nat_le, nat_lt, List, [], ◌∷◌, ◌++◌, drop, length, refl, sym, ◌∙◌, subst, arith}
use Rattle.std.proofs.lemmas.Bool.{and_from, le-leb, lt-ltb}
use Rattle.std.proofs.lemmas.List.{length-append}
use Rattle.uw_model.specs.declared.conf.CacheConf.{CacheConf}
use Rattle.uw_model.specs.declared.entries.Entry.{Entry}
use Rattle.uw_model.specs.Entries.{IsCacheConf, IsEntry, IsState, span, span_of}
use Rattle.uw_words.specs.declared.shape.Shape.{Shape}
use Rattle.uw_words.specs.Shapes.{IsShape, shape_words}
use Rattle.uw_words.specs.Texts.{text_words}
use Rattle.uw_words.specs.Plans.{Plan}
use Rattle.uw_words.specs.Parts.{GrewAt, seen}
use Rattle.uw_words.specs.Numbers.{IsNoneOf, IsOneOf}
use Rattle.uw_words.proofs.Growth.{grew_then}
use Rattle.uw_words.proofs.Links.{walk_short}
use Rattle.uw_words.proofs.Numbers.{not_none}
use Rattle.uw_bitmap.specs.Bits.{ChangesRun, is_in_run, is_marked, run_places}
use Rattle.uw_chains.specs.Chains.{item_chain}
use Rattle.uw_chains.proofs.Places.{own_short}
use Rattle.uw_items.specs.Items.{IsRecordPlace, LieInBlocks, field_places, key_places, value_places}
use Rattle.uw_items.proofs.Held.{key_count, value_count, value_within, words_within}
use Rattle.uw_intent.specs.RedoRecord.{IsTarget}
use Rattle.uw_plan.specs.Regions.{frame_of, shape_of}
use Rattle.uw_plan.specs.Plans.{Costs, HasRoomFor, is_bit_place}
use Rattle.uw_plan.specs.Parts.{HoldEntries, HoldsEntry, HoldsParts, Parts}
use Rattle.uw_plan.specs.Agreement.{AgreesAs}
use Rattle.uw_plan.specs.EntrySteps.{GrewInZones, IsNewIn, counted_parts, free_zones, list_zones, listed_parts, record_places, taken_parts, zone_of}
use Rattle.uw_plan.proofs.Shapes.{IsShapeOf, entry_lies}
use Rattle.uw_plan.proofs.Zones.{StaysOff, chain_stays, entries_stay, entry_stays, zones_off}
use Rattle.uw_plan.proofs.Steps.{bit_zones, run_bits, run_stays}
use Rattle.uw_plan.proofs.Joining.{marked}
use Rattle.uw_plan.proofs.Recording.{chain_keeps, entries_keep, record_where, record_zone, record_zones, recorded}
use Rattle.uw_plan.proofs.Costing.{costs_of}
use Rattle.uw_plan.proofs.Dropping.{beside_bits, one_of_append, target_of}
use Rattle.uw_plan.proofs.Adding.{free_apart, free_item_new, free_item_short, free_item_unchained, joined_agrees, new_parts, some_free}

-- what follows from some list with which the words agree and in front of which the entry may come
pub with_added : (conf : CacheConf) (shape : Shape) → shape ≡ shape_of conf → (reader : ℕ → ℕ) (e : Entry) {P : Type 0}
    → (items : List ℕ) × (list : List Entry) × (AgreesAs reader (shape_of conf) conf items list × IsState conf (e ∷ list))
    → ((items : List ℕ) (list : List Entry) → AgreesAs reader shape conf items list → IsState conf (e ∷ list) → P) → P
with_added conf shape same reader e (items, list, (agrees, state)) follows =
    follows items list (subst (λ (s : Shape). AgreesAs reader s conf items list) (sym same) agrees) state

pub as_bits : (shape : Shape) (words : List ℕ) (before now : Plan) (first : ℕ) {n m : ℕ} → n ≡ m → ChangesRun true (is_marked (seen before words) shape) (is_marked (seen now words) shape) first n
    → ChangesRun true (is_marked (seen before words) shape) (is_marked (seen now words) shape) first m
as_bits shape words before now first same bits = subst (ChangesRun true (is_marked (seen before words) shape) (is_marked (seen now words) shape) first) same bits

pub as_run : (shape : Shape) (before now : Plan) (first : ℕ) {n m : ℕ} → n ≡ m → GrewAt (run_places shape first n) before now → GrewAt (run_places shape first m) before now
as_run shape before now first same grew = subst (λ (n : ℕ). GrewAt (run_places shape first n) before now) same grew

pub as_room : (conf : CacheConf) (shape : Shape) → shape ≡ shape_of conf → (plan : Plan) (most first len : ℕ) → HasRoomFor plan most (run_places (shape_of conf) first (span_of conf len))
    → HasRoomFor plan most (run_places shape first (span_of conf len))
as_room conf shape same plan most first len room = subst (λ (s : Shape). HasRoomFor plan most (run_places s first (span_of conf len))) (sym same) room

-- how many words a record takes, and where they may go
pub record_count : (shape : Shape) (item key first value : ℕ) → length (record_places shape item key first value) ≡ 5 + text_words key + text_words value
record_count shape item key first value =
    omega (
      arith,
      length-append (key_places shape item key) (field_places shape item ++ value_places shape first value),
      length-append (field_places shape item) (value_places shape first value),
      key_count shape item key,
      value_count shape first value,
    )

high_target : (shape : Shape) → IsShape shape → (at : ℕ) → 12 ≤ at → at < shape.intent → IsTarget (frame_of shape) (shape_words shape) at
high_target shape is at high low = record {
  within = omega (arith, low);
  beyond = record { outside = inl low; gate = λ same. omega (arith, same, high); used = λ same. omega (arith, same, high) };
}

pub record_target : (shape : Shape) → IsShape shape → (item first value at : ℕ) → item < shape.n_items → LieInBlocks shape first value
    → IsRecordPlace shape item at ⊎ IsOneOf (value_places shape first value) at → IsTarget (frame_of shape) (shape_words shape) at
record_target shape is item first value at short lies (inl own) =
    let there = words_within shape item at is short own in
    high_target shape is at (omega (arith, there.0, is.items, is.chains, is.bitmap)) (omega (arith, there.1, is.intent))
record_target shape is item first value at short lies (inr one) =
    let there = value_within shape first value at is lies one in
    high_target shape is at (omega (arith, there.0, is.blocks, is.items, is.chains, is.bitmap)) there.1

-- the steps of an add, one after the other
module _ (conf : CacheConf) (shape : Shape) (of : IsShapeOf conf shape) (words : List ℕ) (before : Plan) (items : List ℕ) (list : List Entry) (e : Entry)
    (agrees : AgreesAs (seen before words) shape conf items list) (state : IsState conf (e ∷ list)) where
  abbrev pub blocks : ℕ
  blocks = span conf e.value

  pub entry : IsEntry conf e
  entry = state.apart.0

  pub run_within : e.first + blocks ≤ shape.n_blocks
  run_within = omega (arith, entry.blocks, of.blocks)

  pub key_fits : length e.key ≤ 8 * shape.key_words
  key_fits = omega (arith, entry.key.1, of.keys)

  all_short : (other : ℕ) → IsOneOf items other → other < shape.n_items
  all_short other one =
      walk_short shape (seen before words) 2 agrees.parts.items (seen before words (shape.head + 6)) agrees.held.recency.walk other (subst (λ (l : List ℕ). IsOneOf l other) (sym agrees.is) one)

  module _ (run : Plan) (bits : ChangesRun true (is_marked (seen before words) shape) (is_marked (seen run words) shape) e.first blocks)
      (ran : GrewAt (run_places shape e.first blocks) before run) where
    abbrev pub run_parts : Parts
    run_parts = record agrees.parts { marked = λ block. cond (is_in_run e.first blocks block) true (agrees.parts.marked block) }

    pub run_held : HoldsParts (seen run words) shape run_parts
    run_held = marked shape of.is words before run e.first blocks run_within bits ran agrees.parts agrees.held

    run_off : StaysOff shape bit_zones (seen before words) (seen run words)
    run_off = run_stays shape of.is words before run e.first blocks run_within ran

    pub run_free : run_parts.free ≢ []
    run_free empty = some_free conf shape of (seen before words) items list agrees e state empty

    module _ (taken : Plan) (item : ℕ) (first_free : (parts : Parts) → HoldsParts (seen run words) shape parts → parts.free ≡ item ∷ drop 1 parts.free)
        (takes : (parts : Parts) → HoldsParts (seen run words) shape parts → HoldsParts (seen taken words) shape (taken_parts parts)) (took_zones : GrewInZones shape free_zones 1 run taken) where
      free_is : agrees.parts.free ≡ item ∷ drop 1 agrees.parts.free
      free_is = first_free run_parts run_held

      pub item_low : item < shape.n_items
      item_low = free_item_short conf shape of (seen before words) items list agrees e state item (drop 1 agrees.parts.free) free_is 0

      unchained : (chain : ℕ) → chain < shape.n_chains → IsNoneOf (agrees.parts.chains chain) item
      unchained chain few = free_item_unchained conf shape of (seen before words) items list agrees e state item (drop 1 agrees.parts.free) free_is 0 chain few

      taken_off : StaysOff shape free_zones (seen run words) (seen taken words)
      taken_off = zones_off shape free_zones 1 run taken words took_zones

      taken_held : HoldsParts (seen taken words) shape (taken_parts run_parts)
      taken_held = takes run_parts run_held

      module _ (put : Plan) (grew : GrewAt (record_places shape item (length e.key) e.first (length e.value)) taken put) where
        lies : LieInBlocks shape e.first (length e.value)
        lies = entry_lies conf shape of e entry

        pub put_held : HoldsParts (seen put words) shape (taken_parts run_parts)
        put_held = recorded shape of.is words taken put item (length e.key) e.first (length e.value) item_low key_fits lies grew (taken_parts run_parts) taken_held unchained

        abbrev pub own : ℕ
        own = item_chain (seen put words) shape item

        pub put_new : IsNewIn (taken_parts run_parts) own item
        put_new = record {
          recent = free_item_new conf shape of (seen before words) items list agrees e state item (drop 1 agrees.parts.free) free_is 0;
          chained = unchained own (own_short shape of.is (seen put words) item);
          apart = free_apart conf shape of (seen before words) items list agrees e state item (drop 1 agrees.parts.free) free_is 0;
        }

        module _ (listed : Plan)
            (joins : (parts : Parts) → HoldsParts (seen put words) shape parts → IsNewIn parts own item → HoldsParts (seen listed words) shape (listed_parts parts own item))
            (joined_zones : GrewInZones shape list_zones 6 put listed) where
          pub listed_held : HoldsParts (seen listed words) shape (listed_parts (taken_parts run_parts) own item)
          listed_held = joins (taken_parts run_parts) put_held put_new

          pub few_in_use : IsCacheConf conf → seen listed words 9 < 2 ^ 63
          few_in_use is = omega (arith, listed_held.count, agrees.fits.count, state.few, is.items.1)

          listed_off : StaysOff shape list_zones (seen put words) (seen listed words)
          listed_off = zones_off shape list_zones 6 put listed words joined_zones

          module _ (now : Plan)
              (counts : (parts : Parts) → HoldsParts (seen listed words) shape parts → HoldsParts (seen now words) shape (counted_parts parts))
              (counted_zones : GrewInZones shape free_zones 1 listed now) where
            now_off : StaysOff shape free_zones (seen listed words) (seen now words)
            now_off = zones_off shape free_zones 1 listed now words counted_zones

            now_held : HoldsParts (seen now words) shape
                (new_parts conf shape of (seen before words) items list agrees e state item (drop 1 agrees.parts.free) free_is own)
            now_held = counts (listed_parts (taken_parts run_parts) own item) listed_held

            old_items : IsNoneOf items item
            old_items = subst (λ (l : List ℕ). IsNoneOf l item) agrees.is put_new.recent

            now_entries : HoldEntries (seen now words) shape items list
            now_entries =
                let apart = agrees.fits.state.apart in
                let one = entries_stay shape of.is bit_zones (seen before words) (seen run words) run_off conf of items list all_short apart refl refl refl refl refl agrees.entries in
                let two = entries_stay shape of.is free_zones (seen run words) (seen taken words) taken_off conf of items list all_short apart refl refl refl refl refl one in
                let three = entries_keep conf shape of words taken put item e item_low key_fits entry grew items list all_short old_items apart state.apart.1 two in
                let four = entries_stay shape of.is list_zones (seen put words) (seen listed words) listed_off conf of items list all_short apart refl refl refl refl refl three in
                entries_stay shape of.is free_zones (seen listed words) (seen now words) now_off conf of items list all_short apart refl refl refl refl refl four

            now_entry : HoldsEntry (seen put words) shape item e → HoldsEntry (seen now words) shape item e
            now_entry holds =
                entry_stays shape of.is free_zones (seen listed words) (seen now words) now_off conf of item e item_low entry refl refl refl refl refl
                (entry_stays shape of.is list_zones (seen put words) (seen listed words) listed_off conf of item e item_low entry refl refl refl refl refl holds)

            later_chain : (other : ℕ) → other < shape.n_items → item_chain (seen now words) shape other ≡ item_chain (seen put words) shape other
            later_chain other low =
                chain_stays shape of.is free_zones (seen listed words) (seen now words) now_off other low refl
                ∙ chain_stays shape of.is list_zones (seen put words) (seen listed words) listed_off other low refl

            now_chain : (other : ℕ) → IsOneOf items other → item_chain (seen now words) shape other ≡ item_chain (seen before words) shape other
            now_chain other one =
                let low : other < shape.n_items = all_short other one in
                let apart : other ≢ item = λ same. not_none items item (subst (IsOneOf items) same one) old_items in
                later_chain other low ∙ chain_keeps conf shape of words taken put item e item_low key_fits entry grew other apart low
                ∙ chain_stays shape of.is free_zones (seen run words) (seen taken words) taken_off other low refl
                ∙ chain_stays shape of.is bit_zones (seen before words) (seen run words) run_off other low refl

            pub added : HoldsEntry (seen put words) shape item e → AgreesAs (seen now words) shape conf (item ∷ items) (e ∷ list)
            added holds =
                joined_agrees conf shape of (seen before words) items list agrees e state item (drop 1 agrees.parts.free) free_is own (seen now words) now_held (now_entry holds) now_entries
                (later_chain item item_low) now_chain

            others_planned : List ℕ
            others_planned = took_zones.places ++ (record_places shape item (length e.key) e.first (length e.value) ++ (joined_zones.places ++ counted_zones.places))

            IsOther : ℕ → Type 0
            IsOther at = (is_bit_place shape at ≡ false) × IsTarget (frame_of shape) (shape_words shape) at

            of_free : (at : ℕ) → free_zones (zone_of shape at) ≡ true → IsOther at
            unfolding IsOther
            of_free at zone = (beside_bits shape of.is free_zones at zone refl, target_of shape of.is free_zones at zone refl refl refl)

            of_lists : (at : ℕ) → list_zones (zone_of shape at) ≡ true → IsOther at
            unfolding IsOther
            of_lists at zone = (beside_bits shape of.is list_zones at zone refl, target_of shape of.is list_zones at zone refl refl refl)

            of_record : (at : ℕ) → IsOneOf (record_places shape item (length e.key) e.first (length e.value)) at → IsOther at
            unfolding IsOther
            of_record at one =
                let there = record_where shape of.is words taken put item (length e.key) e.first (length e.value) item_low key_fits lies grew at one in (
                  beside_bits shape of.is record_zones at
                      (record_zone shape of.is words taken put item (length e.key) e.first (length e.value) item_low key_fits lies grew at there) refl,
                  record_target shape of.is item e.first (length e.value) at item_low lies there,
                )

            others_own : (at : ℕ) → IsOneOf others_planned at → IsOther at
            unfolding others_planned
            others_own at one = elim (one_of_append took_zones.places (record_places shape item (length e.key) e.first (length e.value) ++ (joined_zones.places ++ counted_zones.places)) at one) [
              | inl early ↦ of_free at (took_zones.own at early)
              | inr later ↦ elim (one_of_append (record_places shape item (length e.key) e.first (length e.value)) (joined_zones.places ++ counted_zones.places) at later) [
                | inl of_item ↦ of_record at of_item
                | inr last ↦ elim (one_of_append joined_zones.places counted_zones.places at last) [
                  | inl of_list ↦ of_lists at (joined_zones.own at of_list)
                  | inr counted ↦ of_free at (counted_zones.own at counted)
                ]
              ]
            ]

            pub added_costs : Costs shape (32 + text_words (length e.key) + text_words (length e.value)) (run_places shape e.first blocks) before now
            unfolding IsOther others_planned
            added_costs =
                costs_of shape (32 + text_words (length e.key) + text_words (length e.value)) (run_places shape e.first blocks) others_planned before run now ran
                (grew_then took_zones.places (record_places shape item (length e.key) e.first (length e.value) ++ (joined_zones.places ++ counted_zones.places)) run taken now took_zones.grew
                (grew_then (record_places shape item (length e.key) e.first (length e.value)) (joined_zones.places ++ counted_zones.places) taken put now grew
                (grew_then joined_zones.places counted_zones.places put listed now joined_zones.grew counted_zones.grew)))
                (λ at one. is_bit at (run_bits shape of.is e.first blocks at run_within one))
                (λ at one. (others_own at one).0)
                (omega (
                  arith,
                  length-append took_zones.places (record_places shape item (length e.key) e.first (length e.value) ++ (joined_zones.places ++ counted_zones.places)),
                  length-append (record_places shape item (length e.key) e.first (length e.value)) (joined_zones.places ++ counted_zones.places),
                  length-append joined_zones.places counted_zones.places,
                  record_count shape item (length e.key) e.first (length e.value),
                  took_zones.few,
                  joined_zones.few,
                  counted_zones.few,
                ))
                (λ at one. bit_target at (run_bits shape of.is e.first blocks at run_within one))
                (λ at one. (others_own at one).1)
              where
                is_bit : (at : ℕ) → (shape.bitmap ≤ at) × (at < shape.chains) → is_bit_place shape at ≡ true
                is_bit at both = and_from (nat_le shape.bitmap at) (nat_lt at shape.chains) (le-leb shape.bitmap at both.0) (lt-ltb at shape.chains both.1)

                bit_target : (at : ℕ) → (shape.bitmap ≤ at) × (at < shape.chains) → IsTarget (frame_of shape) (shape_words shape) at
                bit_target at both =
                    high_target shape of.is at (omega (arith, both.0, of.is.bitmap)) (omega (arith, both.1, of.is.items, of.is.blocks, of.is.intent))
