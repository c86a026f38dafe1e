-- What the steps of a drop and of an add do to the parts of a region.
use Rattle.std.proofs.Common.{◌≡◌, ◌≢◌, inl, inr, ℕ, suc, ◌+◌, ◌-◌, ◌/◌, ◌<◌, ◌≤◌, ◌==◌, ◌||◌, Bool, true, false, cond, List, [], ◌∷◌, length, refl, sym, ap, ◌∙◌, subst, arith}
use Rattle.std.proofs.lemmas.Bool.{cases_Bool}
use Rattle.std.proofs.lemmas.Bool.Decides.{nat_tests}
use Rattle.uw_model.specs.declared.conf.CacheConf.{CacheConf}
use Rattle.uw_model.specs.Entries.{span_of}
use Rattle.uw_words.specs.declared.shape.Shape.{Shape}
use Rattle.uw_words.specs.Shapes.{IsShape}
use Rattle.uw_words.specs.Plans.{Plan, region}
use Rattle.uw_words.specs.Parts.{GrewAt, places_of, seen, with_places}
use Rattle.uw_words.specs.Numbers.{IsNoneOf, IsOneOf, places_from, without_number}
use Rattle.uw_words.specs.Walks.{link_of}
use Rattle.uw_words.proofs.Growth.{grew_put, in_row, places-le-length, put_on, read_grown, read_put}
use Rattle.uw_words.proofs.Links.{fields_apart, link_above, same_item, walk_short}
use Rattle.uw_words.proofs.Numbers.{not_none}
use Rattle.uw_bitmap.specs.Bits.{ChangesRun, is_in_run, is_marked, run_places, word_of}
use Rattle.uw_recency.specs.Recency.{IsRecency, IsRecencyPlace, out_places}
use Rattle.uw_recency.proofs.Lists.{depends, out_own}
use Rattle.uw_chains.specs.Chains.{IsChains, IsChainsPlace, unlink_places}
use Rattle.uw_chains.proofs.Places.{unlink_own}
use Rattle.uw_items.specs.FreeList.{IsFreeList, IsFreePlace, give_places}
use Rattle.uw_items.proofs.FreeItems.{free_depends}
use Rattle.uw_plan.specs.Parts.{HoldsParts, Parts}
use Rattle.uw_plan.specs.EntrySteps.{unmarked_parts, zone_of}
use Rattle.uw_plan.proofs.Zones.{StaysOff, bit_zone, chain_head_zone, chains_stay, field_zone, free_stays, grown_off, head_stays, mark_stays, none_of, recency_stays, word_stays}

-- the zones that each call writes to
abbrev pub bit_zones : ℕ → Bool
bit_zones zone = zone == 16

abbrev pub recency_zones : ℕ → Bool
recency_zones zone = zone == 6 || zone == 7 || zone == 20 || zone == 21

abbrev pub chain_zones : ℕ → Bool
chain_zones zone = zone == 17 || zone == 19

abbrev pub give_zones : ℕ → Bool
give_zones zone = zone == 8 || zone == 21

abbrev pub count_zones : ℕ → Bool
count_zones zone = zone == 9

-- as many places as an overlay still can name
length-places : (writes : List (ℕ × ℕ)) → length (places_of writes) ≡ length writes
length-places [] = refl
length-places (write ∷ writes) = ap suc (length-places writes)

pub named_after : (places : List ℕ) (before now : Plan) → GrewAt places before now → length now.writes ≤ length before.writes + length places
named_after places before now grew =
    let named : length (places_of now.writes) ≡ length (with_places (places_of before.writes) places) = ap length grew.named in
    omega (arith, named, places-le-length (places_of before.writes) places, length-places now.writes, length-places before.writes)

pub spare_after : (places : List ℕ) (most : ℕ) (before now : Plan) → GrewAt places before now → length before.writes + (length places + most) ≤ before.room
    → length now.writes + most ≤ now.room
spare_after places most before now grew spare = omega (arith, named_after places before now grew, spare, grew.room)

-- behind a run that was planned, what there is room for beside it
pub spare_behind : (run : List ℕ) (most : ℕ) (before now : Plan) → GrewAt run before now → length (with_places (places_of before.writes) run) + most ≤ before.room
    → length now.writes + most ≤ now.room
spare_behind run most before now grew room =
    let named : length (places_of now.writes) ≡ length (with_places (places_of before.writes) run) = ap length grew.named in
    omega (arith, named, length-places now.writes, room, grew.room)

-- what is said of an item's own words is said of the fields that are read from them, and back
pub by_fields : (conf : CacheConf) {word first bytes len n : ℕ} → word ≡ first → bytes ≡ len → n ≡ span_of conf len → (P : ℕ → ℕ → Type 0) → P word (span_of conf bytes) → P first n
by_fields conf {word} {first} {bytes} {len} {n} same_first same_length is_span P of_words =
    subst (P first) (ap (span_of conf) same_length ∙ sym is_span) (subst (λ (f : ℕ). P f (span_of conf bytes)) same_first of_words)

pub of_fields : (conf : CacheConf) {word first bytes len n : ℕ} → word ≡ first → bytes ≡ len → n ≡ span_of conf len → (P : ℕ → ℕ → Type 0) → P first n → P word (span_of conf bytes)
of_fields conf {word} {first} {bytes} {len} {n} same_first same_length is_span P held =
    subst (λ (f : ℕ). P f (span_of conf bytes)) (sym same_first) (subst (P first) (is_span ∙ ap (span_of conf) (sym same_length)) held)

module _ (shape : Shape) (is : IsShape shape) where
  -- the zones of places
  pub run_bits : (first n at : ℕ) → first + n ≤ shape.n_blocks → IsOneOf (run_places shape first n) at → (shape.bitmap ≤ at) × (at < shape.chains)
  run_bits first n at within one = elim (cases_Bool (n == 0)) [
    | inl none ↦ absurd (subst (λ (places : List ℕ). IsOneOf places at) (let empty : run_places shape first n ≡ [] = rw none refl in empty) one)
    | inr some ↦
        let places : run_places shape first n ≡ places_from (word_of shape first) ((first + n - 1) / 64 + 1 - first / 64) = rw some refl in
        let row = in_row (word_of shape first) ((first + n - 1) / 64 + 1 - first / 64) at (subst (λ (places : List ℕ). IsOneOf places at) places one) in
        let many : n ≢ 0 = grind (arith, nat_tests) in
        (omega (arith, row), omega (arith, row, is.chains, within, many))
  ]

  pub run_zone : (first n at : ℕ) → first + n ≤ shape.n_blocks → IsOneOf (run_places shape first n) at → zone_of shape at ≡ 16
  run_zone first n at within one = let bits = run_bits first n at within one in bit_zone shape is at bits.0 bits.1

  yes_at : (zones : ℕ → Bool) (at zone : ℕ) → zone_of shape at ≡ zone → zones zone ≡ true → zones (zone_of shape at) ≡ true
  yes_at zones at zone here passes = ap zones here ∙ passes

  head_at : (zones : ℕ → Bool) (at k : ℕ) → at ≡ shape.head + k → zone_of shape k ≡ k → zones k ≡ true → zones (zone_of shape at) ≡ true
  head_at zones at k here zone passes = yes_at zones at k (ap (zone_of shape) (let e : at ≡ k = omega (arith, here, is.head) in e) ∙ zone) passes

  field_at : (zones : ℕ → Bool) (at item field : ℕ) → at ≡ link_of shape item + field → item < shape.n_items → field < 6 → zones (19 + field) ≡ true → zones (zone_of shape at) ≡ true
  field_at zones at item field here short small passes = yes_at zones at (19 + field) (ap (zone_of shape) here ∙ field_zone shape is item field short small) passes

  pub recency_own : (zones : ℕ → Bool) (items : List ℕ) (at : ℕ) → zones 6 ≡ true → zones 7 ≡ true → zones 20 ≡ true → zones 21 ≡ true
      → ((item : ℕ) → IsOneOf items item → item < shape.n_items) → IsRecencyPlace shape items at → zones (zone_of shape at) ≡ true
  recency_own zones items at six seven one two short (inl head) = head_at zones at 6 head refl six
  recency_own zones items at six seven one two short (inr (inl head)) = head_at zones at 7 head refl seven
  recency_own zones items at six seven one two short (inr (inr (item, (among, inl field)))) = field_at zones at item 1 field (short item among) (omega arith) one
  recency_own zones items at six seven one two short (inr (inr (item, (among, inr field)))) = field_at zones at item 2 field (short item among) (omega arith) two

  pub chains_own : (zones : ℕ → Bool) (chains : ℕ → List ℕ) (at : ℕ) → zones 17 ≡ true → zones 19 ≡ true
      → ((chain item : ℕ) → chain < shape.n_chains → IsOneOf (chains chain) item → item < shape.n_items) → IsChainsPlace shape chains at → zones (zone_of shape at) ≡ true
  chains_own zones chains at heads links short (inl (chain, (few, head))) = yes_at zones at 17 (ap (zone_of shape) head ∙ chain_head_zone shape is chain few) heads
  chains_own zones chains at heads links short (inr (item, ((chain, (few, among)), link))) =
      field_at zones at item 0 (let e : at ≡ link_of shape item + 0 = omega (arith, link) in e) (short chain item few among) (omega arith) links

  pub give_own : (zones : ℕ → Bool) (item at : ℕ) → zones 8 ≡ true → zones 21 ≡ true → item < shape.n_items → IsOneOf (give_places shape item) at → zones (zone_of shape at) ≡ true
  give_own zones item at eight two short (inl field) = field_at zones at item 2 (sym field) short (omega arith) two
  give_own zones item at eight two short (inr (inl head)) = head_at zones at 8 (sym head) refl eight
  give_own zones item at eight two short (inr (inr none)) = absurd none

  pub count_own : (zones : ℕ → Bool) (at : ℕ) → zones 9 ≡ true → IsOneOf ((shape.head + 9) ∷ []) at → zones (zone_of shape at) ≡ true
  count_own zones at nine (inl head) = head_at zones at 9 (sym head) refl nine
  count_own zones at nine (inr none) = absurd none

  -- a word of the free list is none of the recency list, where no free item is on it
  pub free_off_recency : (items free : List ℕ) (at : ℕ) → ((item : ℕ) → IsOneOf items item → item < shape.n_items) → ((other : ℕ) → IsOneOf free other → IsNoneOf items other)
      → IsFreePlace shape free at → IsRecencyPlace shape items at → ⊥
  free_off_recency items free at short apart (inl head) (inl other) = omega (arith, head, other)
  free_off_recency items free at short apart (inl head) (inr (inl other)) = omega (arith, head, other)
  free_off_recency items free at short apart (inl head) (inr (inr (item, (among, inl field)))) = omega (arith, head, field, is.head, link_above shape is item)
  free_off_recency items free at short apart (inl head) (inr (inr (item, (among, inr field)))) = omega (arith, head, field, is.head, link_above shape is item)
  free_off_recency items free at short apart (inr (one, (of_free, field))) (inl other) = omega (arith, other, field, is.head, link_above shape is one)
  free_off_recency items free at short apart (inr (one, (of_free, field))) (inr (inl other)) = omega (arith, other, field, is.head, link_above shape is one)
  free_off_recency items free at short apart (inr (one, (of_free, field))) (inr (inr (item, (among, inl other)))) =
      fields_apart shape is one item 2 1 (omega arith) (omega arith) (omega arith) (sym field ∙ other)
  free_off_recency items free at short apart (inr (one, (of_free, field))) (inr (inr (item, (among, inr other)))) =
      let same : one ≡ item = same_item shape is one item 2 2 (omega (arith, is.stride)) (omega (arith, is.stride)) (sym field ∙ other) in
      not_none items item among (subst (IsNoneOf items) same (apart one of_free))

  module _ (words : List ℕ) (before now : Plan) where
    recent_short : (items : List ℕ) → IsRecency (seen before words) shape items → (item : ℕ) → IsOneOf items item → item < shape.n_items
    recent_short items held item one = walk_short shape (seen before words) 2 items (seen before words (shape.head + 6)) held.walk item one

    chained_short : (chains : ℕ → List ℕ) → IsChains (seen before words) shape chains → (chain item : ℕ) → chain < shape.n_chains → IsOneOf (chains chain) item → item < shape.n_items
    chained_short chains held chain item few one =
        walk_short shape (seen before words) 0 (chains chain) (seen before words (shape.chains + chain)) (held.walk chain few) item one

    -- a run is unmarked
    pub run_stays : (first n : ℕ) → first + n ≤ shape.n_blocks → GrewAt (run_places shape first n) before now → StaysOff shape bit_zones (seen before words) (seen now words)
    run_stays first n within grew =
        grown_off shape bit_zones (run_places shape first n) before now words grew (λ at one. yes_at bit_zones at 16 (run_zone first n at within one) refl)

    pub unmarked : (first n : ℕ) → first + n ≤ shape.n_blocks → ChangesRun false (is_marked (seen before words) shape) (is_marked (seen now words) shape) first n
        → GrewAt (run_places shape first n) before now → (parts : Parts) → HoldsParts (seen before words) shape parts → HoldsParts (seen now words) shape (unmarked_parts parts first n)
    unmarked first n within bits grew parts held =
        let off : StaysOff shape bit_zones (seen before words) (seen now words) = run_stays first n within grew in
        record {
          head = head_stays shape is bit_zones (seen before words) (seen now words) off refl held.head;
          count = word_stays shape is bit_zones (seen before words) (seen now words) off 9 9 (omega (arith, is.head)) refl refl ∙ held.count;
          recency = recency_stays shape is bit_zones (seen before words) (seen now words) off parts.items refl refl refl refl held.recency;
          chains = chains_stay shape is bit_zones (seen before words) (seen now words) off parts.chains refl refl refl held.chains;
          free = free_stays shape is bit_zones (seen before words) (seen now words) off parts.free refl refl held.free;
          bits = λ block short. bits block ∙ ap (cond (is_in_run first n block) false) (held.bits block short);
        }

    -- an item leaves the recency list
    pub out_stays : (items : List ℕ) (item : ℕ) → IsRecency (seen before words) shape items → IsOneOf items item → GrewAt (out_places (seen before words) shape item) before now
        → StaysOff shape recency_zones (seen before words) (seen now words)
    out_stays items item held one grew =
        grown_off shape recency_zones (out_places (seen before words) shape item) before now words grew
        (λ at place. recency_own recency_zones items at refl refl refl refl (recent_short items held) (out_own shape (seen before words) items item at is held one place))

    pub taken_out : (parts : Parts) (item : ℕ) → HoldsParts (seen before words) shape parts → IsOneOf parts.items item → ((other : ℕ) → IsOneOf parts.free other → IsNoneOf parts.items other)
        → GrewAt (out_places (seen before words) shape item) before now → IsRecency (seen now words) shape (without_number parts.items item)
        → HoldsParts (seen now words) shape (record parts { items = without_number parts.items item })
    taken_out parts item held one apart grew recency =
        let off : StaysOff shape recency_zones (seen before words) (seen now words) = out_stays parts.items item held.recency one grew in
        record {
          head = head_stays shape is recency_zones (seen before words) (seen now words) off refl held.head;
          count = word_stays shape is recency_zones (seen before words) (seen now words) off 9 9 (omega (arith, is.head)) refl refl ∙ held.count;
          recency = recency;
          chains = chains_stay shape is recency_zones (seen before words) (seen now words) off parts.chains refl refl refl held.chains;
          free = free_depends shape parts.free (seen before words) (seen now words)
              (λ at place. read_grown (out_places (seen before words) shape item) before now words at grew
              (none_of (out_places (seen before words) shape item) at (λ among. free_off_recency parts.items parts.free at (recent_short parts.items held.recency) apart place
              (out_own shape (seen before words) parts.items item at is held.recency one among)))) held.free;
          bits = λ block short. mark_stays shape is recency_zones (seen before words) (seen now words) off block short refl ∙ held.bits block short;
        }

    -- an item leaves its chain
    pub unlink_stays : (chains : ℕ → List ℕ) (item : ℕ) → IsChains (seen before words) shape chains → GrewAt (unlink_places (seen before words) shape chains item) before now
        → StaysOff shape chain_zones (seen before words) (seen now words)
    unlink_stays chains item held grew =
        grown_off shape chain_zones (unlink_places (seen before words) shape chains item) before now words grew
        (λ at place. chains_own chain_zones chains at refl refl (chained_short chains held) (unlink_own shape (seen before words) chains item at is place))

    pub unlinked : (parts : Parts) (others : ℕ → List ℕ) (item : ℕ) → HoldsParts (seen before words) shape parts
        → GrewAt (unlink_places (seen before words) shape parts.chains item) before now → IsChains (seen now words) shape others
        → HoldsParts (seen now words) shape (record parts { chains = others })
    unlinked parts others item held grew chains =
        let off : StaysOff shape chain_zones (seen before words) (seen now words) = unlink_stays parts.chains item held.chains grew in
        record {
          head = head_stays shape is chain_zones (seen before words) (seen now words) off refl held.head;
          count = word_stays shape is chain_zones (seen before words) (seen now words) off 9 9 (omega (arith, is.head)) refl refl ∙ held.count;
          recency = recency_stays shape is chain_zones (seen before words) (seen now words) off parts.items refl refl refl refl held.recency;
          chains = chains;
          free = free_stays shape is chain_zones (seen before words) (seen now words) off parts.free refl refl held.free;
          bits = λ block short. mark_stays shape is chain_zones (seen before words) (seen now words) off block short refl ∙ held.bits block short;
        }

    -- an item is given to the free ones
    pub given : (parts : Parts) (item : ℕ) → HoldsParts (seen before words) shape parts → item < shape.n_items → IsNoneOf parts.items item → GrewAt (give_places shape item) before now
        → IsFreeList (seen now words) shape (item ∷ parts.free) → HoldsParts (seen now words) shape (record parts { free = item ∷ parts.free })
    given parts item held short none grew free =
        let off : StaysOff shape give_zones (seen before words) (seen now words) =
        grown_off shape give_zones (give_places shape item) before now words grew (λ at place. give_own give_zones item at refl refl short place) in
        record {
          head = head_stays shape is give_zones (seen before words) (seen now words) off refl held.head;
          count = word_stays shape is give_zones (seen before words) (seen now words) off 9 9 (omega (arith, is.head)) refl refl ∙ held.count;
          recency = depends shape parts.items (seen before words) (seen now words)
              (λ at place. read_grown (give_places shape item) before now words at grew
              (none_of (give_places shape item) at (λ among. free_off_recency parts.items (item ∷ []) at (recent_short parts.items held.recency) (λ other one. alone other one) (of_free at among) place)))
              held.recency;
          chains = chains_stay shape is give_zones (seen before words) (seen now words) off parts.chains refl refl refl held.chains;
          free = free;
          bits = λ block low. mark_stays shape is give_zones (seen before words) (seen now words) off block low refl ∙ held.bits block low;
        }
      where
        alone : (other : ℕ) → IsOneOf (item ∷ []) other → IsNoneOf parts.items other
        alone other (inl same) = subst (IsNoneOf parts.items) same none
        alone other (inr nothing) = absurd nothing

        of_free : (at : ℕ) → IsOneOf (give_places shape item) at → IsFreePlace shape (item ∷ []) at
        of_free at (inl field) = inr (item, (inl refl, sym field))
        of_free at (inr (inl head)) = inl (sym head)
        of_free at (inr (inr nothing)) = absurd nothing

    -- the number of items in use is put
    pub counted : (parts : Parts) (count : ℕ) → HoldsParts (seen before words) shape parts → now ≡ put_on before (shape.head + 9) count
        → HoldsParts (seen now words) shape (record parts { count = count })
    counted parts count held put =
        let grew : GrewAt ((shape.head + 9) ∷ []) before now = subst (GrewAt ((shape.head + 9) ∷ []) before) (sym put) (grew_put before (shape.head + 9) count) in
        let off : StaysOff shape count_zones (seen before words) (seen now words) =
        grown_off shape count_zones ((shape.head + 9) ∷ []) before now words grew (λ at place. count_own count_zones at refl place) in
        record {
          head = head_stays shape is count_zones (seen before words) (seen now words) off refl held.head;
          count =
              ap (seen now words) (let e : 9 ≡ shape.head + 9 = omega (arith, is.head) in e)
              ∙ ap (λ (p : Plan). seen p words (shape.head + 9)) put ∙ read_put before.writes (region words) (shape.head + 9) count;
          recency = recency_stays shape is count_zones (seen before words) (seen now words) off parts.items refl refl refl refl held.recency;
          chains = chains_stay shape is count_zones (seen before words) (seen now words) off parts.chains refl refl refl held.chains;
          free = free_stays shape is count_zones (seen before words) (seen now words) off parts.free refl refl held.free;
          bits = λ block short. mark_stays shape is count_zones (seen before words) (seen now words) off block short refl ∙ held.bits block short;
        }
