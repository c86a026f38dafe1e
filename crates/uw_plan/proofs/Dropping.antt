-- An entry leaves the list with which a region agrees.
use Rattle.std.proofs.Common.{◌≡◌, ◌≢◌, ◌⊎◌, ⊎_elim, inl, inr, ℕ, ◌+◌, ◌*◌, ◌<◌, ◌≤◌, ◌↔◌, Bool, true, false, not, nat_le, nat_lt, List, [], ◌∷◌, ◌++◌, refl, sym, ap, ◌∙◌, subst, arith}
use Rattle.std.proofs.lemmas.Bool.{and_from, cases_eq, cases_lt, false_from_ne_true, le-leb, lt-ltb}
use Rattle.std.proofs.lemmas.Bool.Decides.{nat_tests}
use Rattle.std.proofs.lemmas.List.{length-append}
use Rattle.std.specs.Str.{bytes_eq}
use Rattle.uw_model.specs.declared.conf.CacheConf.{CacheConf}
use Rattle.uw_model.specs.declared.entries.Entry.{Entry}
use Rattle.uw_model.specs.Entries.{IsCacheConf, IsEntry, covers, span, span_of}
use Rattle.uw_model.specs.Layout.{bitmap_words}
use Rattle.uw_model.specs.Calls.{without}
use Rattle.uw_model.proofs.PartLemmas.{part_filter, part_state}
use Rattle.uw_words.specs.declared.shape.Shape.{Shape}
use Rattle.uw_words.specs.Shapes.{IsShape, shape_words}
use Rattle.uw_words.specs.Plans.{Plan}
use Rattle.uw_words.specs.Parts.{GrewAt, seen}
use Rattle.uw_words.specs.Numbers.{AreDistinct, IsNoneOf, IsOneOf, without_number}
use Rattle.uw_words.specs.Walks.{item_word}
use Rattle.uw_words.proofs.Growth.{grew_then}
use Rattle.uw_words.proofs.Links.{walk_short}
use Rattle.uw_words.proofs.Numbers.{gone, none_without, not_none, one_apart, one_of_without}
use Rattle.uw_intent.specs.RedoRecord.{IsTarget}
use Rattle.uw_bitmap.specs.Bits.{ChangesRun, is_marked, run_places}
use Rattle.uw_bitmap.proofs.Runs.{before_run, behind_run, in_run}
use Rattle.uw_chains.specs.Chains.{item_chain}
use Rattle.uw_chains.proofs.Places.{own_chain, own_short, with_other, with_same}
use Rattle.uw_plan.specs.Regions.{frame_of, shape_of}
use Rattle.uw_plan.specs.Parts.{HoldEntries, HoldsEntry, HoldsParts, Parts}
use Rattle.uw_plan.specs.Agreement.{AgreesAs, FitsList, is_covered}
use Rattle.uw_plan.specs.Plans.{Costs, HasRoomFor, IsInUse, IsPaired, is_bit_place, item_run_places}
use Rattle.uw_plan.specs.EntrySteps.{GrewInZones, IsListedIn, free_zones, freed_parts, list_zones, unlisted_parts, unmarked_parts, zone_of}
use Rattle.uw_plan.proofs.Shapes.{IsShapeOf, shape_of_conf}
use Rattle.uw_plan.proofs.Zones.{StaysOff, bit_zone, block_zone, chain_stays, entries_stay, zones_off}
use Rattle.uw_plan.proofs.Parted.{Parted, covered_as_before, paired_entry, paired_holds, paired_item, parted, parted_hold, parted_length, uncovered}
use Rattle.uw_plan.proofs.Costing.{costs_of}
use Rattle.uw_plan.proofs.Steps.{bit_zones, run_bits, run_stays, unmarked}

-- numbers without one of them
pub one_left : (numbers : List ℕ) (number other : ℕ) → IsOneOf numbers other → other ≢ number → IsOneOf (without_number numbers number) other
one_left [] number other one apart = absurd one
one_left (first ∷ numbers) number other one apart = elim (cases_eq first number) [
  | inl same ↦ subst (λ (l : List ℕ). IsOneOf l other) (let e : numbers ≡ without_number (first ∷ numbers) number = grind (arith, nat_tests) in e)
      (⊎_elim (λ here. absurd (apart (sym here ∙ same))) (λ later. later) one)
  | inr differs ↦ subst (λ (l : List ℕ). IsOneOf l other) (let e : first ∷ without_number numbers number ≡ without_number (first ∷ numbers) number = grind (arith, nat_tests) in e)
      (⊎_elim (λ here. inl here) (λ later. inr (one_left numbers number other later apart)) one)
]

pub none_but : (numbers : List ℕ) (number other : ℕ) → IsNoneOf (without_number numbers number) other → other ≢ number → IsNoneOf numbers other
none_but [] number other none apart = tt
none_but (first ∷ numbers) number other none apart = elim (cases_eq first number) [
  | inl same ↦ (
    λ here. apart (sym here ∙ same),
    subst (λ (l : List ℕ). IsNoneOf l other) (let e : without_number (first ∷ numbers) number ≡ numbers = grind (arith, nat_tests) in e) none,
  )
  | inr differs ↦
      let both : IsNoneOf (first ∷ without_number numbers number) other =
      subst (λ (l : List ℕ). IsNoneOf l other) (let e : without_number (first ∷ numbers) number ≡ first ∷ without_number numbers number = grind (arith, nat_tests) in e) none in
      (both.0, none_but numbers number other both.1 apart)
]

pub one_of_append : (early late : List ℕ) (at : ℕ) → IsOneOf (early ++ late) at → IsOneOf early at ⊎ IsOneOf late at
one_of_append [] late at one = inr one
one_of_append (first ∷ early) late at (inl here) = inl (inl here)
one_of_append (first ∷ early) late at (inr later) = elim (one_of_append early late at later) [ inl one ↦ inl (inr one) | inr one ↦ inr one ]

-- a place of these zones is one that a step may plan beside the bitmap
module _ (shape : Shape) (is : IsShape shape) (zones : ℕ → Bool) (at : ℕ) (own : zones (zone_of shape at) ≡ true) where
  off_zone : (zone : ℕ) → zones zone ≡ false → zone_of shape at ≡ zone → ⊥
  off_zone zone fails here = absurd (let none : ⊥ = cc in none)

  pub beside_bits : zones 16 ≡ false → is_bit_place shape at ≡ false
  beside_bits fails = false_from_ne_true (is_bit_place shape at) (λ passes.
      let low : shape.bitmap ≤ at = grind (arith, nat_tests) in
      let high : at < shape.chains = grind (arith, nat_tests) in
      off_zone 16 fails (bit_zone shape is at low high))

  pub target_of : zones 18 ≡ false → zones 10 ≡ false → zones 11 ≡ false → IsTarget (frame_of shape) (shape_words shape) at
  target_of blocks gate used =
      let below : at < shape.blocks = elim (cases_lt at shape.blocks) [ inl low ↦ low | inr high ↦ absurd (off_zone 18 blocks (block_zone shape is at high)) ] in
      record {
        within = omega (arith, below, is.intent);
        beyond = record {
          outside = inl (omega (arith, below, is.intent));
          gate = λ same. off_zone 10 gate (ap (zone_of shape) same);
          used = λ same. off_zone 11 used (ap (zone_of shape) same);
        };
      }

-- a shape that is that of a configuration, as code has it
pub as_shape : (conf : CacheConf) (shape : Shape) → shape ≡ shape_of conf → IsCacheConf conf → IsShapeOf conf shape
as_shape conf shape same is = subst (IsShapeOf conf) (sym same) (shape_of_conf conf is)

pub as_used : (conf : CacheConf) (shape : Shape) → shape ≡ shape_of conf → (reader : ℕ → ℕ) (item : ℕ) → IsInUse reader (shape_of conf) conf item → IsInUse reader shape conf item
as_used conf shape same reader item used = subst (λ (s : Shape). IsInUse reader s conf item) (sym same) used

pub as_room : (conf : CacheConf) (shape : Shape) → shape ≡ shape_of conf → (plan : Plan) (most : ℕ) (reader : ℕ → ℕ) (item : ℕ)
    → HasRoomFor plan most (item_run_places reader (shape_of conf) conf item) → HasRoomFor plan most (item_run_places reader shape conf item)
as_room conf shape same plan most reader item room = subst (λ (s : Shape). HasRoomFor plan most (item_run_places reader s conf item)) (sym same) room

-- what follows from some list with which the words agree, where an item holds an entry of it
pub with_used : (reader : ℕ → ℕ) (shape : Shape) (conf : CacheConf) (item : ℕ) {P : Type 0} → IsInUse reader shape conf item
    → ((items : List ℕ) (list : List Entry) (e : Entry) → AgreesAs reader shape conf items list → IsPaired items list item e → P) → P
with_used reader shape conf item (items, list, e, (agrees, paired)) follows = follows items list e agrees paired

-- the parts and the list after an entry left
module _ (conf : CacheConf) (shape : Shape) (of : IsShapeOf conf shape) (reader : ℕ → ℕ) (items : List ℕ) (list : List Entry) (item : ℕ) (e : Entry)
    (agrees : AgreesAs reader shape conf items list) (paired : IsPaired items list item e) where
  abbrev pub parts : Parts
  parts = agrees.parts

  recent : IsOneOf parts.items item
  recent = subst (λ (l : List ℕ). IsOneOf l item) (sym agrees.is) (paired_item items list item e paired)

  recent_short : (other : ℕ) → IsOneOf parts.items other → other < shape.n_items
  recent_short other one = walk_short shape reader 2 parts.items (reader (shape.head + 6)) agrees.held.recency.walk other one

  pub item_short : item < shape.n_items
  item_short = recent_short item recent

  abbrev pub own : ℕ
  own = item_chain reader shape item

  distinct : AreDistinct parts.items
  distinct = agrees.held.recency.distinct

  pub listed_in : IsListedIn parts own item
  listed_in = record {
    recent = recent;
    chained = agrees.chained item (paired_item items list item e paired);
    apart = λ other free. (agrees.fits.others other (free_short other free)).0 free;
  }
    where
      free_short : (other : ℕ) → IsOneOf parts.free other → other < conf.items
      free_short other one = omega (arith, walk_short shape reader 2 parts.free (reader (shape.head + 8)) agrees.held.free.walk other one, of.items)

  pub not_free : IsNoneOf parts.free item
  not_free = none_of_free parts.free (λ other one same. not_none parts.items item recent (subst (IsNoneOf parts.items) same (listed_in.apart other one)))
    where
      none_of_free : (free : List ℕ) → ((other : ℕ) → IsOneOf free other → other ≢ item) → IsNoneOf free item
      none_of_free [] off = tt
      none_of_free (first ∷ free) off = (off first (inl refl), none_of_free free (λ other one. off other (inr one)))

  holds : HoldsEntry reader shape item e
  holds = paired_holds reader shape items list item e agrees.entries paired

  entry : IsEntry conf e
  entry = paired_entry conf items list item e agrees.fits.state.apart paired

  pub first_word : item_word reader shape item 4 ≡ e.first
  first_word = holds.fields.first

  pub span_word : span_of conf (item_word reader shape item 5) ≡ span conf e.value
  span_word = ap (span_of conf) holds.fields.bytes

  pub run_within : item_word reader shape item 4 + span_of conf (item_word reader shape item 5) ≤ shape.n_blocks
  run_within = omega (arith, first_word, span_word, entry.blocks, of.blocks)

  pub some_in_use : 0 < parts.count
  some_in_use = omega (arith, agrees.fits.count, parted_length (parted conf items list item e (subst AreDistinct agrees.is distinct) agrees.fits.state.apart paired))

  abbrev pub rest_items : List ℕ
  rest_items = without_number items item

  abbrev pub rest_list : List Entry
  rest_list = without e.key list

  both : Parted items list item e rest_items rest_list
  both = parted conf items list item e (subst AreDistinct agrees.is distinct) agrees.fits.state.apart paired

  abbrev pub now_parts : Parts
  now_parts = freed_parts (unlisted_parts (unmarked_parts parts (item_word reader shape item 4) (span_of conf (item_word reader shape item 5))) own item) item

  own_few : own < shape.n_chains
  own_few = own_short shape of.is reader item

  still_linked : (chain other : ℕ) → chain < conf.chains → IsOneOf (now_parts.chains chain) other → IsOneOf now_parts.items other
  still_linked chain other few one = elim (cases_eq chain own) [
    | inl same ↦
        let here : IsOneOf (without_number (parts.chains own) item) other =
        subst (λ (l : List ℕ). IsOneOf l other) (with_same parts.chains own (without_number (parts.chains own) item) chain same) one in
        let before : IsOneOf (parts.chains own) other = one_of_without (parts.chains own) item other here in
        let apart : other ≢ item = one_apart (without_number (parts.chains own) item) other item here (gone (parts.chains own) item (agrees.held.chains.distinct own own_few)) in
        one_left parts.items item other (agrees.fits.linked own other (omega (arith, own_few, of.chains)) before) apart
    | inr differs ↦
        let before : IsOneOf (parts.chains chain) other =
        subst (λ (l : List ℕ). IsOneOf l other) (with_other parts.chains own (without_number (parts.chains own) item) chain differs) one in
        let falls : chain ≡ item_chain reader shape other = own_chain shape reader parts.chains chain other agrees.held.chains (omega (arith, few, of.chains)) before in
        one_left parts.items item other (agrees.fits.linked chain other few before) (λ same. differs (falls ∙ ap (item_chain reader shape) same))
  ]

  still_others : (other : ℕ) → other < conf.items → IsOneOf now_parts.free other ↔ IsNoneOf now_parts.items other
  still_others other few = (λ one. used one, λ none. unused none)
    where
      used : IsOneOf (item ∷ parts.free) other → IsNoneOf (without_number parts.items item) other
      used (inl same) = subst (IsNoneOf (without_number parts.items item)) same (gone parts.items item distinct)
      used (inr free) = none_without parts.items item other ((agrees.fits.others other few).0 free)

      unused : IsNoneOf (without_number parts.items item) other → IsOneOf (item ∷ parts.free) other
      unused none = elim (cases_eq item other) [
        | inl same ↦ inl same
        | inr apart ↦ inr ((agrees.fits.others other few).1 (none_but parts.items item other none (λ same. apart (sym same))))
      ]

  still_covered : (block : ℕ) → block < 64 * bitmap_words conf → now_parts.marked block ≡ is_covered conf rest_list block
  still_covered block short = elim (cases_lt block (item_word reader shape item 4)) [
    | inl before ↦
        rw (before_run (item_word reader shape item 4) (span_of conf (item_word reader shape item 5)) block before)
        (outside (λ cover. omega (arith, cover.0, before, first_word)))
    | inr behind ↦ elim (cases_lt block (item_word reader shape item 4 + span_of conf (item_word reader shape item 5))) [
      | inl within ↦
          rw (in_run (item_word reader shape item 4) (span_of conf (item_word reader shape item 5)) block behind within)
          (sym (uncovered conf block both agrees.fits.state.apart (omega (arith, behind, first_word), omega (arith, within, first_word, span_word))))
      | inr after ↦
          rw (behind_run (item_word reader shape item 4) (span_of conf (item_word reader shape item 5)) block after)
          (outside (λ cover. omega (arith, cover.1, after, first_word, span_word)))
    ]
  ]
    where
      outside : (covers conf e block → ⊥) → parts.marked block ≡ is_covered conf rest_list block
      outside off = agrees.fits.covered block short ∙ sym (covered_as_before conf block both off)

  still_fits : FitsList conf now_parts rest_list
  still_fits = record {
    state = part_state conf (part_filter (λ o. not (bytes_eq o.key e.key)) list) agrees.fits.state;
    count = omega (arith, agrees.fits.count, parted_length both);
    linked = still_linked;
    others = still_others;
    covered = still_covered;
  }

  -- the words after it
  module _ (now : ℕ → ℕ) (held : HoldsParts now shape now_parts) (entries : HoldEntries now shape items list)
      (same_chain : (other : ℕ) → other < shape.n_items → item_chain now shape other ≡ item_chain reader shape other) where
    pub left_agrees : AgreesAs now shape conf rest_items rest_list
    left_agrees = record {
      parts = now_parts;
      is = ap (λ (l : List ℕ). without_number l item) agrees.is;
      held = held;
      fits = still_fits;
      entries = parted_hold now shape both entries;
      chained = λ other one.
          let before : IsOneOf items other = one_of_without items item other one in
          let apart : other ≢ item = one_apart rest_items other item one (gone items item (subst AreDistinct agrees.is distinct)) in
          let short : other < shape.n_items = recent_short other (subst (λ (l : List ℕ). IsOneOf l other) (sym agrees.is) before) in
          subst (λ (c : ℕ). IsOneOf (now_parts.chains c) other) (sym (same_chain other short)) (on_chain other (agrees.chained other before) apart);
    }
      where
        on_chain : (other : ℕ) → IsOneOf (parts.chains (item_chain reader shape other)) other → other ≢ item → IsOneOf (now_parts.chains (item_chain reader shape other)) other
        on_chain other one apart = elim (cases_eq (item_chain reader shape other) own) [
          | inl same ↦
              subst (λ (l : List ℕ). IsOneOf l other) (sym (with_same parts.chains own (without_number (parts.chains own) item) (item_chain reader shape other) same))
              (one_left (parts.chains own) item other (subst (λ (c : ℕ). IsOneOf (parts.chains c) other) same one) apart)
          | inr differs ↦ subst (λ (l : List ℕ). IsOneOf l other) (sym (with_other parts.chains own (without_number (parts.chains own) item) (item_chain reader shape other) differs)) one
        ]

pub used_short : (conf : CacheConf) (shape : Shape) → IsShapeOf conf shape → (reader : ℕ → ℕ) (item : ℕ) → IsInUse reader shape conf item → item < shape.n_items
used_short conf shape of reader item used = with_used reader shape conf item used (λ items list e agrees paired. item_short conf shape of reader items list item e agrees paired)

-- the steps of a drop, one after the other
module _ (conf : CacheConf) (shape : Shape) (of : IsShapeOf conf shape) (words : List ℕ) (before : Plan) (items : List ℕ) (list : List Entry) (item : ℕ) (e : Entry)
    (agrees : AgreesAs (seen before words) shape conf items list) (paired : IsPaired items list item e) where
  abbrev pub old : ℕ → ℕ
  old = seen before words

  abbrev pub held_parts : Parts
  held_parts = agrees.parts

  abbrev pub first : ℕ
  first = item_word old shape item 4

  abbrev pub blocks : ℕ
  blocks = span_of conf (item_word old shape item 5)

  abbrev pub chain : ℕ
  chain = item_chain old shape item

  within : first + blocks ≤ shape.n_blocks
  within = run_within conf shape of old items list item e agrees paired

  short : item < shape.n_items
  short = item_short conf shape of old items list item e agrees paired

  module _ (released : Plan) (bits : ChangesRun false (is_marked old shape) (is_marked (seen released words) shape) first blocks)
      (ran : GrewAt (run_places shape first blocks) before released) where
    run_off : StaysOff shape bit_zones old (seen released words)
    run_off = run_stays shape of.is words before released first blocks within ran

    abbrev pub released_parts : Parts
    released_parts = unmarked_parts held_parts first blocks

    pub released_held : HoldsParts (seen released words) shape released_parts
    released_held = unmarked shape of.is words before released first blocks within bits ran held_parts agrees.held

    chain_released : item_chain (seen released words) shape item ≡ chain
    chain_released = chain_stays shape of.is bit_zones old (seen released words) run_off item short refl

    listed_then : IsListedIn released_parts chain item
    listed_then =
        let listed = listed_in conf shape of old items list item e agrees paired in
        record { recent = listed.recent; chained = listed.chained; apart = listed.apart }

    pub released_listed : IsListedIn released_parts (item_chain (seen released words) shape item) item
    released_listed = subst (λ (c : ℕ). IsListedIn released_parts c item) (sym chain_released) listed_then

    module _ (left : Plan)
        (leaves : (parts : Parts) → HoldsParts (seen released words) shape parts → IsListedIn parts (item_chain (seen released words) shape item) item
        → HoldsParts (seen left words) shape (unlisted_parts parts (item_chain (seen released words) shape item) item))
        (grew : GrewInZones shape list_zones 3 released left) where
      abbrev pub left_parts : Parts
      left_parts = unlisted_parts released_parts chain item

      left_held : HoldsParts (seen left words) shape left_parts
      left_held =
          subst (λ (c : ℕ). HoldsParts (seen left words) shape (unlisted_parts released_parts c item)) chain_released (leaves released_parts released_held released_listed)

      left_off : StaysOff shape list_zones (seen released words) (seen left words)
      left_off = zones_off shape list_zones 3 released left words grew

      pub still_some : 0 < seen left words 9
      still_some = omega (arith, left_held.count, some_in_use conf shape of old items list item e agrees paired)

      module _ (now : Plan)
          (frees : (parts : Parts) → HoldsParts (seen left words) shape parts → IsNoneOf parts.items item → IsNoneOf parts.free item → HoldsParts (seen now words) shape (freed_parts parts item))
          (more : GrewInZones shape free_zones 3 left now) where
        free_off : StaysOff shape free_zones (seen left words) (seen now words)
        free_off = zones_off shape free_zones 3 left now words more

        now_held : HoldsParts (seen now words) shape (now_parts conf shape of old items list item e agrees paired)
        now_held = frees left_parts left_held (gone held_parts.items item agrees.held.recency.distinct) (not_free conf shape of old items list item e agrees paired)

        all_short : (other : ℕ) → IsOneOf items other → other < shape.n_items
        all_short other one =
            walk_short shape old 2 held_parts.items (old (shape.head + 6)) agrees.held.recency.walk other (subst (λ (l : List ℕ). IsOneOf l other) (sym agrees.is) one)

        now_entries : HoldEntries (seen now words) shape items list
        now_entries =
            let apart = agrees.fits.state.apart in
            let one = entries_stay shape of.is bit_zones old (seen released words) run_off conf of items list all_short apart refl refl refl refl refl agrees.entries in
            let two = entries_stay shape of.is list_zones (seen released words) (seen left words) left_off conf of items list all_short apart refl refl refl refl refl one in
            entries_stay shape of.is free_zones (seen left words) (seen now words) free_off conf of items list all_short apart refl refl refl refl refl two

        now_chain : (other : ℕ) → other < shape.n_items → item_chain (seen now words) shape other ≡ item_chain old shape other
        now_chain other low =
            chain_stays shape of.is free_zones (seen left words) (seen now words) free_off other low refl
            ∙ chain_stays shape of.is list_zones (seen released words) (seen left words) left_off other low refl
            ∙ chain_stays shape of.is bit_zones old (seen released words) run_off other low refl

        pub dropped : AgreesAs (seen now words) shape conf (without_number items item) (without e.key list)
        dropped = left_agrees conf shape of old items list item e agrees paired (seen now words) now_held now_entries now_chain

        places_own : (at : ℕ) → IsOneOf (grew.places ++ more.places) at → (is_bit_place shape at ≡ false) × IsTarget (frame_of shape) (shape_words shape) at
        places_own at one = elim (one_of_append grew.places more.places at one) [
          | inl early ↦ (
            beside_bits shape of.is list_zones at (grew.own at early) refl,
            target_of shape of.is list_zones at (grew.own at early) refl refl refl,
          )
          | inr late ↦ (
            beside_bits shape of.is free_zones at (more.own at late) refl,
            target_of shape of.is free_zones at (more.own at late) refl refl refl,
          )
        ]

        pub dropped_costs : Costs shape 16 (run_places shape first blocks) before now
        dropped_costs =
            costs_of shape 16 (run_places shape first blocks) (grew.places ++ more.places) before released now ran
            (grew_then grew.places more.places released left now grew.grew more.grew)
            (λ at one. let bit = run_bits shape of.is first blocks at within one in is_bit at bit.0 bit.1)
            (λ at one. (places_own at one).0)
            (omega (arith, length-append grew.places more.places, grew.few, more.few))
            (λ at one. let bit = run_bits shape of.is first blocks at within one in bit_target at bit.0 bit.1)
            (λ at one. (places_own at one).1)
          where
            is_bit : (at : ℕ) → shape.bitmap ≤ at → at < shape.chains → is_bit_place shape at ≡ true
            is_bit at low high = and_from (nat_le shape.bitmap at) (nat_lt at shape.chains) (le-leb shape.bitmap at low) (lt-ltb at shape.chains high)

            bit_target : (at : ℕ) → shape.bitmap ≤ at → at < shape.chains → IsTarget (frame_of shape) (shape_words shape) at
            bit_target at low high =
                let behind : at < shape.intent = omega (arith, high, of.is.items, of.is.blocks, of.is.intent) in
                record {
                  within = omega (arith, behind);
                  beyond = record {
                    outside = inl behind;
                    gate = λ same. omega (arith, same, low, of.is.bitmap);
                    used = λ same. omega (arith, same, low, of.is.bitmap);
                  };
                }
