-- The entry of a key is found by the item that holds it, and an entry comes to the front of its list.
use Rattle.std.proofs.Common.{◌≡◌, ◌≢◌, inl, inr, ℕ, ◌+◌, ◌*◌, ◌%◌, ◌<◌, ◌≤◌, ◌==◌, ◌&&◌, ℤ, Bool, true, false, not, cond, List, [], ◌∷◌, length, Option, Some, None, IfSome, IfNone, refl, sym, ap, ◌∙◌, subst, arith}
use Rattle.std.specs.Int.{cast_signed, from_le_bytes, w64}
use Rattle.std.specs.List.{list_all}
use Rattle.std.specs.Str.{bytes_eq}
use Rattle.std.proofs.lemmas.Slice.Eq.{bytes_eq-Decides}
use Rattle.std.proofs.lemmas.Bool.{cases_Bool, cases_eq, cond-true, cond-false, eq-eqb, false_from_ne_true, ne_eqb}
use Rattle.std.proofs.lemmas.Nat.{mul-le}
use Rattle.uw_model.specs.declared.conf.CacheConf.{CacheConf}
use Rattle.uw_model.specs.declared.entries.Entry.{Entry}
use Rattle.uw_model.specs.Entries.{AreApart, IsApart, IsApartFrom, IsEntry, IsState}
use Rattle.uw_model.specs.Calls.{alive_at, number_of, without}
use Rattle.uw_model.specs.Placement.{is_alive, is_alive_until, is_clear_of}
use Rattle.uw_model.specs.KeySteps.{lacks}
use Rattle.uw_model.proofs.KeysLemmas.{alive_none}
use Rattle.uw_model.proofs.PartLemmas.{part_filter, part_state}
use Rattle.uw_model.proofs.StateLemmas.{lacks_apart}
use Rattle.uw_words.specs.declared.shape.Shape.{Shape}
use Rattle.uw_words.specs.Numbers.{AreDistinct, IsNoneOf, IsOneOf, without_number}
use Rattle.uw_words.specs.Parts.{GrewAt, seen}
use Rattle.uw_words.specs.Plans.{Plan}
use Rattle.uw_words.specs.Records.{HoldsKey}
use Rattle.uw_words.specs.Walks.{item_word}
use Rattle.uw_words.proofs.Growth.{grew_none, read_grown}
use Rattle.uw_words.proofs.Links.{walk_short}
use Rattle.uw_words.proofs.Numbers.{none_without, not_none, one_of_without}
use Rattle.uw_recency.specs.Recency.{IsRecency, IsRecencyPlace, to_front_places}
use Rattle.uw_recency.proofs.Lists.{to_front_own}
use Rattle.uw_chains.specs.Chains.{item_chain, key_chain}
use Rattle.uw_chains.proofs.Places.{key_short}
use Rattle.uw_items.specs.Items.{HoldsValue, block_place}
use Rattle.uw_items.proofs.Held.{key_back}
use Rattle.uw_items.proofs.FreeItems.{free_depends}
use Rattle.uw_plan.specs.Agreement.{AgreesAs, FitsList, is_covered}
use Rattle.uw_plan.specs.CallSteps.{IsItemOf}
use Rattle.uw_plan.specs.KeyEntries.{entry_at}
use Rattle.uw_plan.specs.EntrySteps.{zone_of}
use Rattle.uw_plan.specs.Parts.{AllBytes, HoldEntries, HoldsEntry, HoldsParts, Parts}
use Rattle.uw_plan.specs.Plans.{Costs, IsInUse, IsPaired}
use Rattle.uw_plan.specs.Regions.{shape_of}
use Rattle.uw_plan.proofs.Costing.{costs_of}
use Rattle.uw_plan.proofs.Dropping.{beside_bits, listed_in, none_but, one_left, target_of, with_used}
use Rattle.uw_plan.proofs.Parted.{Parted, here, there, apart_of, paired_entry, paired_holds, paired_item, parted, parted_hold, parted_length}
use Rattle.uw_plan.proofs.Shapes.{IsShapeOf}
use Rattle.uw_plan.proofs.Steps.{free_off_recency, recency_own, recency_zones}
use Rattle.uw_plan.proofs.Zones.{StaysOff, chain_stays, chains_stay, entries_stay, grown_off, head_stays, mark_stays, none_of, word_stays}

-- each of the items holds an entry of the list
pub held_entry : (reader : ℕ → ℕ) (shape : Shape) (items : List ℕ) (list : List Entry) (item : ℕ) → HoldEntries reader shape items list → IsOneOf items item
    → (e : Entry) × IsPaired items list item e
held_entry reader shape [] list item holds one = absurd one
held_entry reader shape (first ∷ items) [] item holds one = absurd holds
held_entry reader shape (first ∷ items) (e ∷ list) item holds (inl same) = (e, inl (same, refl))
held_entry reader shape (first ∷ items) (e ∷ list) item holds (inr later) =
    let rest = held_entry reader shape items list item holds.1 later in
    (rest.0, inr rest.1)

-- the entry of a key, and whether it is alive
module _ (key : List ℕ) where
  here_is : (o : Entry) (list : List Entry) → bytes_eq o.key key ≡ true → entry_at (o ∷ list) key ≡ Some o
  here_is o list same = cond-true (bytes_eq o.key key) (Some o) (entry_at list key) same

  later_is : (o : Entry) (list : List Entry) → bytes_eq o.key key ≡ false → entry_at (o ∷ list) key ≡ entry_at list key
  later_is o list differs = cond-false (bytes_eq o.key key) (Some o) (entry_at list key) differs

  apart_key : (conf : CacheConf) (o e : Entry) → IsApart conf o e → e.key ≡ key → bytes_eq o.key key ≡ false
  apart_key conf o e apart same = false_from_ne_true (bytes_eq o.key key) (λ equal. apart.keys ((bytes_eq-Decides o.key key).0 equal ∙ sym same))

  pub entry_found : (conf : CacheConf) (items : List ℕ) (list : List Entry) (item : ℕ) (e : Entry) → AreApart conf list → IsPaired items list item e → e.key ≡ key → entry_at list key ≡ Some e
  entry_found conf [] list item e apart paired same = absurd paired
  entry_found conf (first ∷ items) [] item e apart paired same = absurd paired
  entry_found conf (first ∷ items) (o ∷ list) item e apart (inl both) same =
      here_is o list ((bytes_eq-Decides o.key key).1 (ap (λ (x : Entry). x.key) both.1 ∙ same)) ∙ ap (λ (x : Entry). Some x) both.1
  entry_found conf (first ∷ items) (o ∷ list) item e apart (inr later) same =
      later_is o list (apart_key conf o e (apart_of conf o items list item e apart.1 later) same) ∙ entry_found conf items list item e apart.2 later same

  pub entry_none : (reader : ℕ → ℕ) (shape : Shape) (items : List ℕ) (list : List Entry) → HoldEntries reader shape items list
      → ((item : ℕ) → IsOneOf items item → HoldsKey reader shape item key → ⊥) → entry_at list key ≡ None
  entry_none reader shape [] [] holds none = refl
  entry_none reader shape [] (e ∷ list) holds none = absurd holds
  entry_none reader shape (item ∷ items) [] holds none = absurd holds
  entry_none reader shape (item ∷ items) (e ∷ list) holds none =
      later_is e list (false_from_ne_true (bytes_eq e.key key) (λ equal.
      none item (inl refl) (subst (HoldsKey reader shape item) ((bytes_eq-Decides e.key key).0 equal) holds.0.key)))
      ∙ entry_none reader shape items list holds.1 (λ i one. none i (inr one))

  -- the entry that is found has the key
  pub entry_key : (list : List Entry) (e : Entry) → entry_at list key ≡ Some e → e.key ≡ key
  entry_key [] e found = absurd (let none : ⊥ = cc in none)
  entry_key (o ∷ list) e found = elim (cases_Bool (bytes_eq o.key key)) [
    | inl same ↦
        let both : Some o ≡ Some e = sym (here_is o list same) ∙ found in
        let is : o ≡ e = cc in
        ap (λ (x : Entry). x.key) (sym is) ∙ (bytes_eq-Decides o.key key).0 same
    | inr differs ↦ entry_key list e (sym (later_is o list differs) ∙ found)
  ]

  module _ (conf : CacheConf) (now : ℕ) where
    past : (o : Entry) (list : List Entry) → bytes_eq o.key key ≡ false → alive_at conf (o ∷ list) now key ≡ alive_at conf list now key
    past o list differs = rw differs refl

    pub none_alive : (list : List Entry) → entry_at list key ≡ None → alive_at conf list now key ≡ None
    none_alive [] none = refl
    none_alive (o ∷ list) none = elim (cases_Bool (bytes_eq o.key key)) [
      | inl same ↦ absurd (let both : Some o ≡ None = sym (here_is o list same) ∙ none in let no : ⊥ = cc in no)
      | inr differs ↦ past o list differs ∙ none_alive list (sym (later_is o list differs) ∙ none)
    ]

    first_alive : (o : Entry) (list : List Entry) → o.key ≡ key → IsApartFrom conf o list → alive_at conf (o ∷ list) now key ≡ cond (is_alive conf now o) (Some o) None
    first_alive o list same apart =
        let equal : bytes_eq o.key key ≡ true = (bytes_eq-Decides o.key key).1 same in
        let none : alive_at conf list now key ≡ None = alive_none conf now list key (subst (λ (k : List ℕ). lacks k list ≡ true) same (lacks_apart conf o list apart)) in
        rw equal (ap (cond (is_alive conf now o) (Some o)) none)

    pub alive_is : (items : List ℕ) (list : List Entry) (item : ℕ) (e : Entry) → AreApart conf list → IsPaired items list item e → e.key ≡ key
        → alive_at conf list now key ≡ cond (is_alive conf now e) (Some e) None
    alive_is [] list item e apart paired same = absurd paired
    alive_is (first ∷ items) [] item e apart paired same = absurd paired
    alive_is (first ∷ items) (o ∷ list) item e apart (inl both) same =
        first_alive o list (ap (λ (x : Entry). x.key) both.1 ∙ same) apart.1 ∙ ap (λ (x : Entry). cond (is_alive conf now x) (Some x) None) both.1
    alive_is (first ∷ items) (o ∷ list) item e apart (inr later) same =
        past o list (apart_key conf o e (apart_of conf o items list item e apart.1 later) same) ∙ alive_is items list item e apart.2 later same

-- what the search for a key says of the list
module _ (conf : CacheConf) (shape : Shape) (of : IsShapeOf conf shape) (reader : ℕ → ℕ) (items : List ℕ) (list : List Entry) (agrees : AgreesAs reader shape conf items list) (key : List ℕ) where
  on_chain : (item : ℕ) → IsOneOf items item → HoldsKey reader shape item key → IsOneOf (agrees.parts.chains (key_chain shape key)) item
  on_chain item one holds =
      subst (λ (chain : ℕ). IsOneOf (agrees.parts.chains chain) item) (ap (λ (hash : ℕ). hash % shape.n_chains) holds.hash) (agrees.chained item one)

  key_found : (item : ℕ) → AllBytes key → IsOneOf (agrees.parts.chains (key_chain shape key)) item → HoldsKey reader shape item key
      → (e : Entry) × ((entry_at list key ≡ Some e) × IsPaired items list item e)
  key_found item bytes chained holds =
      let few : key_chain shape key < conf.chains = omega (arith, key_short shape of.is key, of.chains) in
      let one : IsOneOf items item = subst (λ (l : List ℕ). IsOneOf l item) agrees.is (agrees.fits.linked (key_chain shape key) item few chained) in
      let held = held_entry reader shape items list item agrees.entries one in
      let entry : HoldsEntry reader shape item held.0 = paired_holds reader shape items list item held.0 agrees.entries held.1 in
      let same : held.0.key ≡ key = sym (key_back shape reader item held.0.key entry.key_bytes entry.key) ∙ key_back shape reader item key bytes holds in
      (held.0, (entry_found key conf items list item held.0 agrees.fits.state.apart held.1 same, held.1))

  pub found_item : (result : Option ℕ) → AllBytes key
      → IfSome result (λ item. IsOneOf (agrees.parts.chains (key_chain shape key)) item × HoldsKey reader shape item key)
      → IfNone result ((item : ℕ) → IsOneOf (agrees.parts.chains (key_chain shape key)) item → HoldsKey reader shape item key → ⊥)
      → IsItemOf items list (entry_at list key) result
  found_item None bytes some none = entry_none key reader shape items list agrees.entries (λ item one holds. none item (on_chain item one holds) holds)
  found_item (Some item) bytes some none = key_found item bytes some.0 some.1

  module _ (now item dies : ℕ) (found : IsItemOf items list (entry_at list key) (Some item)) (read : item_word reader shape item 3 ≡ dies) where
    item_alive : alive_at conf list now key ≡ cond (is_alive_until conf now dies) (Some found.0) None
    item_alive =
        let e = found.0 in
        let holds : HoldsEntry reader shape item e = paired_holds reader shape items list item e agrees.entries found.1.1 in
        let same : e.dies ≡ dies = sym holds.fields.dies ∙ read in
        alive_is key conf now items list item e agrees.fits.state.apart found.1.1 (entry_key key list e found.1.0)
        ∙ ap (λ (d : ℕ). cond (is_alive_until conf now d) (Some e) None) same

    pub alive_found : (alive : Bool) → alive ≡ is_alive_until conf now dies → alive ≡ true → IsItemOf items list (alive_at conf list now key) (Some item)
    alive_found alive is passes = (found.0, (item_alive ∙ cond-true (is_alive_until conf now dies) (Some found.0) None (sym is ∙ passes), found.1.1))

    pub dead_found : (alive : Bool) → alive ≡ is_alive_until conf now dies → alive ≡ false → IsItemOf items list (alive_at conf list now key) None
    dead_found alive is fails = item_alive ∙ cond-false (is_alive_until conf now dies) (Some found.0) None (sym is ∙ fails)

-- an entry in front of the others
apart_turned : (conf : CacheConf) (e o : Entry) → IsApart conf e o → IsApart conf o e
apart_turned conf e o apart = record { keys = λ same. apart.keys (sym same); blocks = λ block one two. apart.blocks block two one }

parted_apart : (conf : CacheConf) (o : Entry) {items others : List ℕ} {list rest : List Entry} {item : ℕ} {e : Entry} → Parted items list item e others rest → IsApartFrom conf o list → IsApart conf o e
parted_apart conf o here apart = apart.0
parted_apart conf o (there parts) apart = parted_apart conf o parts apart.1

front_apart : (conf : CacheConf) {items others : List ℕ} {list rest : List Entry} {item : ℕ} {e : Entry} → Parted items list item e others rest → AreApart conf list → IsApartFrom conf e rest
front_apart conf here apart = apart.1
front_apart conf (there {o = o} {e = e} parts) apart = (apart_turned conf o e (parted_apart conf o parts apart.1), front_apart conf parts apart.2)

swapped : (a b c : Bool) → (a && (b && c)) ≡ (b && (a && c))
swapped true b c = refl
swapped false true c = refl
swapped false false c = refl

front_all : (test : Entry → Bool) {items others : List ℕ} {list rest : List Entry} {item : ℕ} {e : Entry} → Parted items list item e others rest
    → list_all test (e ∷ rest) ≡ list_all test list
front_all test here = refl
front_all test (there {o = o} {e = e} {rest = rest} parts) = swapped (test e) (test o) (list_all test rest) ∙ ap (λ (b : Bool). test o && b) (front_all test parts)

pub front_covered : (conf : CacheConf) (block : ℕ) {items others : List ℕ} {list rest : List Entry} {item : ℕ} {e : Entry} → Parted items list item e others rest
    → is_covered conf (e ∷ rest) block ≡ is_covered conf list block
front_covered conf block parts = ap not (front_all (is_clear_of conf block 1) parts)

-- a number that comes to the front of some is still one of them, and no other is
moved_one : (numbers : List ℕ) (number other : ℕ) → IsOneOf numbers other → IsOneOf (number ∷ without_number numbers number) other
moved_one numbers number other one = elim (cases_eq number other) [
  | inl same ↦ inl same
  | inr apart ↦ inr (one_left numbers number other one (λ same. apart (sym same)))
]

moved_none : (numbers : List ℕ) (number other : ℕ) → IsOneOf numbers number → IsNoneOf numbers other → IsNoneOf (number ∷ without_number numbers number) other
moved_none numbers number other one none =
    ((λ same. not_none numbers number one (subst (IsNoneOf numbers) (sym same) none)), none_without numbers number other none)

-- the entry of an item comes to the front
module _ (conf : CacheConf) (shape : Shape) (of : IsShapeOf conf shape) (words : List ℕ) (before : Plan) (items : List ℕ) (list : List Entry) (item : ℕ) (e : Entry)
    (agrees : AgreesAs (seen before words) shape conf items list) (paired : IsPaired items list item e) where
  abbrev pub old : ℕ → ℕ
  old = seen before words

  abbrev pub parts : Parts
  parts = agrees.parts

  pub recent : IsOneOf parts.items item
  recent = (listed_in conf shape of old items list item e agrees paired).recent

  recent_short : (other : ℕ) → IsOneOf parts.items other → other < shape.n_items
  recent_short other one = walk_short shape old 2 parts.items (old (shape.head + 6)) agrees.held.recency.walk other one

  all_short : (other : ℕ) → IsOneOf items other → other < shape.n_items
  all_short other one = recent_short other (subst (λ (l : List ℕ). IsOneOf l other) (sym agrees.is) one)

  both : Parted items list item e (without_number items item) (without e.key list)
  both = parted conf items list item e (subst AreDistinct agrees.is agrees.held.recency.distinct) agrees.fits.state.apart paired

  abbrev pub front_parts : Parts
  front_parts = record parts { items = item ∷ without_number parts.items item }

  front_state : IsState conf (e ∷ without e.key list)
  front_state =
      let rest : IsState conf (without e.key list) = part_state conf (part_filter (λ o. not (bytes_eq o.key e.key)) list) agrees.fits.state in
      record {
        few = omega (arith, agrees.fits.state.few, parted_length both);
        apart = (paired_entry conf items list item e agrees.fits.state.apart paired, front_apart conf both agrees.fits.state.apart, rest.apart);
      }

  front_fits : FitsList conf front_parts (e ∷ without e.key list)
  front_fits = record {
    state = front_state;
    count = omega (arith, agrees.fits.count, parted_length both);
    linked = λ chain other few one. moved_one parts.items item other (agrees.fits.linked chain other few one);
    others = λ other few. (
      λ one. moved_none parts.items item other recent ((agrees.fits.others other few).0 one),
      λ none. (agrees.fits.others other few).1 (none_but parts.items item other none.1 (λ same. none.0 (sym same))),
    );
    covered = λ block short. agrees.fits.covered block short ∙ sym (front_covered conf block both);
  }

  abbrev pub places : List ℕ
  places = to_front_places old shape parts.items item

  of_list : (at : ℕ) → IsOneOf places at → IsRecencyPlace shape parts.items at
  of_list at one = to_front_own shape old parts.items item at of.is agrees.held.recency recent one

  in_zones : (at : ℕ) → IsOneOf places at → recency_zones (zone_of shape at) ≡ true
  in_zones at one = recency_own shape of.is recency_zones parts.items at refl refl refl refl recent_short (of_list at one)

  module _ (now : Plan) (ran : GrewAt places before now) where
    abbrev pub new : ℕ → ℕ
    new = seen now words

    off : StaysOff shape recency_zones old new
    off = grown_off shape recency_zones places before now words ran in_zones

    pub used_costs : Costs shape 6 [] before now
    used_costs =
        costs_of shape 6 [] places before before now (grew_none before) ran (λ at one. absurd one) (λ at one. beside_bits shape of.is recency_zones at (in_zones at one) refl) (omega arith)
        (λ at one. absurd one)
        (λ at one. target_of shape of.is recency_zones at (in_zones at one) refl refl refl)

    module _ (recency : IsRecency new shape (item ∷ without_number parts.items item)) where
      front_held : HoldsParts new shape front_parts
      front_held = record {
        head = head_stays shape of.is recency_zones old new off refl agrees.held.head;
        count = word_stays shape of.is recency_zones old new off 9 9 (omega (arith, of.is.head)) refl refl ∙ agrees.held.count;
        recency = recency;
        chains = chains_stay shape of.is recency_zones old new off parts.chains refl refl refl agrees.held.chains;
        free = free_depends shape parts.free old new
            (λ at place. read_grown places before now words at ran
            (none_of places at (λ among. free_off_recency shape of.is parts.items parts.free at recent_short apart place (of_list at among)))) agrees.held.free;
        bits = λ block short. mark_stays shape of.is recency_zones old new off block short refl ∙ agrees.held.bits block short;
      }
        where
          apart : (other : ℕ) → IsOneOf parts.free other → IsNoneOf parts.items other
          apart other one = (listed_in conf shape of old items list item e agrees paired).apart other one

      same_chain : (other : ℕ) → other < shape.n_items → item_chain new shape other ≡ item_chain old shape other
      same_chain other short = chain_stays shape of.is recency_zones old new off other short refl

      among : (other : ℕ) → IsOneOf (item ∷ without_number items item) other → IsOneOf items other
      among other (inl same) = subst (IsOneOf items) same (paired_item items list item e paired)
      among other (inr later) = one_of_without items item other later

      pub used : AgreesAs new shape conf (item ∷ without_number items item) (e ∷ without e.key list)
      used =
          let stayed : HoldEntries new shape items list =
          entries_stay shape of.is recency_zones old new off conf of items list all_short agrees.fits.state.apart refl refl refl refl refl agrees.entries in
          record {
            parts = front_parts;
            is = ap (λ (l : List ℕ). item ∷ without_number l item) agrees.is;
            held = front_held;
            fits = front_fits;
            entries = (paired_holds new shape items list item e stayed paired, parted_hold new shape both stayed);
            chained = λ other one.
                let was : IsOneOf items other = among other one in
                subst (λ (chain : ℕ). IsOneOf (parts.chains chain) other) (sym (same_chain other (all_short other was))) (agrees.chained other was);
          }

-- the number of an item
number_word : (reader : ℕ → ℕ) (shape : Shape) (first word : ℕ) (value : List ℕ) → HoldsValue reader shape first value → length value ≡ 8
    → word ≡ reader (block_place shape first) → cast_signed w64 word ≡ number_of value
number_word reader shape first word value holds eight read =
    let place : block_place shape first ≡ block_place shape first + 0 = omega arith in
    let is : word ≡ from_le_bytes w64 value = read ∙ ap reader place ∙ holds 0 (omega (arith, eight)) in
    ap (cast_signed w64) is

module _ (conf : CacheConf) (shape : Shape) (of : IsShapeOf conf shape) (reader : ℕ → ℕ) (items : List ℕ) (list : List Entry) (item : ℕ) (e : Entry)
    (agrees : AgreesAs reader shape conf items list) (paired : IsPaired items list item e) (first bytes : ℕ)
    (read_first : item_word reader shape item 4 ≡ first) (read_bytes : item_word reader shape item 5 ≡ bytes) where
  value_holds : HoldsEntry reader shape item e
  value_holds = paired_holds reader shape items list item e agrees.entries paired

  same_bytes : length e.value ≡ bytes
  same_bytes = sym value_holds.fields.bytes ∙ read_bytes

  same_first : e.first ≡ first
  same_first = sym value_holds.fields.first ∙ read_first

  block_in : first * shape.block_words + shape.block_words ≤ shape.n_blocks * shape.block_words
  block_in =
      let entry : IsEntry conf e = paired_entry conf items list item e agrees.fits.state.apart paired in
      let few : first + 1 ≤ shape.n_blocks = omega (arith, entry.blocks, same_first, of.blocks) in
      omega (arith, mul-le (first + 1) shape.block_words shape.n_blocks shape.block_words few (omega arith))

  pub no_number : bytes ≢ 8 → None ≡ cond (length e.value == 8) (Some (number_of e.value)) None
  no_number other =
      let fails : (length e.value == 8) ≡ false = ne_eqb (length e.value) 8 (λ same. other (sym same_bytes ∙ same)) in
      sym (cond-false (length e.value == 8) (Some (number_of e.value)) None fails)

  pub some_number : (word : ℕ) → bytes ≡ 8 → word ≡ reader (shape.blocks + first * shape.block_words)
      → Some (cast_signed w64 word) ≡ cond (length e.value == 8) (Some (number_of e.value)) None
  some_number word eight read =
      let passes : (length e.value == 8) ≡ true = eq-eqb (length e.value) 8 (same_bytes ∙ eight) in
      let number : cast_signed w64 word ≡ number_of e.value =
      number_word reader shape e.first word e.value value_holds.value (same_bytes ∙ eight) (read ∙ ap (λ (f : ℕ). reader (block_place shape f)) (sym same_first)) in
      ap (λ (n : ℤ). Some n) number ∙ sym (cond-true (length e.value == 8) (Some (number_of e.value)) None passes)

-- the first block of an item that is in use is a block
pub block_below : (conf : CacheConf) (shape : Shape) → IsShapeOf conf shape → (reader : ℕ → ℕ) (item first bytes : ℕ) → IsInUse reader shape conf item → item_word reader shape item 4 ≡ first
    → item_word reader shape item 5 ≡ bytes → shape.blocks + first * shape.block_words < shape.intent
block_below conf shape of reader item first bytes in_use read_first read_bytes = with_used reader shape conf item in_use (λ items list e agrees paired.
    let inside = block_in conf shape of reader items list item e agrees paired first bytes read_first read_bytes in
    omega (arith, inside, of.is.intent, of.is.some_block_word))

-- what is said of a configuration's shape is said of it as code has it
pub as_agrees : (conf : CacheConf) (shape : Shape) → shape ≡ shape_of conf → (reader : ℕ → ℕ) (items : List ℕ) (list : List Entry) → AgreesAs reader (shape_of conf) conf items list
    → AgreesAs reader shape conf items list
as_agrees conf shape same reader items list agrees = subst (λ (s : Shape). AgreesAs reader s conf items list) (sym same) agrees
