-- The keys of the entries that are alive, from the most recent one on, where nothing is planned.
use Rattle.std.proofs.Common.{◌≡◌, ℕ, suc, ◌+◌, ◌*◌, ◌<◌, ◌≤◌, true, false, List, [], ◌∷◌, ◌++◌, Option, Some, None, append-nil, append_assoc, length, map, slice_get, refl, sym, ap, ◌∙◌, subst, arith}
use Rattle.std.proofs.lemmas.List.{length-append, map-append}
use Rattle.uw_model.specs.declared.conf.CacheConf.{CacheConf}
use Rattle.uw_model.specs.declared.entries.Entry.{Entry}
use Rattle.uw_model.specs.Entries.{IsCacheConf}
use Rattle.uw_model.specs.Placement.{alive_of, is_alive, is_alive_until}
use Rattle.uw_words.specs.declared.shape.Shape.{Shape}
use Rattle.uw_words.specs.Plans.{Plan, region}
use Rattle.uw_words.specs.Parts.{seen}
use Rattle.uw_words.specs.Numbers.{IsOneOf}
use Rattle.uw_words.specs.Records.{HoldsKey}
use Rattle.uw_words.specs.Walks.{item_word}
use Rattle.uw_items.specs.declared.records.Fields.{Fields}
use Rattle.uw_items.specs.Items.{HoldsFields, held_key}
use Rattle.uw_items.proofs.Held.{key_back}
use Rattle.uw_recency.specs.Recency.{HasRecency, IsRecency, IsRecent, next_of}
use Rattle.uw_plan.specs.Regions.{shape_of}
use Rattle.uw_plan.specs.Agreement.{Agrees, AgreesAs}
use Rattle.uw_plan.specs.Parts.{HoldEntries, HoldsEntry}
use Rattle.uw_plan.specs.Plans.{IsPaired}
use Rattle.uw_plan.proofs.OneByOne.{distinct_items}
use Rattle.uw_plan.proofs.Parted.{paired_holds, paired_item}
use Rattle.uw_plan.proofs.Planned.{seen_empty}
use Rattle.uw_plan.proofs.Sweeping.{alive_less, alive_more}
use Rattle.uw_plan.proofs.Walking.{IsEntryAt, entry_at_place, has_recency, is_recent, item_short, next_at, none_at_place, recency_then}

-- the keys of the entries that are alive at a moment
abbrev pub keys_of : CacheConf → ℕ → List Entry → List (List ℕ)
keys_of conf moment list = map (λ (e : Entry). e.key) (alive_of conf moment list)

-- some entries were passed, and the keys of those that are alive were copied; the next item holds the first of the others
pub record Passed (conf : CacheConf) (moment : ℕ) (items : List ℕ) (list : List Entry) (turn : Option ℕ) (turns : ℕ) (keys : List (List ℕ)) : Type 0 where
  pub passed : List Entry
  pub others : List Entry
  pub is : list ≡ passed ++ others
  pub count : length passed ≡ turns
  pub copied : keys ≡ keys_of conf moment passed
  pub next : turn ≡ slice_get items (length passed)

module _ (conf : CacheConf) (is : IsCacheConf conf) (words : List ℕ) (plan : Plan) (empty : plan.writes ≡ []) (has : Shape) (same : has ≡ shape_of conf) (moment : ℕ)
    (list : List Entry) (agrees : Agrees conf words list) where
  abbrev pub items : List ℕ
  items = agrees.items

  held : AgreesAs (seen plan words) (shape_of conf) conf items list
  held = subst (λ (reader : ℕ → ℕ). AgreesAs reader (shape_of conf) conf items list) (sym (seen_empty plan words empty)) agrees.agrees

  pub listed : IsRecency (seen plan words) has items
  listed = recency_then conf has same (seen plan words) items list held

  pub some_listed : HasRecency (seen plan words) has
  some_listed = has_recency conf has same (seen plan words) items list held

  pub passed_none : (next : Option ℕ) (keys : List (List ℕ)) → next ≡ slice_get items 0 → keys ≡ [] → Passed conf moment items list next 0 keys
  passed_none next keys first none = record { passed = []; others = list; is = refl; count = refl; copied = none; next = first }

  entries_at : (next : Option ℕ) (count : ℕ) (keys : List (List ℕ)) → (before : Passed conf moment items list next count keys)
      → HoldEntries (region words) (shape_of conf) items (before.passed ++ before.others)
  entries_at next count keys before = subst (HoldEntries (region words) (shape_of conf) items) before.is agrees.agrees.entries

  -- where there is no next item, all were passed
  all_passed : (next : Option ℕ) (count : ℕ) (keys : List (List ℕ)) → (before : Passed conf moment items list next count keys) → before.others ≡ []
      → keys ≡ keys_of conf moment list
  all_passed next count keys before none =
      let all : list ≡ before.passed = before.is ∙ ap (λ (l : List Entry). before.passed ++ l) none ∙ append-nil before.passed in
      before.copied ∙ ap (keys_of conf moment) (sym all)

  pub none_next : (next : Option ℕ) (count : ℕ) (keys : List (List ℕ)) → next ≡ None → Passed conf moment items list next count keys → keys ≡ keys_of conf moment list
  none_next next count keys none before =
      all_passed next count keys before
      (none_at_place (region words) (shape_of conf) items before.passed before.others (entries_at next count keys before) (sym before.next ∙ none))

  pub none_after : (next : Option ℕ) (count : ℕ) (keys : List (List ℕ)) → has.n_items ≤ count → Passed conf moment items list next count keys → keys ≡ keys_of conf moment list
  none_after next count keys many before =
      let few : length list ≤ count = omega (arith, agrees.agrees.fits.state.few, ap (λ (s : Shape). s.n_items) same, many) in
      all_passed next count keys before (no_more before.others (omega (arith, ap length before.is, length-append before.passed before.others, before.count, few)))
    where
      no_more : (l : List Entry) → length l ≡ 0 → l ≡ []
      no_more [] none = refl
      no_more (e ∷ l) none = absurd (omega (arith, none))

  -- one more is passed
  module _ (next : Option ℕ) (item count : ℕ) (keys : List (List ℕ)) (some : next ≡ Some item) (before : Passed conf moment items list next count keys) where
    here : slice_get items (length before.passed) ≡ Some item
    here = sym before.next ∙ some

    met : IsEntryAt items before.passed before.others item
    met = entry_at_place (region words) (shape_of conf) items before.passed before.others item (entries_at next count keys before) here

    paired : IsPaired items list item met.e
    paired = subst (λ (l : List Entry). IsPaired items l item met.e) (sym before.is) met.paired

    pub one : IsOneOf items item
    one = paired_item items list item met.e paired

    pub short : item < has.n_items
    short = item_short conf has same (seen plan words) items list held item one

    pub recent : IsRecent (seen plan words) has item
    recent = is_recent conf has same (seen plan words) items list held item one

    entry : HoldsEntry (region words) (shape_of conf) item met.e
    entry = paired_holds (region words) (shape_of conf) items list item met.e agrees.agrees.entries paired

    key_held : HoldsKey (region words) has item met.e.key
    key_held = subst (λ (s : Shape). HoldsKey (region words) s item met.e.key) (sym same) entry.key

    pub key_fits : item_word (region words) has item 6 ≤ 8 * has.key_words
    key_fits = omega (arith, key_held.len, key_held.fits)

    key_is : held_key (region words) has item ≡ met.e.key
    key_is = key_back has (region words) item met.e.key entry.key_bytes key_held

    alive_word : (fields : Fields) → HoldsFields (seen plan words) has item fields → is_alive_until conf moment fields.dies ≡ is_alive conf moment met.e
    alive_word fields holds =
        let seen_holds : HoldsFields (seen plan words) (shape_of conf) item fields = subst (λ (s : Shape). HoldsFields (seen plan words) s item fields) same holds in
        let there : HoldsFields (region words) (shape_of conf) item fields =
        subst (λ (reader : ℕ → ℕ). HoldsFields reader (shape_of conf) item fields) (seen_empty plan words empty) seen_holds in
        ap (is_alive_until conf moment) (sym there.dies ∙ entry.fields.dies)

    list_is : list ≡ (before.passed ++ (met.e ∷ [])) ++ met.more
    list_is = before.is ∙ ap (λ (l : List Entry). before.passed ++ l) met.is ∙ sym (append_assoc before.passed (met.e ∷ []) met.more)

    passed_more : (later : Option ℕ) (more : List (List ℕ)) → later ≡ next_of items item → more ≡ keys_of conf moment (before.passed ++ (met.e ∷ []))
        → Passed conf moment items list later (count + 1) more
    passed_more later more follows copied =
        let longer : length (before.passed ++ (met.e ∷ [])) ≡ length before.passed + 1 = length-append before.passed (met.e ∷ []) in
        let at : suc (length before.passed) ≡ length (before.passed ++ (met.e ∷ [])) = omega (arith, longer) in
        record {
          passed = before.passed ++ (met.e ∷ []);
          others = met.more;
          is = list_is;
          count = omega (arith, longer, before.count);
          copied = copied;
          next =
              follows
              ∙ next_at items (length before.passed) item (distinct_items conf is words (region words) items list agrees.agrees) here
              ∙ ap (slice_get items) at;
        }

    module _ (later : Option ℕ) (follows : later ≡ next_of items item) (fields : Fields) (holds : HoldsFields (seen plan words) has item fields) where
      pub passed_dead : is_alive_until conf moment fields.dies ≡ false → Passed conf moment items list later (count + 1) keys
      passed_dead fails =
          let dead : is_alive conf moment met.e ≡ false = sym (alive_word fields holds) ∙ fails in
          passed_more later keys follows (before.copied ∙ ap (map (λ (e : Entry). e.key)) (sym (alive_less conf moment before.passed met.e dead)))

      pub passed_alive : (key : List ℕ) (more : List (List ℕ)) → is_alive_until conf moment fields.dies ≡ true → key ≡ held_key (region words) has item → more ≡ keys ++ (key ∷ [])
          → Passed conf moment items list later (count + 1) more
      passed_alive key more passes read pushed =
          let alive : is_alive conf moment met.e ≡ true = sym (alive_word fields holds) ∙ passes in
          let all : keys_of conf moment (before.passed ++ (met.e ∷ [])) ≡ keys_of conf moment before.passed ++ (met.e.key ∷ []) =
          ap (map (λ (e : Entry). e.key)) (alive_more conf moment before.passed met.e alive) ∙ map-append (λ (e : Entry). e.key) (alive_of conf moment before.passed) (met.e ∷ []) in
          passed_more later more follows
          (pushed ∙ ap (λ (l : List (List ℕ)). l ++ (key ∷ [])) before.copied ∙ ap (λ (k : List ℕ). keys_of conf moment before.passed ++ (k ∷ [])) (read ∙ key_is) ∙ sym all)
