-- The entries that are dead leave the list, from the most recent one on.
use Rattle.std.proofs.Common.{◌≡◌, ℕ, suc, ◌+◌, ◌≤◌, true, false, not, List, [], ◌∷◌, ◌++◌, Option, Some, None, append-nil, append_assoc, filter, length, slice_get, refl, sym, ap, ◌∙◌, subst, arith}
use Rattle.std.proofs.lemmas.List.{length-append}
use Rattle.std.proofs.lemmas.List.Elements.{filter-append}
use Rattle.uw_model.specs.declared.conf.CacheConf.{CacheConf}
use Rattle.uw_model.specs.declared.entries.Entry.{Entry}
use Rattle.uw_model.specs.Entries.{AreApart, IsCacheConf}
use Rattle.uw_model.specs.Calls.{without}
use Rattle.uw_model.specs.Placement.{alive_of, is_alive, is_alive_until}
use Rattle.uw_model.proofs.PartLemmas.{part_filter, part_length}
use Rattle.uw_words.specs.declared.shape.Shape.{Shape}
use Rattle.uw_words.specs.Plans.{Plan}
use Rattle.uw_words.specs.Parts.{seen}
use Rattle.uw_words.specs.Numbers.{without_number}
use Rattle.uw_items.specs.declared.records.Fields.{Fields}
use Rattle.uw_items.specs.Items.{HoldsFields}
use Rattle.uw_recency.specs.Recency.{next_of}
use Rattle.uw_plan.specs.Regions.{shape_of}
use Rattle.uw_plan.specs.Agreement.{AgreesAs}
use Rattle.uw_plan.specs.Plans.{Costs, IsPaired, item_run_places}
use Rattle.uw_plan.specs.CallSteps.{LeaveOneByOne, Leaves}
use Rattle.uw_plan.proofs.Parted.{paired_holds}
use Rattle.uw_plan.proofs.Counting.{costs_none}
use Rattle.uw_plan.proofs.OneByOne.{distinct_items, leaves_more, without_midst}
use Rattle.uw_plan.proofs.Walking.{IsEntryAt, entry_at_place, left_at, next_at, none_at_place}

-- the entries that are dead at a moment
abbrev pub dead_of : CacheConf → ℕ → List Entry → List Entry
dead_of conf moment list = filter (λ e. not (is_alive conf moment e)) list

-- some entries were passed, of which those that were dead left, and the next item holds the first of the others
pub record Swept (conf : CacheConf) (words : List ℕ) (moment : ℕ) (before now : Plan) (list : List Entry) (turn : Option ℕ) (turns number : ℕ) : Type 0 where
  pub passed : List Entry
  pub others : List Entry
  pub is : list ≡ passed ++ others
  pub count : length passed ≡ turns
  pub gone : number ≡ length (dead_of conf moment passed)
  pub leaves : Leaves conf words before now list (alive_of conf moment passed ++ others)
  pub next : turn ≡ slice_get leaves.items (length (alive_of conf moment passed))

module _ (conf : CacheConf) (moment : ℕ) where
  pub alive_more : (passed : List Entry) (e : Entry) → is_alive conf moment e ≡ true → alive_of conf moment (passed ++ (e ∷ [])) ≡ alive_of conf moment passed ++ (e ∷ [])
  alive_more passed e alive = filter-append (is_alive conf moment) passed (e ∷ []) ∙ ap (λ (l : List Entry). alive_of conf moment passed ++ l) (rw alive refl)

  pub alive_less : (passed : List Entry) (e : Entry) → is_alive conf moment e ≡ false → alive_of conf moment (passed ++ (e ∷ [])) ≡ alive_of conf moment passed
  alive_less passed e dead =
      filter-append (is_alive conf moment) passed (e ∷ []) ∙ ap (λ (l : List Entry). alive_of conf moment passed ++ l) (rw dead refl) ∙ append-nil (alive_of conf moment passed)

  dead_more : (passed : List Entry) (e : Entry) → is_alive conf moment e ≡ false → length (dead_of conf moment (passed ++ (e ∷ []))) ≡ length (dead_of conf moment passed) + 1
  dead_more passed e dead =
      let more : dead_of conf moment (e ∷ []) ≡ e ∷ [] = rw dead refl in
      ap length (filter-append (λ e. not (is_alive conf moment e)) passed (e ∷ []) ∙ ap (λ (l : List Entry). dead_of conf moment passed ++ l) more)
      ∙ length-append (dead_of conf moment passed) (e ∷ [])

  dead_same : (passed : List Entry) (e : Entry) → is_alive conf moment e ≡ true → dead_of conf moment (passed ++ (e ∷ [])) ≡ dead_of conf moment passed
  dead_same passed e alive =
      filter-append (λ e. not (is_alive conf moment e)) passed (e ∷ []) ∙ ap (λ (l : List Entry). dead_of conf moment passed ++ l) (rw alive refl) ∙ append-nil (dead_of conf moment passed)

module _ (conf : CacheConf) (is : IsCacheConf conf) (words : List ℕ) (moment : ℕ) (before : Plan) (list : List Entry) where
  abbrev pub shape : Shape
  shape = shape_of conf

  pub swept_none : (items : List ℕ) (next : Option ℕ) → AgreesAs (seen before words) shape conf items list → next ≡ slice_get items 0 → Swept conf words moment before before list next 0 0
  swept_none items next agrees first = record {
    passed = [];
    others = list;
    is = refl;
    count = refl;
    gone = refl;
    leaves = record { gone = []; items = items; leave = refl; agrees = agrees; costs = costs_none shape before };
    next = first;
  }

  -- where there is no next item, all were passed
  pub swept_all : (now : Plan) (next : Option ℕ) (count gone : ℕ) → (swept : Swept conf words moment before now list next count gone) → swept.others ≡ []
      → Leaves conf words before now list (alive_of conf moment list) × (gone ≡ length (dead_of conf moment list))
  swept_all now next count gone swept none =
      let all : list ≡ swept.passed = swept.is ∙ ap (λ (l : List Entry). swept.passed ++ l) none ∙ append-nil swept.passed in
      let kept : alive_of conf moment swept.passed ++ swept.others ≡ alive_of conf moment list =
      ap (λ (l : List Entry). alive_of conf moment swept.passed ++ l) none ∙ append-nil (alive_of conf moment swept.passed) ∙ ap (alive_of conf moment) (sym all) in
      (subst (λ (l : List Entry). Leaves conf words before now list l) kept swept.leaves, swept.gone ∙ ap (λ (l : List Entry). length (dead_of conf moment l)) (sym all))

  pub none_next : (now : Plan) (count gone : ℕ) → (swept : Swept conf words moment before now list None count gone) → swept.others ≡ []
  none_next now count gone swept =
      none_at_place (seen now words) shape swept.leaves.items (alive_of conf moment swept.passed) swept.others swept.leaves.agrees.entries (sym swept.next)

  pub none_after : (now : Plan) (next : Option ℕ) (count gone : ℕ) → (swept : Swept conf words moment before now list next count gone) → length list ≤ count → swept.others ≡ []
  none_after now next count gone swept few = empty swept.others (omega (arith, ap length swept.is, length-append swept.passed swept.others, swept.count, few))
    where
      empty : (l : List Entry) → length l ≡ 0 → l ≡ []
      empty [] none = refl
      empty (e ∷ l) none = absurd (omega (arith, none))

  -- no more left than there are entries
  pub few_gone : (now : Plan) (next : Option ℕ) (count gone : ℕ) → (swept : Swept conf words moment before now list next count gone) → gone ≤ length list
  few_gone now next count gone swept =
      let few : length (dead_of conf moment swept.passed) ≤ length swept.passed = part_length (part_filter (λ e. not (is_alive conf moment e)) swept.passed) in
      omega (arith, few, swept.gone, ap length swept.is, length-append swept.passed swept.others)

  -- one more is passed
  module _ (now : Plan) (item count gone : ℕ) (swept : Swept conf words moment before now list (Some item) count gone) where
    abbrev pub kept : List Entry
    kept = alive_of conf moment swept.passed ++ swept.others

    pub met : IsEntryAt swept.leaves.items (alive_of conf moment swept.passed) swept.others item
    met = entry_at_place (seen now words) shape swept.leaves.items (alive_of conf moment swept.passed) swept.others item swept.leaves.agrees.entries (sym swept.next)

    list_is : list ≡ (swept.passed ++ (met.e ∷ [])) ++ met.more
    list_is = swept.is ∙ ap (λ (l : List Entry). swept.passed ++ l) met.is ∙ sym (append_assoc swept.passed (met.e ∷ []) met.more)

    passed_count : length (swept.passed ++ (met.e ∷ [])) ≡ count + 1
    passed_count = omega (arith, length-append swept.passed (met.e ∷ []), swept.count)

    pub alive_word : (fields : Fields) → HoldsFields (seen now words) shape item fields → is_alive_until conf moment fields.dies ≡ is_alive conf moment met.e
    alive_word fields holds =
        let entry = paired_holds (seen now words) shape swept.leaves.items kept item met.e swept.leaves.agrees.entries met.paired in
        ap (is_alive_until conf moment) (sym holds.dies ∙ entry.fields.dies)

    pub swept_alive : (next : Option ℕ) → next ≡ next_of swept.leaves.items item → is_alive conf moment met.e ≡ true → Swept conf words moment before now list next (count + 1) gone
    swept_alive next follows alive =
        let more : alive_of conf moment (swept.passed ++ (met.e ∷ [])) ≡ alive_of conf moment swept.passed ++ (met.e ∷ []) = alive_more conf moment swept.passed met.e alive in
        let same : kept ≡ alive_of conf moment (swept.passed ++ (met.e ∷ [])) ++ met.more =
        ap (λ (l : List Entry). alive_of conf moment swept.passed ++ l) met.is ∙ sym (append_assoc (alive_of conf moment swept.passed) (met.e ∷ []) met.more)
        ∙ ap (λ (l : List Entry). l ++ met.more) (sym more) in
        let at : suc (length (alive_of conf moment swept.passed)) ≡ length (alive_of conf moment (swept.passed ++ (met.e ∷ []))) =
        omega (arith, ap length more, length-append (alive_of conf moment swept.passed) (met.e ∷ [])) in
        let old = swept.leaves in
        record {
          passed = swept.passed ++ (met.e ∷ []);
          others = met.more;
          is = list_is;
          count = passed_count;
          gone = swept.gone ∙ sym (ap length (dead_same conf moment swept.passed met.e alive));
          leaves = record {
            gone = old.gone;
            items = old.items;
            leave = subst (λ (l : List Entry). LeaveOneByOne list old.gone l) same old.leave;
            agrees = subst (λ (l : List Entry). AgreesAs (seen now words) shape conf old.items l) same old.agrees;
            costs = old.costs;
          };
          next =
              follows
              ∙ next_at old.items (length (alive_of conf moment swept.passed)) item (distinct_items conf is words (seen now words) old.items kept old.agrees) (sym swept.next)
              ∙ ap (slice_get old.items) at;
        }

    module _ (later : Plan) (next : Option ℕ) (follows : next ≡ next_of swept.leaves.items item) (dead : is_alive conf moment met.e ≡ false)
        (drops : (items : List ℕ) (list : List Entry) (e : Entry) → AgreesAs (seen now words) shape conf items list → IsPaired items list item e
        → AgreesAs (seen later words) shape conf (without_number items item) (without e.key list))
        (costs : Costs shape 16 (item_run_places (seen now words) shape conf item) now later) where
      left_is : without met.e.key kept ≡ alive_of conf moment (swept.passed ++ (met.e ∷ [])) ++ met.more
      left_is =
          let split : kept ≡ alive_of conf moment swept.passed ++ (met.e ∷ met.more) = ap (λ (l : List Entry). alive_of conf moment swept.passed ++ l) met.is in
          ap (without met.e.key) split
          ∙ without_midst conf (alive_of conf moment swept.passed) met.e met.more (subst (AreApart conf) split swept.leaves.agrees.fits.state.apart)
          ∙ ap (λ (l : List Entry). l ++ met.more) (sym (alive_less conf moment swept.passed met.e dead))

      pub swept_dead : Swept conf words moment before later list next (count + 1) (gone + 1)
      swept_dead =
          let old = swept.leaves in
          let left = leaves_more conf is words before now list kept old item met.e met.paired later drops costs in
          let at : length (alive_of conf moment swept.passed) ≡ length (alive_of conf moment (swept.passed ++ (met.e ∷ []))) =
          sym (ap length (alive_less conf moment swept.passed met.e dead)) in
          let distinct = distinct_items conf is words (seen now words) old.items kept old.agrees in
          record {
            passed = swept.passed ++ (met.e ∷ []);
            others = met.more;
            is = list_is;
            count = passed_count;
            gone = omega (arith, swept.gone, dead_more conf moment swept.passed met.e dead);
            leaves = record {
              gone = left.gone;
              items = without_number old.items item;
              leave = subst (λ (l : List Entry). LeaveOneByOne list left.gone l) left_is left.leave;
              agrees = subst (λ (l : List Entry). AgreesAs (seen later words) shape conf (without_number old.items item) l) left_is (drops old.items kept met.e old.agrees met.paired);
              costs = left.costs;
            };
            next =
                follows ∙ next_at old.items (length (alive_of conf moment swept.passed)) item distinct (sym swept.next)
                ∙ sym (left_at old.items (length (alive_of conf moment swept.passed)) item distinct (sym swept.next))
                ∙ ap (slice_get (without_number old.items item)) at;
          }
