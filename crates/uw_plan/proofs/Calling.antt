-- A region that nothing is planned for, and the outcome of each call on it.
use Rattle.std.proofs.Common.{◌≡◌, inl, inr, ℕ, ◌+◌, ◌≤◌, ◌==◌, Bool, true, false, cond, not, List, ◌∷◌, filter, length, Option, None, Some, is_some, ℤ, refl, sym, ap, ◌∙◌, subst, arith}
use Rattle.std.proofs.lemmas.Bool.{cases_Bool, cond-false, cond-true}
use Rattle.uw_model.specs.declared.conf.CacheConf.{CacheConf}
use Rattle.uw_model.specs.declared.entries.Entry.{Entry}
use Rattle.uw_model.specs.declared.calls.Call.{Call}
use Rattle.uw_model.specs.declared.calls.Call.TheVariants as calls
use Rattle.uw_model.specs.declared.calls.Answer.TheVariants as answers
use Rattle.uw_model.specs.Laws.{is_refusal}
use Rattle.uw_model.specs.Calls.{Outcome, alive_at, answer, deleted, got, is_bad_key, is_no_number, next_state, number_at, number_of, outcome, refused, without}
use Rattle.uw_model.specs.Entries.{IsCacheConf}
use Rattle.uw_model.specs.Layout.{key_words, value_words, words_of}
use Rattle.uw_words.specs.declared.shape.Shape.{Shape}
use Rattle.uw_words.specs.Plans.{Plan, region}
use Rattle.uw_words.specs.Numbers.{AreDistinct}
use Rattle.uw_words.specs.Parts.{places_of, seen}
use Rattle.uw_words.specs.Walks.{item_word}
use Rattle.uw_items.specs.Items.{LieInBlocks}
use Rattle.uw_items.proofs.Held.{value_back}
use Rattle.uw_plan.specs.Regions.{shape_of}
use Rattle.uw_plan.specs.Agreement.{Agrees, AgreesAs}
use Rattle.uw_plan.specs.Plans.{IsPaired, count_of_others, is_bit_place}
use Rattle.uw_plan.specs.CallSteps.{HasEntries, HasSpareFor, IsItemOf}
use Rattle.uw_plan.specs.Parts.{HoldsEntry, fields_of_entry}
use Rattle.uw_plan.specs.CallPlanSteps.{IsNumberAt, IsPlanned, IsUnplanned}
use Rattle.uw_plan.specs.Told.{HoldsValueOf, TellsValue}
use Rattle.uw_plan.proofs.Shapes.{IsShapeOf, entry_lies, shape_of_conf}
use Rattle.uw_plan.proofs.Parted.{paired_entry, paired_holds}
use Rattle.uw_plan.proofs.Dropping.{item_short}
use Rattle.uw_plan.proofs.Planned.{planned_nothing, seen_empty}

module _ (conf : CacheConf) (words : List ℕ) (plan : Plan) (ready : IsUnplanned conf words plan) where
  pub region_length : length words ≡ words_of conf
  region_length = ready.some.1.len

  pub seen_agrees : (list : List Entry) → (agrees : Agrees conf words list) → AgreesAs (seen plan words) (shape_of conf) conf agrees.items list
  seen_agrees list agrees = subst (λ (reader : ℕ → ℕ). AgreesAs reader (shape_of conf) conf agrees.items list) (sym (seen_empty plan words ready.empty)) agrees.agrees

  pub has_entries : HasEntries (seen plan words) conf
  has_entries = (ready.some.1.items, ready.some.0, seen_agrees ready.some.0 ready.some.1)

  pub has_spare : (list : List Entry) (most : ℕ) → length list ≤ conf.items → most ≤ 32 + key_words conf + value_words conf → HasSpareFor conf list most plan
  has_spare list most few little =
      let none : count_of_others (shape_of conf) plan ≡ 0 =
      ap (λ (w : List (ℕ × ℕ)). length (filter (λ at. not (is_bit_place (shape_of conf) at)) (places_of w))) ready.empty in
      record {
        room = omega (arith, none, ready.room, few, little);
        distinct = subst (λ (w : List (ℕ × ℕ)). AreDistinct (filter (λ at. is_bit_place (shape_of conf) at) (places_of w))) (sym ready.empty) tt;
      }

  -- a refusal, and a call that leaves the list
  pub unchanged : (list : List Entry) → Agrees conf words list → (now : ℕ) (call : Call) → next_state conf list now call ≡ list → IsPlanned conf words plan list now call
  unchanged list agrees now call same = planned_nothing conf ready.is words list agrees.agrees.fits.state.few now call plan agrees ready.empty same

-- an item is found where an entry is
pub found_where : (items : List ℕ) (list : List Entry) (entry : Option Entry) (item : Option ℕ) → IsItemOf items list entry item → is_some item ≡ is_some entry
found_where items list entry None none = ap is_some (sym none)
found_where items list entry (Some item) found = ap is_some (sym found.1.0)

-- the outcome of a call of a key
module _ (conf : CacheConf) (list : List Entry) (now : ℕ) (key : List ℕ) where
  pub bad_get : is_bad_key conf key ≡ true → next_state conf list now (calls.Get key) ≡ list
  bad_get bad = ap (λ (o : Outcome). o.list) (cond-true (is_bad_key conf key) (refused answers.KeyLength list) (got conf list (alive_at conf list now key)) bad)

  pub good_get : (entry : Option Entry) → is_bad_key conf key ≡ false → alive_at conf list now key ≡ entry → outcome conf list now (calls.Get key) ≡ got conf list entry
  good_get entry good is =
      cond-false (is_bad_key conf key) (refused answers.KeyLength list) (got conf list (alive_at conf list now key)) good ∙ ap (got conf list) is

  pub bad_del : is_bad_key conf key ≡ true → next_state conf list now (calls.Del key) ≡ list
  bad_del bad = ap (λ (o : Outcome). o.list) (cond-true (is_bad_key conf key) (refused answers.KeyLength list) (deleted list (alive_at conf list now key)) bad)

  pub good_del : (entry : Option Entry) → is_bad_key conf key ≡ false → alive_at conf list now key ≡ entry → outcome conf list now (calls.Del key) ≡ deleted list entry
  good_del entry good is =
      cond-false (is_bad_key conf key) (refused answers.KeyLength list) (deleted list (alive_at conf list now key)) good ∙ ap (deleted list) is

  same_list : (refuses : Bool) (one two : Outcome) → one.list ≡ list → two.list ≡ list → (cond refuses one two).list ≡ list
  same_list true one two first second = first
  same_list false one two first second = second

  pub exists_leaves : next_state conf list now (calls.Exists key) ≡ list
  exists_leaves = same_list (is_bad_key conf key) (refused answers.KeyLength list) record { answer = answers.Flag (is_some (alive_at conf list now key)); list = list } refl refl

  pub exists_answer : is_bad_key conf key ≡ false → answer conf list now (calls.Exists key) ≡ answers.Flag (is_some (alive_at conf list now key))
  exists_answer good = ap (λ (o : Outcome). o.answer) (cond-false (is_bad_key conf key) (refused answers.KeyLength list) record { answer = answers.Flag (is_some (alive_at conf list now key)); list = list } good)

  pub num_leaves : next_state conf list now (calls.Num key) ≡ list
  num_leaves =
      same_list (is_bad_key conf key) (refused answers.KeyLength list)
      (cond (is_no_number (alive_at conf list now key)) (refused answers.NotNumber list) record { answer = answers.Number (number_at (alive_at conf list now key)); list = list }) refl
      (same_list (is_no_number (alive_at conf list now key)) (refused answers.NotNumber list) record { answer = answers.Number (number_at (alive_at conf list now key)); list = list } refl refl)

-- the value of an item in use stands in the blocks that it names
pub value_held : (conf : CacheConf) (shape : Shape) → IsShapeOf conf shape → (reader : ℕ → ℕ) (items : List ℕ) (list : List Entry) (item : ℕ) (e : Entry)
    → AgreesAs reader shape conf items list → IsPaired items list item e → HoldsValueOf reader shape item e.value
value_held conf shape of reader items list item e agrees paired =
    let holds : HoldsEntry reader shape item e = paired_holds reader shape items list item e agrees.entries paired in
    let lies : LieInBlocks shape e.first (length e.value) = entry_lies conf shape of e (paired_entry conf items list item e agrees.fits.state.apart paired) in
    record {
      lies = subst (λ (bytes : ℕ). LieInBlocks shape (item_word reader shape item 4) bytes) (sym holds.fields.bytes)
          (subst (λ (first : ℕ). LieInBlocks shape first (length e.value)) (sym holds.fields.first) lies);
      is = value_back shape reader item (fields_of_entry e) e.value holds.value_bytes holds.fields refl holds.value;
    }

-- a get tells the value of the item, as the region has it and as it is seen through what is planned
module _ (conf : CacheConf) (is : IsCacheConf conf) (words : List ℕ) (list : List Entry) (agrees : Agrees conf words list) (now : ℕ) (key : List ℕ)
    (good : is_bad_key conf key ≡ false) (item : ℕ) (found : IsItemOf agrees.items list (alive_at conf list now key) (Some item)) where
  abbrev e : Entry
  e = found.0

  outcome_is : outcome conf list now (calls.Get key) ≡ got conf list (Some e)
  outcome_is = good_get conf list now key (Some e) good found.1.0

  pub got_leaves : conf.purge_lru ≡ false → next_state conf list now (calls.Get key) ≡ list
  got_leaves keeps = ap (λ (o : Outcome). o.list) outcome_is ∙ cond-false conf.purge_lru (e ∷ without e.key list) list keeps

  pub got_used : conf.purge_lru ≡ true → next_state conf list now (calls.Get key) ≡ e ∷ without e.key list
  got_used purges = ap (λ (o : Outcome). o.list) outcome_is ∙ cond-true conf.purge_lru (e ∷ without e.key list) list purges

  pub got_told : is_refusal (answer conf list now (calls.Get key)) ≡ false
  got_told = ap is_refusal (ap (λ (o : Outcome). o.answer) outcome_is)

  pub got_tells : (plan : Plan) (items : List ℕ) (others : List Entry) → AgreesAs (seen plan words) (shape_of conf) conf items others → IsPaired items others item e
      → TellsValue conf words plan item (answer conf list now (calls.Get key))
  got_tells plan items others held paired = (
    e.value,
    (
      ap (λ (o : Outcome). o.answer) outcome_is,
      item_short conf (shape_of conf) (shape_of_conf conf is) (region words) agrees.items list item e agrees.agrees found.1.1,
      value_held conf (shape_of conf) (shape_of_conf conf is) (region words) agrees.items list item e agrees.agrees found.1.1,
      value_held conf (shape_of conf) (shape_of_conf conf is) (seen plan words) items others item e held paired,
    ),
  )

-- the number that an item in use has, where it is the alive one of a key
pub number_found : (alive : Entry) (number : Option ℤ) → number ≡ cond (length alive.value == 8) (Some (number_of alive.value)) None → IsNumberAt (Some alive) number
number_found alive number is = elim (cases_Bool (length alive.value == 8)) [
  | inl eight ↦
      let some : number ≡ Some (number_of alive.value) = is ∙ cond-true (length alive.value == 8) (Some (number_of alive.value)) None eight in
      subst (IsNumberAt (Some alive)) (sym some) (ap not eight, refl)
  | inr other ↦
      let none : number ≡ None = is ∙ cond-false (length alive.value == 8) (Some (number_of alive.value)) None other in
      subst (IsNumberAt (Some alive)) (sym none) (ap not other)
]

pub number_answer : (conf : CacheConf) (list : List Entry) (now : ℕ) (key : List ℕ) (number : ℤ) → is_bad_key conf key ≡ false → is_no_number (alive_at conf list now key) ≡ false
    → number ≡ number_at (alive_at conf list now key) → answer conf list now (calls.Num key) ≡ answers.Number number
number_answer conf list now key number good some is =
    let alive : Option Entry = alive_at conf list now key in
    let told : Outcome = record { answer = answers.Number (number_at alive); list = list } in
    ap (λ (o : Outcome). o.answer) (cond-false (is_bad_key conf key) (refused answers.KeyLength list) (cond (is_no_number alive) (refused answers.NotNumber list) told) good
    ∙ cond-false (is_no_number alive) (refused answers.NotNumber list) told some)
    ∙ ap answers.Number (sym is)

pub no_number_answer : (conf : CacheConf) (list : List Entry) (now : ℕ) (key : List ℕ) → is_bad_key conf key ≡ false → is_no_number (alive_at conf list now key) ≡ true
    → answer conf list now (calls.Num key) ≡ answers.NotNumber
no_number_answer conf list now key good none =
    let alive : Option Entry = alive_at conf list now key in
    let told : Outcome = record { answer = answers.Number (number_at alive); list = list } in
    ap (λ (o : Outcome). o.answer) (cond-false (is_bad_key conf key) (refused answers.KeyLength list) (cond (is_no_number alive) (refused answers.NotNumber list) told) good
    ∙ cond-true (is_no_number alive) (refused answers.NotNumber list) told none)
