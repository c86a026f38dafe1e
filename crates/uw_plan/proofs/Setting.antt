-- What the calls plan and answer that write an entry.
use Rattle.std.proofs.Common.{◌≡◌, ℕ, ◌+◌, ◌≤◌, nat_lt, Bool, true, false, cond, not, List, [], length, slice_get, Option, None, Some, IfSome, is_some, unwrap_or, ℤ, refl, sym, ap, ◌∙◌, subst, arith}
use Rattle.std.proofs.lemmas.Bool.{cond-false, cond-true, not_from_false, not_from_true}
use Rattle.std.proofs.lemmas.Option.{cond_some, none-some}
use Rattle.std.proofs.lemmas.Bool.Decides.{nat_tests}
use Rattle.uw_model.specs.declared.conf.CacheConf.{CacheConf}
use Rattle.uw_model.specs.declared.entries.Entry.{Entry}
use Rattle.uw_model.specs.declared.calls.Answer.{Answer}
use Rattle.uw_model.specs.declared.calls.Call.{Call}
use Rattle.uw_model.specs.declared.calls.MathOp.{MathOp}
use Rattle.uw_model.specs.declared.calls.Call.TheVariants as calls
use Rattle.uw_model.specs.declared.calls.Answer.TheVariants as answers
use Rattle.uw_model.specs.Laws.{is_refusal}
use Rattle.uw_model.specs.Calls.{Outcome, alive_at, answer, bytes_of_number, dies_at, dies_of_number, is_bad_key, is_in_range, is_no_number, is_too_long, is_zero_division, number_at, number_outcome, outcome, placed, refused, result_of, written}
use Rattle.uw_model.specs.Entries.{IsCacheConf, max_value, new_entry, span}
use Rattle.uw_model.specs.Placement.{first_run}
use Rattle.uw_model.proofs.NextStateLemmas.{fit_of, number_fit}
use Rattle.uw_words.specs.declared.shape.Shape.{Shape}
use Rattle.uw_words.specs.Plans.{Plan}
use Rattle.uw_words.specs.Parts.{seen}
use Rattle.uw_words.specs.Texts.{text_words}
use Rattle.uw_words.specs.Walks.{item_word}
use Rattle.uw_plan.specs.Regions.{shape_of}
use Rattle.uw_plan.specs.Agreement.{Agrees, AgreesAs}
use Rattle.uw_plan.specs.Bounds.{has_written, written_entry}
use Rattle.uw_plan.specs.CallSteps.{HasSpareFor, IsItemOf, IsPut}
use Rattle.uw_plan.specs.CallPlanSteps.{IsNumberAt, IsPlanned, IsUnplanned}
use Rattle.uw_plan.specs.Parts.{HoldsEntry}
use Rattle.uw_plan.specs.Plans.{IsInUse, IsPaired}
use Rattle.uw_plan.proofs.Calling.{has_spare}
use Rattle.uw_plan.proofs.Parted.{paired_holds}
use Rattle.uw_plan.proofs.Planned.{planned_enters, planned_nothing}

-- there is room for a key and a value that a configuration allows, whatever leaves for them
pub write_room : (conf : CacheConf) (words : List ℕ) (plan : Plan) → IsUnplanned conf words plan → (key value : List ℕ) → is_bad_key conf key ≡ false → is_too_long conf value ≡ false
    → (items : List ℕ) (list : List Entry) → AgreesAs (seen plan words) (shape_of conf) conf items list
    → HasSpareFor conf list (32 + text_words (length key) + text_words (length value)) plan
write_room conf words plan ready key value good short items list held =
    let fit = fit_of conf key value good short in
    has_spare conf words plan ready list (32 + text_words (length key) + text_words (length value)) held.fits.state.few (omega (arith, fit.of_key.1, fit.of_value))

-- a call that is not refused before room is made writes an entry, or is refused as full
module _ (conf : CacheConf) (words : List ℕ) (before after : Plan) (ready : IsUnplanned conf words before) (list : List Entry) (agrees : Agrees conf words list) (now : ℕ) (call : Call)
    (key value : List ℕ) (dies : ℕ) (answered : Answer) (is : outcome conf list now call ≡ written conf list now key value dies answered) where
  module _ (put : IsPut conf words before after now key value dies list true) where
    abbrev kept : List Entry
    kept = put.0

    abbrev entry : Entry
    entry = new_entry key value dies (unwrap_or (first_run conf kept (span conf value)) 0) now

    entered : outcome conf list now call ≡ placed conf list now key value dies answered (Some kept)
    entered = is ∙ ap (placed conf list now key value dies answered) put.1.0

    pub wrote_plan : has_written call answered ≡ true → is_refusal answered ≡ false → IsPlanned conf words after list now call
    wrote_plan writes told =
        let some : written_entry conf list now call ≡ Some entry =
        ap (λ (o : Outcome). cond (has_written call o.answer) (slice_get o.list 0) None) entered ∙ cond-true (has_written call answered) (Some entry) None writes in
        planned_enters conf ready.is words list agrees.agrees.fits.state.few now call before after entry kept (ap is_refusal (ap (λ (o : Outcome). o.answer) entered) ∙ told) ready.empty some (ap (λ (o : Outcome). o.list) entered) put.1.1

    pub wrote_answer : answered ≡ answer conf list now call
    wrote_answer = sym (ap (λ (o : Outcome). o.answer) entered)

  module _ (put : IsPut conf words before after now key value dies list false) where
    full : outcome conf list now call ≡ refused answers.Full list
    full = is ∙ ap (placed conf list now key value dies answered) put

    pub full_plan : after.writes ≡ [] → IsPlanned conf words after list now call
    full_plan empty = planned_nothing conf ready.is words list agrees.agrees.fits.state.few now call after agrees empty (ap (λ (o : Outcome). o.list) full)

    pub full_answer : answers.Full ≡ answer conf list now call
    full_answer = sym (ap (λ (o : Outcome). o.answer) full)

-- an update
module _ (conf : CacheConf) (list : List Entry) (now : ℕ) (key value : List ℕ) (ttl : ℕ) where
  abbrev update : Call
  update = calls.Update key value ttl

  abbrev wrote_value : Outcome
  wrote_value = written conf list now key value (dies_at now ttl) answers.Done

  abbrev sized : Outcome → Outcome
  sized rest = cond (is_too_long conf value) (refused answers.TooLong list) rest

  pub bad_update : is_bad_key conf key ≡ true → outcome conf list now (calls.Update key value ttl) ≡ refused answers.KeyLength list
  bad_update bad = cond-true (is_bad_key conf key) (refused answers.KeyLength list) (sized wrote_value) bad

  pub long_update : is_bad_key conf key ≡ false → is_too_long conf value ≡ true → outcome conf list now (calls.Update key value ttl) ≡ refused answers.TooLong list
  long_update good long =
      cond-false (is_bad_key conf key) (refused answers.KeyLength list) (sized wrote_value) good ∙ cond-true (is_too_long conf value) (refused answers.TooLong list) wrote_value long

  pub good_update : (dies : ℕ) → dies ≡ dies_at now ttl → is_bad_key conf key ≡ false → is_too_long conf value ≡ false
      → outcome conf list now (calls.Update key value ttl) ≡ written conf list now key value dies answers.Done
  good_update dies of good short =
      cond-false (is_bad_key conf key) (refused answers.KeyLength list) (sized wrote_value) good ∙ cond-false (is_too_long conf value) (refused answers.TooLong list) wrote_value short
      ∙ ap (λ (d : ℕ). written conf list now key value d answers.Done) (sym of)

  -- and a set, which is an update of a key without an alive entry
  abbrev unless_alive : Outcome
  unless_alive = cond (is_some (alive_at conf list now key)) (refused answers.Exists list) wrote_value

  pub bad_set : is_bad_key conf key ≡ true → outcome conf list now (calls.Set key value ttl) ≡ refused answers.KeyLength list
  bad_set bad = cond-true (is_bad_key conf key) (refused answers.KeyLength list) (sized unless_alive) bad

  pub long_set : is_bad_key conf key ≡ false → is_too_long conf value ≡ true → outcome conf list now (calls.Set key value ttl) ≡ refused answers.TooLong list
  long_set good long =
      cond-false (is_bad_key conf key) (refused answers.KeyLength list) (sized unless_alive) good ∙ cond-true (is_too_long conf value) (refused answers.TooLong list) unless_alive long

  short_set : is_bad_key conf key ≡ false → is_too_long conf value ≡ false → outcome conf list now (calls.Set key value ttl) ≡ unless_alive
  short_set good short =
      cond-false (is_bad_key conf key) (refused answers.KeyLength list) (sized unless_alive) good ∙ cond-false (is_too_long conf value) (refused answers.TooLong list) unless_alive short

  pub alive_set : is_bad_key conf key ≡ false → is_too_long conf value ≡ false → is_some (alive_at conf list now key) ≡ true
      → outcome conf list now (calls.Set key value ttl) ≡ refused answers.Exists list
  alive_set good short alive = short_set good short ∙ cond-true (is_some (alive_at conf list now key)) (refused answers.Exists list) wrote_value alive

  pub good_set : (dies : ℕ) → dies ≡ dies_at now ttl → is_bad_key conf key ≡ false → is_too_long conf value ≡ false → is_some (alive_at conf list now key) ≡ false
      → outcome conf list now (calls.Set key value ttl) ≡ written conf list now key value dies answers.Done
  good_set dies of good short dead =
      short_set good short ∙ cond-false (is_some (alive_at conf list now key)) (refused answers.Exists list) wrote_value dead
      ∙ ap (λ (d : ℕ). written conf list now key value d answers.Done) (sym of)

-- an item that holds an entry is in use
pub used_found : (reader : ℕ → ℕ) (conf : CacheConf) (items : List ℕ) (list : List Entry) (entry : Option Entry) (item : Option ℕ) → AgreesAs reader (shape_of conf) conf items list
    → IsItemOf items list entry item → IfSome item (λ i. IsInUse reader (shape_of conf) conf i)
used_found reader conf items list e None agrees none = tt
used_found reader conf items list e (Some item) agrees found = (items, list, found.0, (agrees, found.1.1))

-- when the entry dies that an item holds
pub dies_read : (shape : Shape) (reader : ℕ → ℕ) (conf : CacheConf) (items : List ℕ) (list : List Entry) (item : ℕ) (e : Entry) (dies : ℕ) → shape ≡ shape_of conf
    → AgreesAs reader (shape_of conf) conf items list → IsPaired items list item e → item_word reader shape item 3 ≡ dies → e.dies ≡ dies
dies_read shape reader conf items list item e dies same agrees paired read =
    let holds : HoldsEntry reader (shape_of conf) item e = paired_holds reader (shape_of conf) items list item e agrees.entries paired in
    sym holds.fields.dies ∙ subst (λ (s : Shape). item_word reader s item 3 ≡ dies) same read

-- the eight bytes of a number are not too many
pub number_short : (conf : CacheConf) (key : List ℕ) (number : ℤ) → IsCacheConf conf → is_bad_key conf key ≡ false → is_too_long conf (bytes_of_number number) ≡ false
number_short conf key number is good =
    let fit = number_fit conf key number is good in
    let few : length (bytes_of_number number) ≤ max_value conf = fit.of_value in
    short (length (bytes_of_number number)) (max_value conf) few
  where
    short : (bytes most : ℕ) → bytes ≤ most → nat_lt most bytes ≡ false
    short bytes most few = grind (arith, nat_tests)

-- a number that is out of range
none_or : (holds : Bool) (result : ℤ) → None ≡ cond holds (Some result) None → holds ≡ false
none_or true result none = absurd (none-some result none)
none_or false result none = refl

-- the number of a key that is changed
module _ (conf : CacheConf) (list : List Entry) (now : ℕ) (op : MathOp) (key : List ℕ) (by : ℤ) (ttl : ℕ) where
  abbrev alive : Option Entry
  alive = alive_at conf list now key

  abbrev reckon : ℤ → Outcome
  reckon number = number_outcome conf list now key ttl alive (result_of op number by)

  abbrev divide : Outcome
  divide = cond (is_zero_division op by) (refused answers.ZeroDivisor list) (reckon (number_at alive))

  abbrev read : Outcome
  read = cond (is_no_number alive) (refused answers.NotNumber list) divide

  pub bad_math : is_bad_key conf key ≡ true → outcome conf list now (calls.Math op key by ttl) ≡ refused answers.KeyLength list
  bad_math bad = cond-true (is_bad_key conf key) (refused answers.KeyLength list) read bad

  pub no_number_math : is_bad_key conf key ≡ false → is_no_number alive ≡ true → outcome conf list now (calls.Math op key by ttl) ≡ refused answers.NotNumber list
  no_number_math good none =
      cond-false (is_bad_key conf key) (refused answers.KeyLength list) read good ∙ cond-true (is_no_number alive) (refused answers.NotNumber list) divide none

  module _ (good : is_bad_key conf key ≡ false) (number : ℤ) (found : IsNumberAt alive (Some number)) where
    read_math : outcome conf list now (calls.Math op key by ttl) ≡ divide
    read_math = cond-false (is_bad_key conf key) (refused answers.KeyLength list) read good ∙ cond-false (is_no_number alive) (refused answers.NotNumber list) divide found.0

    pub zero_math : is_zero_division op by ≡ true → outcome conf list now (calls.Math op key by ttl) ≡ refused answers.ZeroDivisor list
    zero_math zero = read_math ∙ cond-true (is_zero_division op by) (refused answers.ZeroDivisor list) (reckon (number_at alive)) zero

    module _ (divides : is_zero_division op by ≡ false) where
      reckoned : outcome conf list now (calls.Math op key by ttl) ≡ reckon number
      reckoned =
          read_math ∙ cond-false (is_zero_division op by) (refused answers.ZeroDivisor list) (reckon (number_at alive)) divides
          ∙ ap reckon (sym found.1)

      abbrev result_is : ℤ
      result_is = result_of op number by

      abbrev last : Outcome
      last = written conf list now key (bytes_of_number result_is) (dies_of_number now ttl alive) (answers.Number result_is)

      pub range_math : None ≡ cond (is_in_range result_is) (Some result_is) None → outcome conf list now (calls.Math op key by ttl) ≡ refused answers.Range list
      range_math none =
          reckoned ∙ cond-true (not (is_in_range result_is)) (refused answers.Range list) last (not_from_false (is_in_range result_is) (none_or (is_in_range result_is) result_is none))

      pub good_math : (result : ℤ) (dies : ℕ) (value : List ℕ) → Some result ≡ cond (is_in_range result_is) (Some result_is) None → dies ≡ dies_of_number now ttl alive
          → value ≡ bytes_of_number result → outcome conf list now (calls.Math op key by ttl) ≡ written conf list now key value dies (answers.Number result)
      good_math result dies value some moment bytes =
          let fits : (is_in_range result_is ≡ true) × (result_is ≡ result) = cond_some (is_in_range result_is) result_is result (sym some) in
          reckoned ∙ cond-false (not (is_in_range result_is)) (refused answers.Range list) last (not_from_true (is_in_range result_is) fits.0)
          ∙ ap (λ (r : ℤ). written conf list now key (bytes_of_number r) (dies_of_number now ttl alive) (answers.Number r)) fits.1
          ∙ ap (λ (d : ℕ). written conf list now key (bytes_of_number result) d (answers.Number result)) (sym moment)
          ∙ ap (λ (v : List ℕ). written conf list now key v dies (answers.Number result)) (sym bytes)
