-- What a number call that is not refused writes.
use Rattle.std.proofs.Common.{◌≡◌, ℕ, ◌-◌, ◌^◌, ◌<◌, ◌==◌, nat_lt, Bool, true, false, not, ◌&&◌, ◌||◌, ◌⊎◌, cond, List, [], ◌∷◌, find, Option, Some, None, unwrap_or, ℤ, pos, negsuc, ◌+ℤ◌, fold, w64, FitsSigned, refl, sym, ap, ◌∙◌, inl, inr, arith}
use Rattle.std.proofs.lemmas.Bool.{cond-false, not_from_true, not-false, both_ways, ltb-true, eqb-false, cases_Bool, and_parts}
use Rattle.std.proofs.lemmas.Int.{to_z-of_z}
use Rattle.std.proofs.lemmas.Nat.{from_le_bytes-to_le_bytes_8}
use Rattle.std.specs.Str.{bytes_eq}
use Rattle.std.specs.Int.{cast_signed, cast_unsigned}
use Rattle.std.proofs.lemmas.Option.{none-some, same_Some, cond_some}
use Rattle.uw_model.specs.declared.conf.CacheConf.{CacheConf}
use Rattle.uw_model.specs.declared.entries.Entry.{Entry}
use Rattle.uw_model.specs.declared.calls.MathOp.{MathOp}
use Rattle.uw_model.specs.declared.calls.Answer.{Answer}
use Rattle.uw_model.specs.declared.calls.MathOp.TheVariants as ops
use Rattle.uw_model.specs.declared.calls.Call.TheVariants as calls
use Rattle.uw_model.specs.declared.calls.Answer.TheVariants as answers
use Rattle.uw_model.specs.Entries.{new_entry, span}
use Rattle.uw_model.specs.Placement.{is_alive, first_run, room}
use Rattle.uw_model.specs.Calls.{Outcome, refused, is_bad_key, alive_at, without, placed, written, is_no_number, number_of, number_at, result_of, is_zero_division, is_in_range, bytes_of_number, dies_of_number, number_outcome, outcome, answer, next_state, dies_at}
use Rattle.uw_model.specs.Laws.{is_refusal, list_after_amounts, TakesAmounts}
use Rattle.uw_model.proofs.LawLemmas.{front_alive, alive_before}
use Rattle.uw_model.proofs.RoomLemmas.{cases_choice}

none_or : {A : Type 0} (b : Bool) (x y : A) → cond b None (Some x) ≡ Some y → (b ≡ false) × (x ≡ y)
none_or true x y e = absurd (none-some y e)
none_or false x y e = (refl, same_Some x y e)

-- the call, after each test that refuses it
math_written : (conf : CacheConf) (list : List Entry) (now : ℕ) (op : MathOp) (key : List ℕ) (by : ℤ) (ttl : ℕ) → is_bad_key conf key ≡ false → is_no_number (alive_at conf list now key) ≡ false → is_zero_division op by ≡ false → is_in_range (result_of op (number_at (alive_at conf list now key)) by) ≡ true → outcome conf list now (calls.Math op key by ttl) ≡ written conf list now key (bytes_of_number (result_of op (number_at (alive_at conf list now key)) by)) (dies_of_number now ttl (alive_at conf list now key)) (answers.Number (result_of op (number_at (alive_at conf list now key)) by))
math_written conf list now op key by ttl good eight divides fits =
    let alive = alive_at conf list now key in
    let number = result_of op (number_at alive) by in
    let last = written conf list now key (bytes_of_number number) (dies_of_number now ttl alive) (answers.Number number) in
    let reckon = cond (not (is_in_range number)) (refused answers.Range list) last in
    let divide = cond (is_zero_division op by) (refused answers.ZeroDivisor list) reckon in
    let read = cond (is_no_number alive) (refused answers.NotNumber list) divide in
    cond-false (is_bad_key conf key) (refused answers.KeyLength list) read good
    ∙ cond-false (is_no_number alive) (refused answers.NotNumber list) divide eight
    ∙ cond-false (is_zero_division op by) (refused answers.ZeroDivisor list) reckon divides
    ∙ cond-false (not (is_in_range number)) (refused answers.Range list) last (not_from_true (is_in_range number) fits)

-- the same, from what each step of the call found
pub math_outcome : (conf : CacheConf) (list : List Entry) (now : ℕ) (op : MathOp) (key : List ℕ) (by : ℤ) (ttl : ℕ) (alive : Option Entry) (number result : ℤ) (dies : ℕ) (entry : Entry) → is_bad_key conf key ≡ false → alive ≡ alive_at conf list now key → Some number ≡ cond (is_no_number alive) None (Some (number_at alive)) → is_zero_division op by ≡ false → dies ≡ dies_of_number now ttl alive → Some result ≡ cond (is_in_range (result_of op number by)) (Some (result_of op number by)) None → entry ≡ new_entry key (bytes_of_number result) dies 0 now → written conf list now entry.key entry.value entry.dies (answers.Number result) ≡ outcome conf list now (calls.Math op key by ttl)
math_outcome conf list now op key by ttl alive number result dies entry good found read divides moment number_outcome is =
    let eight = none_or (is_no_number alive) (number_at alive) number (sym read) in
    let fits = cond_some (is_in_range (result_of op number by)) (result_of op number by) result (sym number_outcome) in
    let at_found = ap (λ o. result_of op (number_at o) by) (sym found) in
    let same : result_of op (number_at (alive_at conf list now key)) by ≡ result = at_found ∙ (ap (λ n. result_of op n by) eight.1 ∙ fits.1) in
    ap (λ (e : Entry). written conf list now e.key e.value e.dies (answers.Number result)) is
    ∙ (ap (λ r. written conf list now key (bytes_of_number r) dies (answers.Number r)) (sym same)
    ∙ (ap (λ d. written conf list now key (bytes_of_number (result_of op (number_at (alive_at conf list now key)) by)) d (answers.Number (result_of op (number_at (alive_at conf list now key)) by))) (moment ∙ ap (dies_of_number now ttl) found)
    ∙ sym (math_written conf list now op key by ttl good (ap is_no_number (sym found) ∙ eight.0) divides (ap is_in_range (same ∙ sym fits.1) ∙ fits.0))))

-- ---- what a number call leaves

-- a number of 64 bits with a sign comes back from its bytes
back_by : (number : ℤ) → FitsSigned w64 number → cast_unsigned w64 number < 2 ^ 64 → number_of (bytes_of_number number) ≡ number
back_by number fits small =
    ap (cast_signed w64) (from_le_bytes-to_le_bytes_8 (cast_unsigned w64 number) small) ∙ to_z-of_z w64 number fits

pub number_back : (number : ℤ) → is_in_range number ≡ true → number_of (bytes_of_number number) ≡ number
number_back (pos n) range =
    let small : n < 2 ^ 63 = ltb-true n (2 ^ 63) range in back_by (pos n) (record { sfits = small }) (omega arith)
number_back (negsuc n) range =
    let small : n < 2 ^ 63 = ltb-true n (2 ^ 63) range in back_by (negsuc n) (record { sfits = small }) (omega arith)

-- the number of an entry in front of a list, at a moment at which it is alive
front_num : (conf : CacheConf) (key : List ℕ) (number : ℤ) (dies first now : ℕ) (kept : List Entry) (later : ℕ)
    → is_bad_key conf key ≡ false → is_in_range number ≡ true
    → is_alive conf later (new_entry key (bytes_of_number number) dies first now) ≡ true
    → answer conf (new_entry key (bytes_of_number number) dies first now ∷ kept) later (calls.Num key)
    ≡ answers.Number number
front_num conf key number dies first now kept later good range alive =
    let new = new_entry key (bytes_of_number number) dies first now in
    let list = new ∷ kept in
    let found = front_alive conf new kept later alive in
    let said = λ (o : Option Entry). let out : Outcome = cond (is_no_number o) (refused answers.NotNumber list) (record { answer = answers.Number (number_at o); list = list }) in out in
    ap (λ (o : Outcome). o.answer) (cond-false (is_bad_key conf key) (refused answers.KeyLength list) (said (alive_at conf list later key)) good ∙ ap said found)
    ∙ ap (λ n. answers.Number n) (number_back number range)

-- an outcome that is no refusal has an entry with the number in front
record IsNumbered (conf : CacheConf) (now : ℕ) (key : List ℕ) (number : ℤ) (dies : ℕ) (alive : Option Entry) (o : Outcome) : Type 0 where
  kept : List Entry
  first : ℕ
  good : is_bad_key conf key ≡ false
  eight : is_no_number alive ≡ false
  range : is_in_range number ≡ true
  is : o ≡ record { answer = answers.Number number; list = new_entry key (bytes_of_number number) dies first now ∷ kept }

abbrev Numbers : CacheConf → ℕ → List ℕ → ℤ → ℕ → Option Entry → Outcome → Type 0
Numbers conf now key number dies alive o = is_refusal o.answer ≡ false → IsNumbered conf now key number dies alive o

unless_numbers : (conf : CacheConf) (now : ℕ) (key : List ℕ) (number : ℤ) (dies : ℕ) (alive : Option Entry) (list : List Entry) (refuses : Bool) (a : Answer) (rest : Outcome) → is_refusal a ≡ true → (refuses ≡ false → Numbers conf now key number dies alive rest) → Numbers conf now key number dies alive (cond refuses (refused a list) rest)
unless_numbers conf now key number dies alive list true a rest refusal go = λ h. absurd (both_ways (is_refusal a) h refusal)
unless_numbers conf now key number dies alive list false a rest refusal go = go refl

placed_numbers : (conf : CacheConf) (list : List Entry) (now : ℕ) (key : List ℕ) (number : ℤ) (dies : ℕ) (alive : Option Entry) (kept : Option (List Entry)) → is_bad_key conf key ≡ false → is_no_number alive ≡ false → is_in_range number ≡ true → Numbers conf now key number dies alive (placed conf list now key (bytes_of_number number) dies (answers.Number number) kept)
placed_numbers conf list now key number dies alive None good eight range = λ h. absurd (both_ways true h refl)
placed_numbers conf list now key number dies alive (Some kept) good eight range = λ _. record {
  kept = kept;
  first = unwrap_or (first_run conf kept (span conf (bytes_of_number number))) 0;
  good = good;
  eight = eight;
  range = range;
  is = refl;
}

math_numbers : (conf : CacheConf) (list : List Entry) (now : ℕ) (op : MathOp) (key : List ℕ) (by : ℤ) (ttl : ℕ) → Numbers conf now key (result_of op (number_at (alive_at conf list now key)) by) (dies_of_number now ttl (alive_at conf list now key)) (alive_at conf list now key) (outcome conf list now (calls.Math op key by ttl))
math_numbers conf list now op key by ttl =
    let alive = alive_at conf list now key in
    let number = result_of op (number_at alive) by in
    let dies = dies_of_number now ttl alive in
    unless_numbers conf now key number dies alive list (is_bad_key conf key) answers.KeyLength _ refl (λ good.
    unless_numbers conf now key number dies alive list (is_no_number alive) answers.NotNumber _ refl (λ eight.
    unless_numbers conf now key number dies alive list (is_zero_division op by) answers.ZeroDivisor _ refl (λ _.
    unless_numbers conf now key number dies alive list (not (is_in_range number)) answers.Range _ refl (λ range.
    placed_numbers conf list now key number dies alive (room conf (without key list) (span conf (bytes_of_number number)) now) good eight (not-false (is_in_range number) range)))))

-- after a number call that is not refused, the number of the key is its result at each moment at which the entry is alive
math_num : (conf : CacheConf) (list : List Entry) (now later : ℕ) (op : MathOp) (key : List ℕ) (by : ℤ) (ttl : ℕ) → is_refusal (answer conf list now (calls.Math op key by ttl)) ≡ false → ((e : Entry) → e.dies ≡ dies_of_number now ttl (alive_at conf list now key) → is_alive conf later e ≡ true) → answer conf (next_state conf list now (calls.Math op key by ttl)) later (calls.Num key) ≡ answers.Number (result_of op (number_at (alive_at conf list now key)) by)
math_num conf list now later op key by ttl said alive =
    let number = result_of op (number_at (alive_at conf list now key)) by in
    let dies = dies_of_number now ttl (alive_at conf list now key) in
    let h = math_numbers conf list now op key by ttl said in
    let new = new_entry key (bytes_of_number number) dies h.first now in
    ap (λ (o : Outcome). answer conf o.list later (calls.Num key)) h.is ∙ front_num conf key number dies h.first now h.kept later h.good h.range (alive new refl)

pub answered_kept : (conf : CacheConf) (list : List Entry) (now later ttl : ℕ) (key : List ℕ) (op : MathOp) (by number : ℤ) → answer conf list now (calls.Math op key by ttl) ≡ answers.Number number → (dies_of_number now ttl (alive_at conf list now key) ≡ 0) ⊎ (later < dies_of_number now ttl (alive_at conf list now key)) → answer conf (next_state conf list now (calls.Math op key by ttl)) later (calls.Num key) ≡ answers.Number number
answered_kept conf list now later ttl key op by number answered before =
    let said : is_refusal (answer conf list now (calls.Math op key by ttl)) ≡ false = ap is_refusal answered in
    let h = math_numbers conf list now op key by ttl said in
    math_num conf list now later op key by ttl said (λ e dies. alive_before conf e later (rw dies before))
    ∙ (sym (ap (λ (o : Outcome). o.answer) h.is) ∙ answered)

-- ---- sums

-- what num answers is the number of the alive entry
unless_says : (before number : ℤ) (list : List Entry) (refuses : Bool) (a : Answer) (rest : Outcome) → ((a ≡ answers.Number before) → ⊥) → (rest.answer ≡ answers.Number before → number ≡ before) → (cond refuses (refused a list) rest).answer ≡ answers.Number before → number ≡ before
unless_says before number list true a rest other go said = absurd (other said)
unless_says before number list false a rest other go said = go said

num_says : (conf : CacheConf) (list : List Entry) (now : ℕ) (key : List ℕ) (before : ℤ) → answer conf list now (calls.Num key) ≡ answers.Number before → number_at (alive_at conf list now key) ≡ before
num_says conf list now key before =
    let number = number_at (alive_at conf list now key) in
    unless_says before number list (is_bad_key conf key) answers.KeyLength _ (λ e. absurd (cc)) (
    unless_says before number list (is_no_number (alive_at conf list now key)) answers.NotNumber _ (λ e. absurd (cc)) (λ e. cc))

-- an entry that is written at this moment is alive at it
found_passes : {X : Type 0} (test : X → Bool) (xs : List X) (x : X) → find test xs ≡ Some x → test x ≡ true
found_passes test [] x found = absurd (none-some x found)
found_passes test (y ∷ xs) x found =
    elim (cases_choice (test y) (Some y) (find test xs) x found) [
      | inl h ↦ rw (← (same_Some y x h.1)) h.0
      | inr h ↦ found_passes test xs x h.1
    ]

alive_same : (conf : CacheConf) (now : ℕ) (e o : Entry) → e.dies ≡ o.dies → is_alive conf now o ≡ true → is_alive conf now e ≡ true
alive_same conf now e o same alive = ap (λ (d : ℕ). d == 0 || conf.purge_lru || nat_lt now d) same ∙ alive

written_before : (ttl now : ℕ) → now < 2 ^ 64 - 1 → (dies_at now ttl ≡ 0) ⊎ (now < dies_at now ttl)
written_before ttl now early =
    elim (cases_Bool (ttl == 0)) [
      | inl none ↦ inl (rw none refl)
      | inr some ↦ (let long = eqb-false ttl 0 some in inr (rw some (omega arith)))
    ]

alive_written : (conf : CacheConf) (now ttl : ℕ) (e : Entry) → now < 2 ^ 64 - 1 → e.dies ≡ dies_at now ttl → is_alive conf now e ≡ true
alive_written conf now ttl e early dies = alive_before conf e now (rw dies (written_before ttl now early))

alive_still : (conf : CacheConf) (now ttl : ℕ) (e : Entry) (alive : Option Entry) → now < 2 ^ 64 - 1 → ((o : Entry) → alive ≡ Some o → is_alive conf now o ≡ true) → e.dies ≡ dies_of_number now ttl alive → is_alive conf now e ≡ true
alive_still conf now ttl e None early each dies = alive_written conf now ttl e early dies
alive_still conf now ttl e (Some o) early each dies =
    elim (cases_Bool (ttl == 0)) [
      | inl none ↦ alive_same conf now e o (rw none at dies) (each o refl)
      | inr some ↦ alive_written conf now ttl e early (dies ∙ (rw some refl))
    ]

pub added_sum : (conf : CacheConf) (list : List Entry) (now ttl : ℕ) (key : List ℕ) (before : ℤ) (amounts : List ℤ) → now < 2 ^ 64 - 1 → answer conf list now (calls.Num key) ≡ answers.Number before → TakesAmounts conf list now key ttl amounts → answer conf (list_after_amounts conf list now key ttl amounts) now (calls.Num key) ≡ answers.Number (fold ◌+ℤ◌ before amounts)
added_sum conf list now ttl key before [] early said added_all = said
added_sum conf list now ttl key before (by ∷ amounts) early said added_all =
    let alive = alive_at conf list now key in
    let each = λ (o : Entry) (e : alive ≡ Some o). (and_parts (bytes_eq o.key key) (is_alive conf now o) (found_passes (λ (x : Entry). bytes_eq x.key key && is_alive conf now x) list o e)).1 in
    let step = math_num conf list now now ops.Inc key by ttl added_all.0 (λ e dies. alive_still conf now ttl e alive early each dies) in
    added_sum conf (next_state conf list now (calls.Math ops.Inc key by ttl)) now ttl key (before +ℤ by) amounts early
    (step ∙ ap (λ n. answers.Number (n +ℤ by)) (num_says conf list now key before said)) added_all.1
