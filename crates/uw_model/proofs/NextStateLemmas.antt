-- The next list of a well-formed one is well-formed.
use Rattle.std.proofs.Common.{◌≡◌, ℕ, suc, ◌+◌, ◌-◌, ◌≤◌, nat_lt, Bool, true, false, not, ◌&&◌, cond, List, [], ◌∷◌, length, filter, find, Option, Some, None, is_some, unwrap_or, Result, Ok, Err, OnOk, OnErr, refl, sym, ap, subst, inl, inr, ℤ, arith}
use Rattle.std.specs.List.{list_all}
use Rattle.std.specs.Str.{bytes_eq}
use Rattle.std.proofs.lemmas.Slice.Eq.{bytes_eq-Decides}
use Rattle.std.proofs.lemmas.Bool.{cases_Bool, and_parts, not-true, both_ways, false_from_ne_true, cond_both, ltb-true, ltb-false}
use Rattle.std.proofs.lemmas.Bool.Decides.{nat_tests}
use Rattle.std.proofs.lemmas.Option.{none-some, same_Some}
use Rattle.std.proofs.lemmas.Nat.{mul-le}
use Rattle.uw_model.specs.declared.conf.CacheConf.{CacheConf}
use Rattle.uw_model.specs.declared.entries.Entry.{Entry}
use Rattle.uw_model.specs.declared.calls.Call.{Call}
use Rattle.uw_model.specs.declared.calls.Answer.{Answer}
use Rattle.uw_model.specs.declared.calls.Call.TheVariants as calls
use Rattle.uw_model.specs.declared.calls.Answer.TheVariants as answers
use Rattle.uw_model.specs.Entries.{IsCacheConf, IsEntry, IsApart, IsApartFrom, AreApart, IsState, max_value, new_entry, span}
use Rattle.uw_model.specs.Placement.{is_alive, is_clear_of, is_free, first_run, room}
use Rattle.uw_model.specs.Calls.{Outcome, refused, is_bad_key, is_too_long, alive_at, without, got, placed, written, deleted, is_no_number, number_at, result_of, is_zero_division, is_in_range, bytes_of_number, dies_of_number, next_state, dies_at}
use Rattle.uw_model.specs.KeySteps.{lacks}
use Rattle.uw_model.proofs.KeysLemmas.{filter_whole, same_key}
use Rattle.uw_model.proofs.PartLemmas.{part_state, part_filter, part_all, part_apart}
use Rattle.uw_model.proofs.PlacementLemmas.{least_place_is}
use Rattle.uw_model.proofs.RoomLemmas.{IsRoom, room_is, span_within, empty_fits, cases_choice}
use Rattle.uw_model.proofs.StateLemmas.{lacks_apart}

-- ---- an entry of the list in front of the list without it

apart_turned : (conf : CacheConf) (e o : Entry) → IsApart conf e o → IsApart conf o e
apart_turned conf e o h = record { keys = λ q. h.keys (sym q); blocks = λ block a b. h.blocks block b a }

-- what is apart from each entry is apart from the first that passes a test
found_apart : (conf : CacheConf) (o : Entry) (test : Entry → Bool) (list : List Entry) (e : Entry) → find test list ≡ Some e → IsApartFrom conf o list → IsApart conf o e
found_apart conf o test [] e found apart = absurd (none-some e found)
found_apart conf o test (x ∷ list) e found apart =
    elim (cases_choice (test x) (Some x) (find test list) e found) [
      | inl h ↦ rw (same_Some x e h.1) at apart.0
      | inr h ↦ found_apart conf o test list e h.1 apart.1
    ]

-- what is left of a list when one of its entries is taken out, beside that entry
record IsTaken (conf : CacheConf) (list : List Entry) (e : Entry) : Type 0 where
  entry : IsEntry conf e
  apart : IsApartFrom conf e (without e.key list)
  fewer : suc (length (without e.key list)) ≤ length list

taken_head : (conf : CacheConf) (list : List Entry) (e : Entry) → AreApart conf (e ∷ list) → IsTaken conf (e ∷ list) e
taken_head conf list e apart =
    let rest : without e.key (e ∷ list) ≡ list = rw (same_key e.key) (filter_whole (λ o. not (bytes_eq o.key e.key)) list (lacks_apart conf e list apart.1)) in
    record { entry = apart.0; apart = rw rest apart.1; fewer = omega (arith, ap length rest) }

taken_tail : (conf : CacheConf) (list : List Entry) (x e : Entry) → IsApart conf x e → IsTaken conf list e → IsTaken conf (x ∷ list) e
taken_tail conf list x e apart h =
    let differs = false_from_ne_true (bytes_eq x.key e.key) (λ t. apart.keys ((bytes_eq-Decides x.key e.key).0 t)) in
    let rest : without e.key (x ∷ list) ≡ x ∷ without e.key list = rw differs refl in
    record { entry = h.entry; apart = rw rest (apart_turned conf x e apart, h.apart); fewer = omega (arith, ap length rest, h.fewer) }

taken_found : (conf : CacheConf) (test : Entry → Bool) (list : List Entry) (e : Entry) → find test list ≡ Some e → AreApart conf list → IsTaken conf list e
taken_found conf test [] e found apart = absurd (none-some e found)
taken_found conf test (x ∷ list) e found apart =
    elim (cases_choice (test x) (Some x) (find test list) e found) [
      | inl h ↦ rw (← (same_Some x e h.1)) (taken_head conf list x apart)
      | inr h ↦ taken_tail conf list x e (found_apart conf x test list e h.1 apart.1) (taken_found conf test list e h.1 apart.2)
    ]

used_state : (conf : CacheConf) (list : List Entry) (e : Entry) → IsTaken conf list e → IsState conf list → IsState conf (e ∷ without e.key list)
used_state conf list e h state = record {
  few = omega (arith, h.fewer, state.few);
  apart = (h.entry, h.apart, part_apart conf (part_filter (λ o. not (bytes_eq o.key e.key)) list) state.apart);
}

-- the list after a get
got_state : (conf : CacheConf) (list : List Entry) (found : Option Entry) → ((e : Entry) → found ≡ Some e → IsTaken conf list e) → IsState conf list → IsState conf (got conf list found).list
got_state conf list None taken state = state
got_state conf list (Some e) taken state =
    cond_both conf.purge_lru (e ∷ without e.key list) list (IsState conf) (λ _. used_state conf list e (taken e refl) state) (λ _. state)

-- ---- an entry put in front of a list that has room for it

front_apart : (conf : CacheConf) (new : Entry) (kept : List Entry) → lacks new.key kept ≡ true → is_free conf kept (span conf new.value) new.first ≡ true → IsApartFrom conf new kept
front_apart conf new [] others free = tt
front_apart conf new (o ∷ kept) others free =
    let keys = and_parts (not (bytes_eq o.key new.key)) (lacks new.key kept) others in
    let places = and_parts (is_clear_of conf new.first (span conf new.value) o) (is_free conf kept (span conf new.value) new.first) free in
    let clear = places.0 in (
      record {
        keys = λ q. both_ways (bytes_eq o.key new.key) (not-true (bytes_eq o.key new.key) keys.0) ((bytes_eq-Decides o.key new.key).1 (sym q));
        blocks = λ block a b. grind (arith, nat_tests);
      },
      front_apart conf new kept keys.1 places.1,
    )

-- a key and a value that a call may write
pub record IsFit (conf : CacheConf) (key value : List ℕ) : Type 0 where
  pub of_key : (1 ≤ length key) × (length key ≤ conf.keysize)
  pub of_value : length value ≤ max_value conf

pub some_of : {A : Type 0} (o : Option A) → is_some o ≡ true → (x : A) × (o ≡ Some x)
some_of None e = absurd (cc)
some_of (Some x) e = (x, refl)

passes_filter : {X : Type 0} (p : X → Bool) (xs : List X) → list_all p (filter p xs) ≡ true
passes_filter p [] = refl
passes_filter p (x ∷ xs) =
    elim (cases_Bool (p x)) [
      | inl kept ↦ rw kept (rw kept (passes_filter p xs))
      | inr left ↦ rw left (passes_filter p xs)
    ]

front_at : (conf : CacheConf) (list kept : List Entry) (now : ℕ) (key value : List ℕ) (dies s : ℕ) → IsFit conf key value → IsState conf list → IsRoom conf (without key list) kept (span conf value) → first_run conf kept (span conf value) ≡ Some s → IsState conf (new_entry key value dies s now ∷ kept)
front_at conf list kept now key value dies s fit state room run =
    let n = span conf value in
    let others = λ (e : Entry). not (bytes_eq e.key key) in
    let least = least_place_is (is_free conf kept n) (conf.blocks + 1 - n) 0 s run in
    let few = ltb-true (length kept) conf.items (and_parts (nat_lt (length kept) conf.items) (is_some (first_run conf kept n)) room.fits).0 in
    record {
      few = omega (arith, few);
      apart = (
        record { key = fit.of_key; value = fit.of_value; blocks = omega (arith, least.below) },
        front_apart conf (new_entry key value dies s now) kept (part_all others room.part (passes_filter others list)) least.holds,
        part_apart conf room.part (part_apart conf (part_filter others list) state.apart),
      );
    }

front_state : (conf : CacheConf) (list kept : List Entry) (now : ℕ) (key value : List ℕ) (dies : ℕ) → IsFit conf key value → IsState conf list → IsRoom conf (without key list) kept (span conf value) → IsState conf (new_entry key value dies (unwrap_or (first_run conf kept (span conf value)) 0) now ∷ kept)
front_state conf list kept now key value dies fit state room =
    let n = span conf value in
    let run = some_of (first_run conf kept n) (and_parts (nat_lt (length kept) conf.items) (is_some (first_run conf kept n)) room.fits).1 in
    subst (λ o. IsState conf (new_entry key value dies (unwrap_or o 0) now ∷ kept)) (sym run.1) (front_at conf list kept now key value dies run.0 fit state room run.1)

placed_state : (conf : CacheConf) (list : List Entry) (now : ℕ) (key value : List ℕ) (dies : ℕ) (answered : Answer) (kept : Option (List Entry)) → IsFit conf key value → IsState conf list → ((k : List Entry) → kept ≡ Some k → IsRoom conf (without key list) k (span conf value)) → IsState conf (placed conf list now key value dies answered kept).list
placed_state conf list now key value dies answered None fit state room = state
placed_state conf list now key value dies answered (Some kept) fit state room = front_state conf list kept now key value dies fit state (room kept refl)

written_state : (conf : CacheConf) (list : List Entry) (now : ℕ) (key value : List ℕ) (dies : ℕ) (answered : Answer) → IsCacheConf conf → IsFit conf key value → IsState conf list → IsState conf (written conf list now key value dies answered).list
written_state conf list now key value dies answered is fit state =
    placed_state conf list now key value dies answered (room conf (without key list) (span conf value) now) fit state (λ k e. room_is conf (without key list) k (span conf value) now (empty_fits conf (span conf value) is (span_within conf value is fit.of_value)) e)

-- ---- the calls

pub fit_of : (conf : CacheConf) (key value : List ℕ) → is_bad_key conf key ≡ false → is_too_long conf value ≡ false → IsFit conf key value
fit_of conf key value good short = record { of_key = (grind (arith, nat_tests), grind (arith, nat_tests)); of_value = ltb-false (max_value conf) (length value) short }

-- the alive entry of a key, taken out of the list
taken_alive : (conf : CacheConf) (list : List Entry) (now : ℕ) (key : List ℕ) → IsState conf list → (e : Entry) → alive_at conf list now key ≡ Some e → IsTaken conf list e
taken_alive conf list now key state e found = taken_found conf (λ o. bytes_eq o.key key && is_alive conf now o) list e found state.apart

-- the eight bytes of a number fit everywhere
pub number_fit : (conf : CacheConf) (key : List ℕ) (number : ℤ) → IsCacheConf conf → is_bad_key conf key ≡ false → IsFit conf key (bytes_of_number number)
number_fit conf key number is good =
    let m = mul-le 1 8 conf.blocks conf.blocksize is.blocks.0 is.blocksize.0 in
    record {
      of_key = (grind (arith, nat_tests), grind (arith, nat_tests));
      of_value = elim (cases_Bool conf.bitmap) [ inl set ↦ rw set (omega (arith, m)) | inr unset ↦ rw unset (omega (arith, is.blocksize.0)) ];
    }

-- the list after a removal
deleted_state : (conf : CacheConf) (list : List Entry) (found : Option Entry) → IsState conf list → IsState conf (deleted list found).list
deleted_state conf list None state = state
deleted_state conf list (Some e) state = part_state conf (part_filter (λ o. not (bytes_eq o.key e.key)) list) state

-- a call goes on where a refusal does not apply, and leaves the list where it does
unless_refused : (conf : CacheConf) (list : List Entry) (refuses : Bool) (answer : Answer) (rest : Outcome) → IsState conf list → (refuses ≡ false → IsState conf rest.list) → IsState conf (cond refuses (refused answer list) rest).list
unless_refused conf list true answer rest state go = state
unless_refused conf list false answer rest state go = go refl

pub next_is_state : (conf : CacheConf) (list : List Entry) (now : ℕ) (call : Call) → IsCacheConf conf → IsState conf list → IsState conf (next_state conf list now call)
next_is_state conf list now (calls.Get key) is state =
    unless_refused conf list (is_bad_key conf key) answers.KeyLength _ state (λ _. got_state conf list (alive_at conf list now key) (taken_alive conf list now key state) state)
next_is_state conf list now (calls.Set key value ttl) is state =
    unless_refused conf list (is_bad_key conf key) answers.KeyLength _ state (λ good.
    unless_refused conf list (is_too_long conf value) answers.TooLong _ state (λ short.
    unless_refused conf list (is_some (alive_at conf list now key)) answers.Exists _ state (λ _.
    written_state conf list now key value (dies_at now ttl) answers.Done is (fit_of conf key value good short) state)))
next_is_state conf list now (calls.Update key value ttl) is state =
    unless_refused conf list (is_bad_key conf key) answers.KeyLength _ state (λ good.
    unless_refused conf list (is_too_long conf value) answers.TooLong _ state (λ short.
    written_state conf list now key value (dies_at now ttl) answers.Done is (fit_of conf key value good short) state))
next_is_state conf list now (calls.Del key) is state =
    unless_refused conf list (is_bad_key conf key) answers.KeyLength _ state (λ _. deleted_state conf list (alive_at conf list now key) state)
next_is_state conf list now (calls.Exists key) is state =
    unless_refused conf list (is_bad_key conf key) answers.KeyLength _ state (λ _. state)
next_is_state conf list now calls.Clear is state = record { few = omega arith; apart = tt }
next_is_state conf list now (calls.Num key) is state =
    unless_refused conf list (is_bad_key conf key) answers.KeyLength _ state (λ _.
    unless_refused conf list (is_no_number (alive_at conf list now key)) answers.NotNumber _ state (λ _. state))
next_is_state conf list now (calls.Math op key by ttl) is state =
    let alive = alive_at conf list now key in
    let number = result_of op (number_at alive) by in
    unless_refused conf list (is_bad_key conf key) answers.KeyLength _ state (λ good.
    unless_refused conf list (is_no_number alive) answers.NotNumber _ state (λ _.
    unless_refused conf list (is_zero_division op by) answers.ZeroDivisor _ state (λ _.
    unless_refused conf list (not (is_in_range number)) answers.Range _ state (λ _.
    written_state conf list now key (bytes_of_number number) (dies_of_number now ttl alive) (answers.Number number) is (number_fit conf key number is good) state))))
next_is_state conf list now calls.Keys is state = state
next_is_state conf list now calls.Sweep is state = part_state conf (part_filter (is_alive conf now) list) state

-- what a call leaves is a state, whether it answered or had no memory
pub left_state : {T E : Type 0} (result : Result T E) (conf : CacheConf) (old new : List Entry) (now : ℕ) (call : Call) → IsCacheConf conf × IsState conf old → OnOk result (new ≡ next_state conf old now call) → OnErr result (new ≡ old) → IsCacheConf conf × IsState conf new
left_state (Ok answer) conf old new now call before next memory = (before.0, rw next (next_is_state conf old now call before.0 before.1))
left_state (Err none) conf old new now call before next memory = (before.0, rw memory before.1)
