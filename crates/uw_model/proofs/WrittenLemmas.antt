-- An entry that a call wrote stands at the first run of the list that has room for it.
use Rattle.std.proofs.Common.{◌≡◌, ◌≢◌, ℕ, ◌≤◌, nat_lt, Bool, true, false, not, cond, List, [], ◌∷◌, length, Option, Some, None, is_some, unwrap_or, ℤ, refl, ap}
use Rattle.std.proofs.lemmas.Bool.{and_parts, cond-true, ltb-false}
use Rattle.uw_model.specs.declared.conf.CacheConf.{CacheConf}
use Rattle.uw_model.specs.declared.entries.Entry.{Entry}
use Rattle.uw_model.specs.declared.calls.Answer.{Answer}
use Rattle.uw_model.specs.declared.calls.MathOp.{MathOp}
use Rattle.uw_model.specs.declared.calls.Call.TheVariants as calls
use Rattle.uw_model.specs.declared.calls.Answer.TheVariants as answers
use Rattle.uw_model.specs.Entries.{IsCacheConf, max_value, new_entry, span}
use Rattle.uw_model.specs.Placement.{first_run, room}
use Rattle.uw_model.specs.Calls.{Outcome, refused, is_bad_key, is_too_long, alive_at, without, placed, written, is_no_number, number_at, result_of, is_zero_division, is_in_range, bytes_of_number, dies_of_number, answer, next_state, dies_at}
use Rattle.uw_model.specs.Laws.{IsWritten}
use Rattle.uw_model.proofs.NextStateLemmas.{number_fit, some_of}
use Rattle.uw_model.proofs.RoomLemmas.{room_is, span_within, empty_fits}

pub empty_room : (conf : CacheConf) (value : List ℕ) (now : ℕ) → IsCacheConf conf → length value ≤ max_value conf → room conf [] (span conf value) now ≡ Some []
empty_room conf value now is short = cond-true _ (Some []) _ (empty_fits conf (span conf value) is (span_within conf value is short))

module _ (conf : CacheConf) (list : List Entry) (now : ℕ) (key : List ℕ) where
  -- an outcome that has this answer left the list with the value written
  abbrev Writes : List ℕ → ℕ → Answer → Outcome → Type 0
  Writes value dies given o = o.answer ≡ given → IsWritten conf list now key value dies o.list

  unless_writes : (value : List ℕ) (dies : ℕ) (given : Answer) (refuses : Bool) (refusal : Answer) (rest : Outcome) → refusal ≢ given → (refuses ≡ false → Writes value dies given rest) → Writes value dies given (cond refuses (refused refusal list) rest)
  unless_writes value dies given true refusal rest other go = λ e. absurd (other e)
  unless_writes value dies given false refusal rest other go = go refl

  placed_writes : (value : List ℕ) (dies : ℕ) (given : Answer) (kept : Option (List Entry)) → IsCacheConf conf → length value ≤ max_value conf → answers.Full ≢ given → room conf (without key list) (span conf value) now ≡ kept → Writes value dies given (placed conf list now key value dies given kept)
  placed_writes value dies given None is short other made = λ e. absurd (other e)
  placed_writes value dies given (Some kept) is short other made = λ _.
      let n = span conf value in
      let has = room_is conf (without key list) kept n now (empty_fits conf n is (span_within conf value is short)) made in
      let run = some_of (first_run conf kept n) (and_parts (nat_lt (length kept) conf.items) (is_some (first_run conf kept n)) has.fits).1 in
      record {
        kept = kept;
        place = run.0;
        room = made;
        run = run.1;
        front = ap (λ (o : Option ℕ). new_entry key value dies (unwrap_or o 0) now ∷ kept) run.1;
      }

  written_writes : (value : List ℕ) (dies : ℕ) (given : Answer) → IsCacheConf conf → length value ≤ max_value conf → answers.Full ≢ given → Writes value dies given (written conf list now key value dies given)
  written_writes value dies given is short other = placed_writes value dies given (room conf (without key list) (span conf value) now) is short other refl

  pub set_writes : (ttl : ℕ) (value : List ℕ) → IsCacheConf conf → answer conf list now (calls.Set key value ttl) ≡ answers.Done → IsWritten conf list now key value (dies_at now ttl) (next_state conf list now (calls.Set key value ttl))
  set_writes ttl value is done =
      (unless_writes value (dies_at now ttl) answers.Done (is_bad_key conf key) answers.KeyLength _ (λ e. absurd (cc)) (λ good.
      unless_writes value (dies_at now ttl) answers.Done (is_too_long conf value) answers.TooLong _ (λ e. absurd (cc)) (λ short.
      unless_writes value (dies_at now ttl) answers.Done (is_some (alive_at conf list now key)) answers.Exists _ (λ e. absurd (cc)) (λ _.
      written_writes value (dies_at now ttl) answers.Done is (ltb-false (max_value conf) (length value) short) (λ e. absurd (cc)))))) done

  pub update_writes : (ttl : ℕ) (value : List ℕ) → IsCacheConf conf → answer conf list now (calls.Update key value ttl) ≡ answers.Done → IsWritten conf list now key value (dies_at now ttl) (next_state conf list now (calls.Update key value ttl))
  update_writes ttl value is done =
      (unless_writes value (dies_at now ttl) answers.Done (is_bad_key conf key) answers.KeyLength _ (λ e. absurd (cc)) (λ good.
      unless_writes value (dies_at now ttl) answers.Done (is_too_long conf value) answers.TooLong _ (λ e. absurd (cc)) (λ short.
      written_writes value (dies_at now ttl) answers.Done is (ltb-false (max_value conf) (length value) short) (λ e. absurd (cc))))) done

  -- an outcome that has a number for its answer left the list with that number written
  abbrev WritesNumber : ℕ → Outcome → Type 0
  WritesNumber dies o = (number : ℤ) → o.answer ≡ answers.Number number → IsWritten conf list now key (bytes_of_number number) dies o.list

  unless_writes_number : (dies : ℕ) (refuses : Bool) (refusal : Answer) (rest : Outcome) → ((number : ℤ) → refusal ≢ answers.Number number) → (refuses ≡ false → WritesNumber dies rest) → WritesNumber dies (cond refuses (refused refusal list) rest)
  unless_writes_number dies true refusal rest other go = λ number e. absurd (other number e)
  unless_writes_number dies false refusal rest other go = go refl

  number_written : (dies : ℕ) (result : ℤ) → IsCacheConf conf → is_bad_key conf key ≡ false → WritesNumber dies (written conf list now key (bytes_of_number result) dies (answers.Number result))
  number_written dies result is good number said =
      numbered (room conf (without key list) (span conf (bytes_of_number result)) now) refl said
    where
      numbered : (kept : Option (List Entry)) → room conf (without key list) (span conf (bytes_of_number result)) now ≡ kept
          → (placed conf list now key (bytes_of_number result) dies (answers.Number result) kept).answer ≡ answers.Number number
          → IsWritten conf list now key (bytes_of_number number) dies (placed conf list now key (bytes_of_number result) dies (answers.Number result) kept).list
      numbered None made e = absurd (cc)
      numbered (Some kept) made e =
          let same : result ≡ number = cc in
          rw (← same) (placed_writes (bytes_of_number result) dies (answers.Number result) (Some kept) is (number_fit conf key result is good).of_value (λ e. absurd (cc)) made refl)

  pub math_writes : (ttl : ℕ) (op : MathOp) (by number : ℤ) → IsCacheConf conf → answer conf list now (calls.Math op key by ttl) ≡ answers.Number number
      → IsWritten conf list now key (bytes_of_number number) (dies_of_number now ttl (alive_at conf list now key)) (next_state conf list now (calls.Math op key by ttl))
  math_writes ttl op by number is said =
      let alive = alive_at conf list now key in
      let dies = dies_of_number now ttl alive in
      let result = result_of op (number_at alive) by in
      (unless_writes_number dies (is_bad_key conf key) answers.KeyLength _ (λ _ e. absurd (cc)) (λ good.
      unless_writes_number dies (is_no_number alive) answers.NotNumber _ (λ _ e. absurd (cc)) (λ _.
      unless_writes_number dies (is_zero_division op by) answers.ZeroDivisor _ (λ _ e. absurd (cc)) (λ _.
      unless_writes_number dies (not (is_in_range result)) answers.Range _ (λ _ e. absurd (cc)) (λ _.
      number_written dies result is good))))) number said
