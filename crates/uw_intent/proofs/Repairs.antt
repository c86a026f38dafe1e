-- The writes of a recovery, as they are walked and made.
use Rattle.std.proofs.Common.{◌≡◌, ◌≢◌, ◌⊎◌, inl, inr, ⊎_elim, ℕ, zero, suc, ◌+◌, ◌-◌, ◌<◌, ◌≤◌, All, Bool, true, false, not, eqb, List, [], ◌∷◌, ◌++◌, Option, Some, None, IfSome, IfNone, unwrap_or, Result, Ok, Err, OnOk, OnErr, is_ok, length, set, take, drop, refl, sym, ap, ◌∙◌, subst, arith}
use Rattle.std.specs.List.{slice_get}
use Rattle.std.proofs.lemmas.Bool.Decides.{nat_tests}
use Rattle.std.proofs.lemmas.List.{length-append, length-drop, length-set, drop-set-lt, drop-set-add, take-set-le}
use Rattle.std.proofs.lemmas.List.Elements.{All-get_or}
use Rattle.std.proofs.lemmas.Option.{slice_get_past, get_or_from_slice_get}
use Rattle.uw_outside.specs.Lives.{Spends, Allows}
use Rattle.uw_outside.specs.declared.life.Died.{Died}
use Rattle.uw_words.specs.Plans.{region}
use Rattle.uw_intent.specs.declared.frame.WordWrite.{WordWrite}
use Rattle.uw_intent.specs.declared.frame.Frame.{Frame}
use Rattle.uw_intent.specs.declared.cursor.Cursor.{Cursor}
use Rattle.uw_intent.specs.Stores.{numbered, AllMade, SomeMade}
use Rattle.uw_intent.specs.RedoRecord.{run_writes, IsWholeText, record_text, closing, repairs, IsRecord, IsIntact, IsTarget}
use Rattle.uw_intent.specs.CursorSteps.{text_between, writes_ahead, IsOnRuns}
use Rattle.uw_intent.proofs.Listed.{slice_get-append_left, slice_get-append_right, numbered_suc}
use Rattle.uw_intent.proofs.Progress.{SoFar, none_made, one_more, no_more, all_made, length-made}

-- the writes of the record's runs
abbrev pub run_repairs : Frame → List ℕ → List WordWrite
run_repairs frame words = run_writes 0 0 (record_text frame words)

pub repairs_open : (frame : Frame) (words : List ℕ) → region words frame.gate ≢ 0 → repairs frame words ≡ run_repairs frame words ++ closing frame ∷ []
repairs_open frame words gate = grind (arith, nat_tests)

pub repairs_closed : (frame : Frame) (words : List ℕ) → region words frame.gate ≡ 0 → repairs frame words ≡ []
repairs_closed frame words gate = grind (arith, nat_tests)

pub open_gate : (word : ℕ) (pending : Bool) → pending ≡ true → pending ≡ not (eqb word 0) → word ≢ 0
open_gate word pending open_ is = grind (arith, nat_tests)

pub shut_gate : (word : ℕ) (pending : Bool) → pending ≡ false → pending ≡ not (eqb word 0) → word ≡ 0
shut_gate word pending is told = grind (arith, nat_tests)

pub open_record : (frame : Frame) (words : List ℕ) → IsIntact frame words → region words frame.gate ≢ 0 → IsRecord frame words
open_record frame words (inl closed) gate = absurd (gate closed)
open_record frame words (inr whole) gate = whole.1

-- the writes from a number on
pub drop_next : (writes : List WordWrite) (k : ℕ) (write : WordWrite) (rest : List WordWrite) → drop k writes ≡ write ∷ rest
    → (slice_get writes k ≡ Some write) × (drop (k + 1) writes ≡ rest) × (k < length writes)
drop_next [] zero write rest is = cc
drop_next [] (suc k) write rest is = cc
drop_next (w ∷ writes) zero write rest is =
    let first : w ≡ write = cc in let others : writes ≡ rest = cc in
    (ap (λ (x : WordWrite). Some x) first, others, omega arith)
drop_next (w ∷ writes) (suc k) write rest is =
    let next = drop_next writes k write rest is in
    (next.0, ap (λ (n : ℕ). drop n (w ∷ writes)) (let e : suc k + 1 ≡ suc (k + 1) = omega arith in e) ∙ next.1, omega (arith, next.2))

pub drop_end : (writes : List WordWrite) (k : ℕ) → drop k writes ≡ [] → length writes ≤ k
drop_end writes k none = omega (arith, length-drop k writes, ap (length {A = WordWrite}) none)

pub numbered_past : (writes : List WordWrite) (n : ℕ) → length writes < n → None ≡ numbered writes n
numbered_past writes zero h = absurd (omega arith)
numbered_past writes (suc k) h = sym (slice_get_past writes k (omega arith))

pub length_more : (writes : List WordWrite) (last : WordWrite) → length (writes ++ last ∷ []) ≡ length writes + 1
length_more writes last = length-append writes (last ∷ [])

pub at_last : (writes : List WordWrite) (last : WordWrite) (k : ℕ) → k ≡ length writes → slice_get (writes ++ last ∷ []) k ≡ Some last
at_last writes last k is =
    slice_get-append_right writes (last ∷ []) (length writes) k refl (omega arith) ∙ ap (slice_get (last ∷ [])) (let e : k - length writes ≡ 0 = omega arith in e)

-- what a repair is numbered by, where the cursor has yet to give the writes from that number on
pub number_ahead : (writes ahead after : List WordWrite) (last : WordWrite) (n : ℕ) (given : Option WordWrite) → 1 ≤ n → n - 1 ≤ length writes → drop (n - 1) writes ≡ ahead
    → IfSome given (λ write. ahead ≡ write ∷ after) → IfNone given (ahead ≡ []) → Some (unwrap_or given last) ≡ numbered (writes ++ last ∷ []) n
number_ahead writes ahead after last n (Some write) first within from some none =
    let next = drop_next writes (n - 1) write after (from ∙ some) in
    numbered_suc (writes ++ last ∷ []) n (n - 1) (Some write) (omega arith) (slice_get-append_left writes (last ∷ []) (n - 1) next.2 ∙ next.0)
number_ahead writes ahead after last n None first within from some none =
    let end = drop_end writes (n - 1) (from ∙ none) in
    numbered_suc (writes ++ last ∷ []) n (n - 1) (Some last) (omega arith) (at_last writes last (n - 1) (omega arith))

-- the words of a run stay where another place is written
pub text_set : (words : List ℕ) (next end at word : ℕ) → next ≤ end → (at < next) ⊎ (end ≤ at) → text_between (set words at word) next end ≡ text_between words next end
text_set words next end at word h (inl before) = ap (take (end - next)) (drop-set-lt next words at word before)
text_set words next end at word h (inr behind) =
    let place : at ≡ next + (at - next) = omega arith in
    ap (λ (p : ℕ). take (end - next) (drop next (set words p word))) place
    ∙ ap (take (end - next)) (drop-set-add next words (at - next) word)
    ∙ take-set-le (end - next) (drop next words) (at - next) word (omega arith)

-- a walk over the record of old words, whose writes were made so far
pub record Walked (frame : Frame) (old now : List ℕ) (told left : Option (List ℕ)) (cursor : Cursor) : Type 0 where
  pub count : ℕ
  pub within : count ≤ length (run_repairs frame old)
  pub so_far : SoFar (run_repairs frame old ++ closing frame ∷ []) old now told left count
  pub ahead : drop count (run_repairs frame old) ≡ writes_ahead cursor now
  pub runs : IsOnRuns now cursor
  pub from : frame.start ≤ cursor.next
  pub end : cursor.end ≤ frame.start + frame.room

module _ (frame : Frame) (old : List ℕ) (told : Option (List ℕ)) where
  abbrev all_repairs : List WordWrite
  all_repairs = run_repairs frame old ++ closing frame ∷ []

  pub walk_begins : (cursor : Cursor) → IsOnRuns old cursor → writes_ahead cursor old ≡ run_repairs frame old → cursor.next ≡ frame.start → cursor.end ≤ frame.start + frame.room
      → Walked frame old old told told cursor
  walk_begins cursor runs ahead next end = record {
    count = 0;
    within = omega arith;
    so_far = none_made all_repairs old told;
    ahead = sym ahead;
    runs = runs;
    from = omega arith;
    end = end;
  }

  module _ (now : List ℕ) (left : Option (List ℕ)) (cursor : Cursor) (walked : Walked frame old now told left cursor) where
    -- the write that the cursor gives next
    pub next_repair : (write : WordWrite) (rest : List WordWrite) → writes_ahead cursor now ≡ write ∷ rest
        → (slice_get (run_repairs frame old) walked.count ≡ Some write) × (drop (walked.count + 1) (run_repairs frame old) ≡ rest) × (walked.count < length (run_repairs frame old))
    next_repair write rest is = drop_next (run_repairs frame old) walked.count write rest (walked.ahead ∙ is)

    pub next_target : (write : WordWrite) (rest : List WordWrite) → writes_ahead cursor now ≡ write ∷ rest → IsRecord frame old → IsTarget frame (length old) write.at
    next_target write rest is record_ =
        let next = next_repair write rest is in
        let target : WordWrite → Type 0 = λ w. IsTarget frame (length old) w.at in
        subst target (get_or_from_slice_get (run_repairs frame old) walked.count write write next.0) (All-get_or target (run_repairs frame old) walked.count write next.2 record_.targets)

    next_of_all : (write : WordWrite) (rest : List WordWrite) → writes_ahead cursor now ≡ write ∷ rest → slice_get all_repairs walked.count ≡ Some write
    next_of_all write rest is =
        let next = next_repair write rest is in slice_get-append_left (run_repairs frame old) (closing frame ∷ []) walked.count next.2 ∙ next.0

    pub length_now : length now ≡ length old
    length_now = ap length walked.so_far.words ∙ length-made (take walked.count all_repairs) old

    pub walk_on : (after : List ℕ) (later : Option (List ℕ)) (moved : Cursor) (write : WordWrite) → IsRecord frame old
        → writes_ahead cursor now ≡ write ∷ writes_ahead moved now → IsOnRuns now moved → moved.end ≡ cursor.end → cursor.next ≤ moved.next
        → after ≡ set now write.at write.word → Spends left later 1 → Walked frame old after told later moved
    walk_on after later moved write record_ is runs same_end further stored spent =
        let next = next_repair write (writes_ahead moved now) is in
        let beyond = (next_target write (writes_ahead moved now) is record_).beyond in
        let text : text_between after moved.next moved.end ≡ text_between now moved.next moved.end =
        ap (λ (l : List ℕ). text_between l moved.next moved.end) stored
        ∙ text_set now moved.next moved.end write.at write.word runs.before
        (⊎_elim (λ before. inl (omega (arith, before, walked.from))) (λ behind. inr (omega (arith, behind, walked.end))) beyond.outside) in
        let len : length after ≡ length now = ap length stored ∙ length-set now write.at write.word in
        let ahead : writes_ahead moved after ≡ writes_ahead moved now = ap (run_writes moved.target moved.left) text in
        record {
          count = walked.count + 1;
          within = omega (arith, next.2);
          so_far = one_more all_repairs old told now after left later walked.count write walked.so_far (next_of_all write (writes_ahead moved now) is) stored spent;
          ahead = next.1 ∙ sym ahead;
          runs = record {
            before = runs.before;
            end = omega (arith, runs.end);
            small = omega (arith, runs.small);
            whole = subst (IsWholeText moved.left) (sym text) runs.whole;
            targets =
                subst (λ (n : ℕ). All (λ (w : WordWrite). w.at < n) (writes_ahead moved after)) (sym len)
                (subst (All (λ (w : WordWrite). w.at < length now)) (sym ahead) runs.targets);
          };
          from = omega (arith, walked.from);
          end = omega (arith, walked.end);
        }

    -- the life refused the next write
    pub walk_died : (after : List ℕ) (later : Option (List ℕ)) (write : WordWrite) (rest : List WordWrite) → writes_ahead cursor now ≡ write ∷ rest
        → after ≡ now → Allows left later true false → SomeMade all_repairs old after told later
    walk_died after later write rest is same allows =
        no_more all_repairs old told now after left later walked.count write walked.so_far (next_of_all write rest is) same allows

    module _ (over : writes_ahead cursor now ≡ []) where
      at_end : walked.count ≡ length (run_repairs frame old)
      at_end = omega (arith, walked.within, drop_end (run_repairs frame old) walked.count (walked.ahead ∙ over))

      -- the gate was closed, and no write was left
      pub closed_all : (after : List ℕ) (later : Option (List ℕ)) (answer : Result (Unit {0}) Died) → OnOk answer (after ≡ set now frame.gate 0)
          → Allows left later true (is_ok answer) → OnOk answer (AllMade all_repairs old after told later)
      closed_all after later (Ok done) stored allows =
          let more = one_more all_repairs old told now after left later walked.count (closing frame) walked.so_far (at_last (run_repairs frame old) (closing frame) walked.count at_end) stored (allows.counted refl) in
          all_made all_repairs old told after later (walked.count + 1) more (omega (arith, at_end, length_more (run_repairs frame old) (closing frame)))
      closed_all after later (Err died) stored allows = tt

      -- the gate was not closed
      pub closed_none : (after : List ℕ) (later : Option (List ℕ)) (answer : Result (Unit {0}) Died) → OnErr answer (after ≡ now)
          → Allows left later true (is_ok answer) → OnErr answer (SomeMade all_repairs old after told later)
      closed_none after later (Ok done) same allows = tt
      closed_none after later (Err died) same allows =
          no_more all_repairs old told now after left later walked.count (closing frame) walked.so_far (at_last (run_repairs frame old) (closing frame) walked.count at_end) same allows
