-- The writes of a commit by their numbers.
use Rattle.std.proofs.Common.{◌≡◌, ℕ, zero, suc, ◌+◌, ◌-◌, ◌*◌, ◌<◌, ◌≤◌, All, List, [], ◌∷◌, ◌++◌, Option, Some, None, length, get_or, refl, sym, ap, ◌∙◌, arith}
use Rattle.std.specs.List.{slice_get}
use Rattle.std.proofs.lemmas.List.{length-append}
use Rattle.std.proofs.lemmas.List.Elements.{All-append, All-cons, All-nil}
use Rattle.std.proofs.lemmas.Option.{slice_get_past}
use Rattle.uw_intent.specs.declared.frame.WordWrite.{WordWrite}
use Rattle.uw_intent.specs.declared.frame.Frame.{Frame}
use Rattle.uw_intent.specs.Stores.{numbered}
use Rattle.uw_intent.specs.RedoRecord.{laid, runs_of, copies, closing, commit_writes, IsFrame, FitsRecord, IsTarget}

pub slice_get-append_left : {X : Type 0} (xs ys : List X) (i : ℕ) → i < length xs → slice_get (xs ++ ys) i ≡ slice_get xs i
slice_get-append_left [] ys i h = absurd (omega arith)
slice_get-append_left (x ∷ xs) ys zero h = refl
slice_get-append_left (x ∷ xs) ys (suc i) h = slice_get-append_left xs ys i (omega arith)

pub slice_get-append_right : {X : Type 0} (xs ys : List X) (n i : ℕ) → n ≡ length xs → n ≤ i → slice_get (xs ++ ys) i ≡ slice_get ys (i - n)
slice_get-append_right [] ys n i len h = ap (slice_get ys) (let e : i ≡ i - n = omega arith in e)
slice_get-append_right (x ∷ xs) ys n zero len h = absurd (omega arith)
slice_get-append_right (x ∷ xs) ys n (suc i) len h =
    slice_get-append_right xs ys (n - 1) i (omega arith) (omega arith) ∙ ap (slice_get ys) (let e : i - (n - 1) ≡ suc i - n = omega arith in e)

pub length-runs_of : (plan : List (ℕ × ℕ)) → length (runs_of plan) ≡ 3 * length plan
length-runs_of [] = refl
length-runs_of (p ∷ plan) = omega (arith, length-runs_of plan)

pub length-laid : (at : ℕ) (words : List ℕ) → length (laid at words) ≡ length words
length-laid at [] = refl
length-laid at (word ∷ words) = omega (arith, length-laid (at + 1) words)

pub length-copies : (plan : List (ℕ × ℕ)) → length (copies plan) ≡ length plan
length-copies [] = refl
length-copies (p ∷ plan) = omega (arith, length-copies plan)

-- the words of each run
pub runs_of-at : (plan : List (ℕ × ℕ)) (q : ℕ) → q < length plan
    → (get_or (runs_of plan) (3 * q) 0 ≡ (get_or plan q (0, 0)).0) × (get_or (runs_of plan) (3 * q + 1) 0 ≡ 1) × (get_or (runs_of plan) (3 * q + 2) 0 ≡ (get_or plan q (0, 0)).1)
runs_of-at [] q h = absurd (omega arith)
runs_of-at (p ∷ plan) zero h = (refl, refl, refl)
runs_of-at (p ∷ plan) (suc q) h =
    let rest = runs_of-at plan q (omega arith) in
    let at : ℕ → ℕ = λ i. get_or (runs_of (p ∷ plan)) i 0 in (
      ap at (let e : 3 * suc q ≡ suc (suc (suc (3 * q))) = omega arith in e) ∙ rest.0,
      ap at (let e : 3 * suc q + 1 ≡ suc (suc (suc (3 * q + 1))) = omega arith in e) ∙ rest.1,
      ap at (let e : 3 * suc q + 2 ≡ suc (suc (suc (3 * q + 2))) = omega arith in e) ∙ rest.2,
    )

pub laid-at : (at : ℕ) (words : List ℕ) (i : ℕ) → i < length words → slice_get (laid at words) i ≡ Some record { at = at + i; word = get_or words i 0 }
laid-at at [] i h = absurd (omega arith)
laid-at at (word ∷ words) zero h = ap (λ (place : ℕ). Some record { at = place; word = word }) (let e : at ≡ at + 0 = omega arith in e)
laid-at at (word ∷ words) (suc i) h =
    laid-at (at + 1) words i (omega arith) ∙ ap (λ (place : ℕ). Some record { at = place; word = get_or words i 0 }) (let e : at + 1 + i ≡ at + suc i = omega arith in e)

pub copies-at : (plan : List (ℕ × ℕ)) (i : ℕ) (planned : ℕ × ℕ) → slice_get plan i ≡ Some planned → slice_get (copies plan) i ≡ Some record { at = planned.0; word = planned.1 }
copies-at [] i planned is = cc
copies-at (p ∷ plan) zero planned is =
    let same : p ≡ planned = cc in ap (λ (q : ℕ × ℕ). Some record { at = q.0; word = q.1 }) same
copies-at (p ∷ plan) (suc i) planned is = copies-at plan i planned is

module _ (frame : Frame) (plan : List (ℕ × ℕ)) where
  abbrev pub record_writes : List WordWrite
  record_writes = laid frame.start (runs_of plan)

  abbrev pub gate_and_copies : List WordWrite
  gate_and_copies = record { at = frame.used; word = 3 * length plan } ∷ record { at = frame.gate; word = 1 } ∷ copies plan

  pub commit_writes-some : 0 < length plan → commit_writes frame plan ≡ record_writes ++ gate_and_copies ++ closing frame ∷ []
  commit_writes-some some = go plan some
    where
      go : (plan : List (ℕ × ℕ)) → 0 < length plan
          → commit_writes frame plan ≡ laid frame.start (runs_of plan) ++ (record { at = frame.used; word = 3 * length plan } ∷ record { at = frame.gate; word = 1 } ∷ copies plan) ++ closing frame ∷ []
      go [] some = absurd (omega arith)
      go (p ∷ plan) some = refl

  pub length-record_writes : length record_writes ≡ 3 * length plan
  length-record_writes = length-laid frame.start (runs_of plan) ∙ length-runs_of plan

  pub length-gate_and_copies : length gate_and_copies ≡ length plan + 2
  length-gate_and_copies = omega (arith, length-copies plan)

  pub length-commit_writes : 0 < length plan → length (commit_writes frame plan) ≡ 4 * length plan + 3
  length-commit_writes some =
      ap length (commit_writes-some some)
      ∙ omega (arith, length-append (record_writes ++ gate_and_copies) (closing frame ∷ []), length-append record_writes gate_and_copies, length-record_writes, length-gate_and_copies)

  module _ (some : 0 < length plan) where
    at_record : (k : ℕ) → k < 3 * length plan → slice_get (commit_writes frame plan) k ≡ slice_get record_writes k
    at_record k h =
        ap (λ (l : List WordWrite). slice_get l k) (commit_writes-some some)
        ∙ slice_get-append_left (record_writes ++ gate_and_copies) (closing frame ∷ []) k (omega (arith, length-append record_writes gate_and_copies, length-record_writes))
        ∙ slice_get-append_left record_writes gate_and_copies k (omega (arith, length-record_writes))

    at_gate : (k : ℕ) → 3 * length plan ≤ k → k - 3 * length plan < length plan + 2 → slice_get (commit_writes frame plan) k ≡ slice_get gate_and_copies (k - 3 * length plan)
    at_gate k h short =
        ap (λ (l : List WordWrite). slice_get l k) (commit_writes-some some)
        ∙ slice_get-append_left (record_writes ++ gate_and_copies) (closing frame ∷ []) k (omega (arith, length-append record_writes gate_and_copies, length-record_writes, length-gate_and_copies))
        ∙ slice_get-append_right record_writes gate_and_copies (3 * length plan) k (sym length-record_writes) h

    -- a word of the record
    pub number_of_record : (k word : ℕ) → k < 3 * length plan → word ≡ get_or (runs_of plan) k 0 → slice_get (commit_writes frame plan) k ≡ Some record { at = frame.start + k; word = word }
    number_of_record k word h is =
        at_record k h ∙ laid-at frame.start (runs_of plan) k (omega (arith, length-runs_of plan)) ∙ ap (λ (w : ℕ). Some record { at = frame.start + k; word = w }) (sym is)

    pub number_of_used : (k word : ℕ) → 3 * length plan ≤ k → k - 3 * length plan ≡ 0 → word ≡ 3 * length plan → slice_get (commit_writes frame plan) k ≡ Some record { at = frame.used; word = word }
    number_of_used k word h is words =
        at_gate k h (omega arith) ∙ ap (slice_get gate_and_copies) is ∙ ap (λ (w : ℕ). Some record { at = frame.used; word = w }) (sym words)

    pub number_of_gate : (k : ℕ) → 3 * length plan ≤ k → k - 3 * length plan ≡ 1 → slice_get (commit_writes frame plan) k ≡ Some record { at = frame.gate; word = 1 }
    number_of_gate k h is = at_gate k h (omega arith) ∙ ap (slice_get gate_and_copies) is

    pub number_of_copy : (k later : ℕ) (planned : ℕ × ℕ) → 3 * length plan ≤ k → k - 3 * length plan ≡ later + 2 → slice_get plan later ≡ Some planned
        → later < length plan → slice_get (commit_writes frame plan) k ≡ Some record { at = planned.0; word = planned.1 }
    number_of_copy k later planned h is copy short =
        at_gate k h (omega arith) ∙ ap (slice_get gate_and_copies) (is ∙ (let e : later + 2 ≡ suc (suc later) = omega arith in e)) ∙ copies-at plan later planned copy

    pub number_of_closing : (k : ℕ) → k ≡ 4 * length plan + 2 → slice_get (commit_writes frame plan) k ≡ Some (closing frame)
    number_of_closing k is =
        let before : length (record_writes ++ gate_and_copies) ≡ 4 * length plan + 2 = omega (arith, length-append record_writes gate_and_copies, length-record_writes, length-gate_and_copies) in
        ap (λ (l : List WordWrite). slice_get l k) (commit_writes-some some)
        ∙ slice_get-append_right (record_writes ++ gate_and_copies) (closing frame ∷ []) (4 * length plan + 2) k (sym before) (omega arith)
        ∙ ap (slice_get (closing frame ∷ [])) (let e : k - (4 * length plan + 2) ≡ 0 = omega arith in e)

    pub number_of_none : (k : ℕ) → 4 * length plan + 3 ≤ k → slice_get (commit_writes frame plan) k ≡ None
    number_of_none k h = slice_get_past (commit_writes frame plan) k (omega (arith, length-commit_writes some))

-- what is counted from 1
pub numbered_suc : (writes : List WordWrite) (n k : ℕ) (answer : Option WordWrite) → n ≡ k + 1 → slice_get writes k ≡ answer → answer ≡ numbered writes n
numbered_suc writes n k answer is at = sym at ∙ ap (numbered writes) (let e : suc k ≡ n = omega arith in e)

-- the write of a number
pub numbered_some : (writes : List WordWrite) (n : ℕ) (write : WordWrite) → 1 ≤ n → Some write ≡ numbered writes n → slice_get writes (n - 1) ≡ Some write
numbered_some writes zero write first is = absurd (omega arith)
numbered_some writes (suc k) write first is = ap (slice_get writes) (let e : suc k - 1 ≡ k = omega arith in e) ∙ sym is

-- no write is left from a number on that has none
pub numbered_none : (writes : List WordWrite) (n : ℕ) → 1 ≤ n → None ≡ numbered writes n → length writes ≤ n - 1
numbered_none writes zero first is = absurd (omega arith)
numbered_none writes (suc k) first is = omega (arith, past writes k (sym is))
  where
    past : (writes : List WordWrite) (k : ℕ) → slice_get writes k ≡ None → length writes ≤ k
    past [] k none = omega arith
    past (w ∷ writes) zero none = cc
    past (w ∷ writes) (suc k) none = omega (arith, past writes k none)

laid_within : (at len : ℕ) (words : List ℕ) → at + length words ≤ len → All (λ write. write.at < len) (laid at words)
laid_within at len [] h = All-nil (λ (write : WordWrite). write.at < len)
laid_within at len (word ∷ words) h = All-cons (λ (write : WordWrite). write.at < len) record { at = at; word = word } (laid (at + 1) words) (omega arith) (laid_within (at + 1) len words (omega arith))

pub copies_within : (frame : Frame) (len : ℕ) (plan : List (ℕ × ℕ)) → All (λ planned. IsTarget frame len planned.0) plan → All (λ write. write.at < len) (copies plan)
copies_within frame len [] h = All-nil (λ (write : WordWrite). write.at < len)
copies_within frame len (p ∷ plan) h =
    All-cons (λ (write : WordWrite). write.at < len) record { at = p.0; word = p.1 } (copies plan) (h 0 (0, 0) (omega arith)).within
    (copies_within frame len plan (λ k d short. h (suc k) d (omega arith)))

-- every write of a commit goes into the region
pub commit_within : (frame : Frame) (len : ℕ) (plan : List (ℕ × ℕ)) → IsFrame frame len → FitsRecord frame len plan → All (λ write. write.at < len) (commit_writes frame plan)
commit_within frame len [] is fit = All-nil (λ (write : WordWrite). write.at < len)
commit_within frame len (p ∷ plan) is fit =
    let whole = p ∷ plan in
    let within : WordWrite → Type 0 = λ write. write.at < len in
    let gate : frame.gate < len = omega (arith, is.gate, is.start, is.within) in
    let used : frame.used < len = omega (arith, is.used, is.start, is.within) in
    All-append within (record_writes frame whole ++ gate_and_copies frame whole) (closing frame ∷ [])
    (All-append within (record_writes frame whole) (gate_and_copies frame whole)
    (laid_within frame.start len (runs_of whole) (omega (arith, length-runs_of whole, fit.room, is.within)))
    (All-cons within record { at = frame.used; word = 3 * length whole } (record { at = frame.gate; word = 1 } ∷ copies whole) used
    (All-cons within record { at = frame.gate; word = 1 } (copies whole) gate (copies_within frame len whole fit.targets))))
    (All-cons within (closing frame) [] gate (All-nil within))

-- a plan whose commit has a write names a place
pub some : (frame : Frame) (plan : List (ℕ × ℕ)) → 0 < length (commit_writes frame plan) → 0 < length plan
some frame [] h = absurd (omega arith)
some frame (p ∷ plan) h = omega arith
