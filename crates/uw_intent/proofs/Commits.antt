-- What the words stand for while a commit goes on.
use Rattle.std.proofs.Common.{◌≡◌, ◌≢◌, ◌⊎◌, inl, inr, ⊎_elim, ℕ, zero, suc, ◌+◌, ◌-◌, ◌*◌, ◌<◌, ◌≤◌, All, cond, eqb, List, [], ◌∷◌, ◌++◌, Option, Some, None, unwrap_or, length, get_or, set, take, drop, refl, sym, ap, ◌∙◌, subst, arith, append_assoc}
use Rattle.std.proofs.Math.Seq.{take-append-add}
use Rattle.std.proofs.lemmas.Bool.{cases_lt, cases_eq}
use Rattle.std.proofs.lemmas.Bool.Decides.{nat_tests}
use Rattle.std.proofs.lemmas.List.{length-append, length-set, take-append-le, take_all, get_or-set_same, get_or-set_other, drop_more}
use Rattle.std.proofs.lemmas.List.Elements.{All-cons, All-nil, All-take, All-append}
use Rattle.uw_words.specs.Plans.{region, planned, through, HasDistinctPlaces}
use Rattle.uw_intent.specs.declared.frame.WordWrite.{WordWrite}
use Rattle.uw_intent.specs.declared.frame.Frame.{Frame}
use Rattle.uw_intent.specs.Stores.{words_after}
use Rattle.uw_intent.specs.RedoRecord.{IsFrame, IsBeyond, IsTarget, IsWholeText, IsRecord, IsIntact, FitsRecord, StandsAs, run_writes, record_text, laid, runs_of, copies, commit_writes, closing, repairs, applied}
use Rattle.uw_intent.proofs.Listed.{length-runs_of, length-laid, commit_writes-some, commit_within}
use Rattle.uw_intent.proofs.Progress.{length-made, made-append}
use Rattle.uw_intent.proofs.Repairs.{run_repairs, repairs_closed}
use Rattle.uw_intent.proofs.Words.{word_after, AllWithin, AllAway, get_or-made, word_after-append, word_after_away, part_made}
use Rattle.uw_intent.proofs.Recoveries.{all_weaker, all_intact, all_applied, all_closed, repairs_are}

-- what the runs of a plan say

pub whole-runs_of : (plan : List (ℕ × ℕ)) → IsWholeText 0 (runs_of plan)
whole-runs_of [] = tt
whole-runs_of (p ∷ plan) = whole-runs_of plan

pub run_writes-runs_of : (target : ℕ) (plan : List (ℕ × ℕ)) → run_writes target 0 (runs_of plan) ≡ copies plan
run_writes-runs_of target [] = refl
run_writes-runs_of target (p ∷ plan) = ap (λ (l : List WordWrite). record { at = p.0; word = p.1 } ∷ l) (run_writes-runs_of (p.0 + 1) plan)

-- where the words of a record are laid

laid_outside : (at : ℕ) (words : List ℕ) → All (λ write. (at ≤ write.at) × (write.at < at + length words)) (laid at words)
laid_outside at [] = All-nil (λ (w : WordWrite). (at ≤ w.at) × (w.at < at + 0))
laid_outside at (word ∷ words) =
    let P : WordWrite → Type 0 = λ w. (at ≤ w.at) × (w.at < at + length (word ∷ words)) in
    All-cons P record { at = at; word = word } (laid (at + 1) words) (omega arith, omega arith)
    (all_weaker (λ (w : WordWrite). (at + 1 ≤ w.at) × (w.at < at + 1 + length words)) P (laid (at + 1) words) (λ w within. (omega arith, omega arith)) (laid_outside (at + 1) words))

pub laid_text : (at : ℕ) (text words : List ℕ) → at + length text ≤ length words → take (length text) (drop at (words_after (laid at text) words)) ≡ text
laid_text at [] words within = refl
laid_text at (word ∷ text) words within =
    let base = set words at word in
    let after = words_after (laid (at + 1) text) base in
    let len_base : length base ≡ length words = length-set words at word in
    let len : length after ≡ length words = length-made (laid (at + 1) text) base ∙ len_base in
    let inside : AllWithin (length base) (laid (at + 1) text) =
    all_weaker (λ (w : WordWrite). (at + 1 ≤ w.at) × (w.at < at + 1 + length text)) (λ (w : WordWrite). w.at < length base) (laid (at + 1) text) (λ w h. omega (arith, h.1, within, len_base)) (laid_outside (at + 1) text) in
    let away : AllAway at (laid (at + 1) text) =
    all_weaker (λ (w : WordWrite). (at + 1 ≤ w.at) × (w.at < at + 1 + length text)) (λ (w : WordWrite). w.at ≢ at) (laid (at + 1) text) (λ w h same. omega (arith, h.0, same)) (laid_outside (at + 1) text) in
    let first : get_or after at 0 ≡ word =
    get_or-made (laid (at + 1) text) base at inside ∙ word_after_away (laid (at + 1) text) at (get_or base at 0) away ∙ get_or-set_same words at word 0 (omega (arith, within)) in
    let rest : take (length text) (drop (at + 1) after) ≡ text = laid_text (at + 1) text base (omega (arith, within, len_base)) in
    ap (take (suc (length text))) (drop_more after at 0 (omega (arith, len, within)))
    ∙ ap (λ (x : ℕ). x ∷ take (length text) (drop (at + 1) after)) first
    ∙ ap (λ (l : List ℕ). word ∷ l) rest

-- what a reader sees after the copies of a plan

pub distinct_rest : (p : ℕ × ℕ) (plan : List (ℕ × ℕ)) → HasDistinctPlaces (p ∷ plan) → HasDistinctPlaces plan
distinct_rest p plan distinct = λ i j d early within. distinct (suc i) (suc j) d (omega arith) (omega arith)

pub copies_away : (p : ℕ × ℕ) (plan : List (ℕ × ℕ)) → HasDistinctPlaces (p ∷ plan) → AllAway p.0 (copies plan)
copies_away p [] distinct = All-nil (λ (w : WordWrite). w.at ≢ p.0)
copies_away p (q ∷ plan) distinct =
    All-cons (λ (w : WordWrite). w.at ≢ p.0) record { at = q.0; word = q.1 } (copies plan) (λ same. distinct 0 1 q (omega arith) (omega arith) (sym same))
    (copies_away p plan (without distinct))
  where
    without : HasDistinctPlaces (p ∷ q ∷ plan) → HasDistinctPlaces (p ∷ plan)
    without distinct zero zero d early within = absurd (omega arith)
    without distinct zero (suc j) d early within = distinct 0 (suc (suc j)) d (omega arith) (omega arith)
    without distinct (suc i) zero d early within = absurd (omega arith)
    without distinct (suc i) (suc j) d early within = distinct (suc (suc i)) (suc (suc j)) d (omega arith) (omega arith)

pub copies_through : (plan : List (ℕ × ℕ)) (at own : ℕ) → HasDistinctPlaces plan → word_after (copies plan) at own ≡ unwrap_or (planned plan at) own
copies_through [] at own distinct = refl
copies_through (p ∷ plan) at own distinct = elim (cases_eq p.0 at) [
  | inl same ↦
      let away : AllAway at (copies plan) = subst (λ (n : ℕ). AllAway n (copies plan)) same (copies_away p plan distinct) in
      let word : cond (eqb p.0 at) p.1 own ≡ p.1 = grind (arith, nat_tests) in
      let is : planned (p ∷ plan) at ≡ Some p.1 = grind (arith, nat_tests) in
      ap (word_after (copies plan) at) word ∙ word_after_away (copies plan) at p.1 away ∙ ap (λ (o : Option ℕ). unwrap_or o own) (sym is)
  | inr other ↦
      let word : cond (eqb p.0 at) p.1 own ≡ own = grind (arith, nat_tests) in
      let is : planned (p ∷ plan) at ≡ planned plan at = grind (arith, nat_tests) in
      ap (word_after (copies plan) at) word ∙ copies_through plan at own (distinct_rest p plan distinct) ∙ ap (λ (o : Option ℕ). unwrap_or o own) (sym is)
]

copies_unplanned : (plan : List (ℕ × ℕ)) (at : ℕ) → planned plan at ≡ None → AllAway at (copies plan)
copies_unplanned [] at none = All-nil (λ (w : WordWrite). w.at ≢ at)
copies_unplanned (p ∷ plan) at none = elim (cases_eq p.0 at) [
  | inl same ↦
      let is : planned (p ∷ plan) at ≡ Some p.1 = grind (arith, nat_tests) in
      absurd (cc (none, is))
  | inr other ↦
      let is : planned (p ∷ plan) at ≡ planned plan at = grind (arith, nat_tests) in
      All-cons (λ (w : WordWrite). w.at ≢ at) record { at = p.0; word = p.1 } (copies plan) other (copies_unplanned plan at (sym is ∙ none))
]

module _ (frame : Frame) (words : List ℕ) (plan : List (ℕ × ℕ)) (is : IsFrame frame (length words)) (idle : region words frame.gate ≡ 0) (fit : FitsRecord frame (length words) plan) where
  abbrev opening : WordWrite
  opening = record { at = frame.gate; word = 1 }

  abbrev using : WordWrite
  using = record { at = frame.used; word = 3 * length plan }

  -- the writes before the gate's
  abbrev record_laid : List WordWrite
  record_laid = laid frame.start (runs_of plan) ++ using ∷ []

  -- the writes after the gate's
  abbrev copied : List WordWrite
  copied = copies plan ++ closing frame ∷ []

  gate_within : frame.gate < length words
  gate_within = omega (arith, is.gate, is.start, is.within)

  used_within : frame.used < length words
  used_within = omega (arith, is.used, is.start, is.within)

  text_within : frame.start + length (runs_of plan) ≤ length words
  text_within = omega (arith, length-runs_of plan, fit.room, is.within)

  abbrev InRecord : WordWrite → Type 0
  InRecord w = (frame.start ≤ w.at) × (w.at < frame.start + length (runs_of plan))

  laid_in : All InRecord (laid frame.start (runs_of plan))
  laid_in = laid_outside frame.start (runs_of plan)

  pub laid_all : (P : WordWrite → Type 0) → ((w : WordWrite) → InRecord w → P w) → P using → All P record_laid
  laid_all P each last =
      All-append P (laid frame.start (runs_of plan)) (using ∷ []) (all_weaker InRecord P (laid frame.start (runs_of plan)) each laid_in) (All-cons P using [] last (All-nil P))

  laid_within : AllWithin (length words) record_laid
  laid_within = laid_all (λ (w : WordWrite). w.at < length words) (λ w h. omega (arith, h.1, text_within)) used_within

  away_from_record : (at : ℕ) → (at < frame.start) ⊎ (frame.start + frame.room ≤ at) → at ≢ frame.used → AllAway at record_laid
  away_from_record at outside used = laid_all (λ (w : WordWrite). w.at ≢ at)
      (λ w h same. ⊎_elim (λ before. omega (arith, before, h.0, same)) (λ behind. omega (arith, behind, h.1, same, length-runs_of plan, fit.room)) outside)
      (λ same. used (sym same))

  laid_away : (at : ℕ) → IsBeyond frame at → AllAway at record_laid
  laid_away at beyond = away_from_record at beyond.outside beyond.used

  laid_away_gate : AllAway frame.gate record_laid
  laid_away_gate = away_from_record frame.gate (inl (omega (arith, is.gate, is.start))) (λ same. omega (arith, same, is.gate, is.used))

  length-record_laid : length record_laid ≡ 3 * length plan + 1
  length-record_laid = omega (arith, length-append (laid frame.start (runs_of plan)) (using ∷ []), length-laid frame.start (runs_of plan), length-runs_of plan)

  -- a place that the commit does not write to before the gate opens
  before_gate : (k at : ℕ) → AllAway at record_laid → region (words_after (take k record_laid) words) at ≡ region words at
  before_gate k at away =
      get_or-made (take k record_laid) words at (All-take (λ (w : WordWrite). w.at < length words) k record_laid laid_within)
      ∙ word_after_away (take k record_laid) at (get_or words at 0) (All-take (λ (w : WordWrite). w.at ≢ at) k record_laid away)

  -- the words when the gate has opened
  abbrev opened : List ℕ
  opened = set (words_after record_laid words) frame.gate 1

  pub length-opened : length opened ≡ length words
  length-opened = length-set (words_after record_laid words) frame.gate 1 ∙ length-made record_laid words

  pub opened_gate : region opened frame.gate ≡ 1
  opened_gate = get_or-set_same (words_after record_laid words) frame.gate 1 0 (omega (arith, length-made record_laid words, gate_within))

  opened_other : (at : ℕ) → at ≢ frame.gate → region opened at ≡ region (words_after record_laid words) at
  opened_other at other = get_or-set_other (words_after record_laid words) frame.gate at 1 0 other

  opened_beyond : (at : ℕ) → IsBeyond frame at → region opened at ≡ region words at
  opened_beyond at beyond =
      opened_other at beyond.gate
      ∙ get_or-made record_laid words at laid_within ∙ word_after_away record_laid at (get_or words at 0) (laid_away at beyond)

  opened_used : region opened frame.used ≡ 3 * length plan
  opened_used =
      let base = words_after (laid frame.start (runs_of plan)) words in
      opened_other frame.used (λ same. omega (arith, same, is.gate, is.used))
      ∙ ap (λ (l : List ℕ). region l frame.used) (made-append (laid frame.start (runs_of plan)) (using ∷ []) words)
      ∙ get_or-set_same base frame.used (3 * length plan) 0 (omega (arith, length-made (laid frame.start (runs_of plan)) words, used_within))

  opened_text : record_text frame opened ≡ runs_of plan
  opened_text =
      let n = length (runs_of plan) in
      let base = words_after (laid frame.start (runs_of plan)) words in
      let late : List WordWrite = using ∷ opening ∷ [] in
      let Aside : WordWrite → Type 0 = λ w. (w.at < frame.start) ⊎ (frame.start + n ≤ w.at) in
      let same : opened ≡ words_after late base = ap (λ (l : List ℕ). set l frame.gate 1) (made-append (laid frame.start (runs_of plan)) (using ∷ []) words) in
      let aside : All Aside late = All-cons Aside using (opening ∷ []) (inl (omega (arith, is.used, is.start))) (All-cons Aside opening [] (inl (omega (arith, is.gate, is.start))) (All-nil Aside)) in
      ap (λ (m : ℕ). take m (drop frame.start opened)) (opened_used ∙ sym (length-runs_of plan))
      ∙ ap (λ (l : List ℕ). take n (drop frame.start l)) same
      ∙ part_made late base frame.start n aside
      ∙ laid_text frame.start (runs_of plan) words text_within

  pub opened_runs : run_repairs frame opened ≡ copies plan
  opened_runs = ap (run_writes 0 0) opened_text ∙ run_writes-runs_of 0 plan

  pub opened_frame : IsFrame frame (length opened)
  opened_frame = record { gate = is.gate; used = is.used; start = is.start; within = omega (arith, length-opened, is.within) }

  pub copies_targets : All (λ (w : WordWrite). IsTarget frame (length words) w.at) (copies plan)
  copies_targets = go plan fit.targets
    where
      go : (plan : List (ℕ × ℕ)) → All (λ planned. IsTarget frame (length words) planned.0) plan → All (λ (w : WordWrite). IsTarget frame (length words) w.at) (copies plan)
      go [] all = All-nil (λ (w : WordWrite). IsTarget frame (length words) w.at)
      go (p ∷ plan) all =
          All-cons (λ (w : WordWrite). IsTarget frame (length words) w.at) record { at = p.0; word = p.1 } (copies plan) (all 0 (0, 0) (omega arith)) (go plan (λ k d h. all (suc k) d (omega arith)))

  pub opened_whole : IsRecord frame opened
  opened_whole = record {
    within = omega (arith, opened_used, fit.room);
    whole = subst (IsWholeText 0) (sym opened_text) (whole-runs_of plan);
    targets =
        subst (λ (n : ℕ). All (λ (w : WordWrite). IsTarget frame n w.at) (run_repairs frame opened)) (sym length-opened)
        (subst (All (λ (w : WordWrite). IsTarget frame (length words) w.at)) (sym opened_runs) copies_targets);
  }

  pub opened_repairs : repairs frame opened ≡ copied
  opened_repairs = repairs_are frame opened opened_frame opened_gate opened_whole ∙ ap (λ (l : List WordWrite). l ++ closing frame ∷ []) opened_runs

  pub copied_within : AllWithin (length opened) copied
  copied_within = subst (λ (n : ℕ). AllWithin n copied) (sym length-opened)
      (All-append (λ (w : WordWrite). w.at < length words) (copies plan) (closing frame ∷ [])
      (all_weaker (λ (w : WordWrite). IsTarget frame (length words) w.at) (λ (w : WordWrite). w.at < length words) (copies plan) (λ w target. target.within) copies_targets)
      (All-cons (λ (w : WordWrite). w.at < length words) (closing frame) [] gate_within (All-nil (λ (w : WordWrite). w.at < length words))))

  -- after all copies a reader sees the planned words
  pub all_copied : HasDistinctPlaces plan → (at : ℕ) → IsBeyond frame at → region (words_after copied opened) at ≡ through plan (region words) at
  all_copied distinct at beyond =
      let closed : AllAway at (closing frame ∷ []) = All-cons (λ (w : WordWrite). w.at ≢ at) (closing frame) [] (λ same. beyond.gate (sym same)) (All-nil (λ (w : WordWrite). w.at ≢ at)) in
      get_or-made copied opened at copied_within
      ∙ word_after-append (copies plan) (closing frame ∷ []) at (get_or opened at 0)
      ∙ word_after_away (closing frame ∷ []) at (word_after (copies plan) at (get_or opened at 0)) closed
      ∙ copies_through plan at (get_or opened at 0) distinct
      ∙ ap (λ (own : ℕ). unwrap_or (planned plan at) own) (opened_beyond at beyond)

  module _ (some : 0 < length plan) where
    pub split : commit_writes frame plan ≡ record_laid ++ (opening ∷ copied)
    split =
        commit_writes-some frame plan some
        ∙ append_assoc (laid frame.start (runs_of plan)) (using ∷ opening ∷ copies plan) (closing frame ∷ [])
        ∙ sym (append_assoc (laid frame.start (runs_of plan)) (using ∷ []) (opening ∷ copied))

    before : (k : ℕ) → k ≤ 3 * length plan + 1 → take k (commit_writes frame plan) ≡ take k record_laid
    before k h = ap (take k) split ∙ take-append-le k record_laid (opening ∷ copied) (omega (arith, length-record_laid))

    after : (k : ℕ) → 3 * length plan + 1 < k → words_after (take k (commit_writes frame plan)) words ≡ words_after (take (k - (3 * length plan + 2)) (repairs frame opened)) opened
    after k h =
        let j = k - (3 * length plan + 2) in
        let place : k ≡ length record_laid + suc j = omega (arith, length-record_laid) in
        let taken : take k (commit_writes frame plan) ≡ record_laid ++ (opening ∷ take j copied) =
        ap (take k) split ∙ ap (λ (n : ℕ). take n (record_laid ++ (opening ∷ copied))) place ∙ take-append-add record_laid (opening ∷ copied) (suc j) in
        ap (λ (l : List WordWrite). words_after l words) taken
        ∙ made-append record_laid (opening ∷ take j copied) words
        ∙ ap (λ (l : List WordWrite). words_after (take j l) opened) (sym opened_repairs)

    pub whole : words_after (commit_writes frame plan) words ≡ words_after (repairs frame opened) opened
    whole =
        ap (λ (l : List WordWrite). words_after l words) split ∙ made-append record_laid (opening ∷ copied) words ∙ ap (λ (l : List WordWrite). words_after l opened) (sym opened_repairs)

    closed_before : (k : ℕ) → region (words_after (take k record_laid) words) frame.gate ≡ 0
    closed_before k = before_gate k frame.gate laid_away_gate ∙ idle

    some_intact : (k : ℕ) → IsIntact frame (words_after (take k (commit_writes frame plan)) words)
    some_intact k = elim (cases_lt (3 * length plan + 1) k) [
      | inl late ↦ subst (IsIntact frame) (sym (after k late)) (all_intact frame opened (k - (3 * length plan + 2)) opened_frame (inr (opened_gate, opened_whole)))
      | inr early ↦ subst (λ (l : List WordWrite). IsIntact frame (words_after l words)) (sym (before k early)) (inl (closed_before k))
    ]

    some_old : (k : ℕ) → k ≤ 3 * length plan + 1 → StandsAs frame (words_after (take k (commit_writes frame plan)) words) (region words)
    some_old k early at beyond =
        let now = words_after (take k record_laid) words in
        ap (λ (l : List WordWrite). region (applied frame (words_after l words)) at) (before k early)
        ∙ ap (λ (l : List WordWrite). region (words_after l now) at) (repairs_closed frame now (closed_before k))
        ∙ before_gate k at (laid_away at beyond)

    some_kept : (k at : ℕ) → k ≤ 3 * length plan + 1 → (at < frame.start) ⊎ (frame.start + frame.room ≤ at) → at ≢ frame.used
        → region (words_after (take k (commit_writes frame plan)) words) at ≡ region words at
    some_kept k at early outside used =
        ap (λ (l : List WordWrite). region (words_after l words) at) (before k early) ∙ before_gate k at (away_from_record at outside used)

    some_new : (k : ℕ) → HasDistinctPlaces plan → 3 * length plan + 1 < k → StandsAs frame (words_after (take k (commit_writes frame plan)) words) (through plan (region words))
    some_new k distinct late at beyond =
        let j = k - (3 * length plan + 2) in
        ap (λ (l : List ℕ). region (applied frame l) at) (after k late)
        ∙ ap (λ (l : List ℕ). region l at) (all_applied frame opened j opened_frame (inr (opened_gate, opened_whole)))
        ∙ ap (λ (l : List WordWrite). region (words_after l opened) at) opened_repairs
        ∙ all_copied distinct at beyond

    some_closed : region (words_after (commit_writes frame plan) words) frame.gate ≡ 0
    some_closed = ap (λ (l : List ℕ). region l frame.gate) whole ∙ all_closed frame opened opened_frame (inr (opened_gate, opened_whole))

    some_left : HasDistinctPlaces plan → (at : ℕ) → IsBeyond frame at → region (words_after (commit_writes frame plan) words) at ≡ through plan (region words) at
    some_left distinct at beyond =
        ap (λ (l : List ℕ). region l at) whole ∙ ap (λ (l : List WordWrite). region (words_after l opened) at) opened_repairs ∙ all_copied distinct at beyond

    some_away : (at : ℕ) → IsBeyond frame at → planned plan at ≡ None → AllAway at (commit_writes frame plan)
    some_away at beyond none = subst (AllAway at) (sym split)
        (All-append (λ (w : WordWrite). w.at ≢ at) record_laid (opening ∷ copied) (laid_away at beyond)
        (All-cons (λ (w : WordWrite). w.at ≢ at) opening copied (λ same. beyond.gate (sym same))
        (All-append (λ (w : WordWrite). w.at ≢ at) (copies plan) (closing frame ∷ []) (copies_unplanned plan at none)
        (All-cons (λ (w : WordWrite). w.at ≢ at) (closing frame) [] (λ same. beyond.gate (sym same)) (All-nil (λ (w : WordWrite). w.at ≢ at))))))

-- a commit of any plan

nothing_made : (frame : Frame) (words : List ℕ) (k : ℕ) → words_after (take k (commit_writes frame [])) words ≡ words
nothing_made frame words k = ap (λ (l : List WordWrite). words_after l words) (take_all k [] (omega arith))

pub keeps_intact : (frame : Frame) (words : List ℕ) (plan : List (ℕ × ℕ)) (k : ℕ) → IsFrame frame (length words) → region words frame.gate ≡ 0 → FitsRecord frame (length words) plan
    → IsIntact frame (words_after (take k (commit_writes frame plan)) words)
keeps_intact frame words [] k is idle fit = subst (IsIntact frame) (sym (nothing_made frame words k)) (inl idle)
keeps_intact frame words (p ∷ plan) k is idle fit = some_intact frame words (p ∷ plan) is idle fit (omega arith) k

stands_idle : (frame : Frame) (words : List ℕ) (k : ℕ) → region words frame.gate ≡ 0 → StandsAs frame (words_after (take k (commit_writes frame [])) words) (region words)
stands_idle frame words k idle at beyond =
    ap (λ (l : List ℕ). region (applied frame l) at) (nothing_made frame words k) ∙ ap (λ (l : List WordWrite). region (words_after l words) at) (repairs_closed frame words idle)

pub stands_old : (frame : Frame) (words : List ℕ) (plan : List (ℕ × ℕ)) (k : ℕ) → IsFrame frame (length words) → region words frame.gate ≡ 0 → FitsRecord frame (length words) plan
    → k ≤ 3 * length plan + 1 → StandsAs frame (words_after (take k (commit_writes frame plan)) words) (region words)
stands_old frame words [] k is idle fit early = stands_idle frame words k idle
stands_old frame words (p ∷ plan) k is idle fit early = some_old frame words (p ∷ plan) is idle fit (omega arith) k early

pub keeps_others : (frame : Frame) (words : List ℕ) (plan : List (ℕ × ℕ)) (k : ℕ) → IsFrame frame (length words) → region words frame.gate ≡ 0 → FitsRecord frame (length words) plan
    → k ≤ 3 * length plan + 1 → (at : ℕ) → (at < frame.start) ⊎ (frame.start + frame.room ≤ at) → at ≢ frame.used
    → region (words_after (take k (commit_writes frame plan)) words) at ≡ region words at
keeps_others frame words [] k is idle fit early at outside used = ap (λ (l : List ℕ). region l at) (nothing_made frame words k)
keeps_others frame words (p ∷ plan) k is idle fit early at outside used = some_kept frame words (p ∷ plan) is idle fit (omega arith) k at early outside used

pub stands_new : (frame : Frame) (words : List ℕ) (plan : List (ℕ × ℕ)) (k : ℕ) → IsFrame frame (length words) → region words frame.gate ≡ 0 → FitsRecord frame (length words) plan → HasDistinctPlaces plan
    → 3 * length plan + 1 < k → StandsAs frame (words_after (take k (commit_writes frame plan)) words) (through plan (region words))
stands_new frame words [] k is idle fit distinct late = stands_idle frame words k idle
stands_new frame words (p ∷ plan) k is idle fit distinct late = some_new frame words (p ∷ plan) is idle fit (omega arith) k distinct late

pub changes_planned : (frame : Frame) (words : List ℕ) (plan : List (ℕ × ℕ)) (k : ℕ) → IsFrame frame (length words) → region words frame.gate ≡ 0 → FitsRecord frame (length words) plan
    → (at : ℕ) → IsBeyond frame at → planned plan at ≡ None → region (words_after (take k (commit_writes frame plan)) words) at ≡ region words at
changes_planned frame words [] k is idle fit at beyond none = ap (λ (l : List ℕ). region l at) (nothing_made frame words k)
changes_planned frame words (p ∷ plan) k is idle fit at beyond none =
    let writes = commit_writes frame (p ∷ plan) in
    get_or-made (take k writes) words at (All-take (λ (w : WordWrite). w.at < length words) k writes (commit_within frame (length words) (p ∷ plan) is fit))
    ∙ word_after_away (take k writes) at (get_or words at 0) (All-take (λ (w : WordWrite). w.at ≢ at) k writes (some_away frame words (p ∷ plan) is idle fit (omega arith) at beyond none))

pub closes : (frame : Frame) (words : List ℕ) (plan : List (ℕ × ℕ)) → IsFrame frame (length words) → region words frame.gate ≡ 0 → FitsRecord frame (length words) plan
    → region (words_after (commit_writes frame plan) words) frame.gate ≡ 0
closes frame words [] is idle fit = idle
closes frame words (p ∷ plan) is idle fit = some_closed frame words (p ∷ plan) is idle fit (omega arith)

pub leaves_planned : (frame : Frame) (words : List ℕ) (plan : List (ℕ × ℕ)) → IsFrame frame (length words) → region words frame.gate ≡ 0 → FitsRecord frame (length words) plan → HasDistinctPlaces plan
    → (at : ℕ) → IsBeyond frame at → region (words_after (commit_writes frame plan) words) at ≡ through plan (region words) at
leaves_planned frame words [] is idle fit distinct at beyond = refl
leaves_planned frame words (p ∷ plan) is idle fit distinct at beyond = some_left frame words (p ∷ plan) is idle fit (omega arith) distinct at beyond
