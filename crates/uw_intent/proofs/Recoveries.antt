-- What the words stand for while a recovery goes on.
use Rattle.std.proofs.Common.{◌≡◌, ◌≢◌, ◌⊎◌, inl, inr, ⊎_elim, ℕ, ◌+◌, ◌<◌, ◌≤◌, All, List, [], ◌∷◌, ◌++◌, length, get_or, take, drop, sym, ap, ◌∙◌, subst, arith}
use Rattle.std.proofs.lemmas.Bool.{cases_lt}
use Rattle.std.proofs.lemmas.Bool.Decides.{nat_tests}
use Rattle.std.proofs.lemmas.List.{take-append-le, take_all}
use Rattle.std.proofs.lemmas.List.Elements.{All-cons, All-nil, All-take, All-append}
use Rattle.uw_words.specs.Plans.{region}
use Rattle.uw_intent.specs.declared.frame.WordWrite.{WordWrite}
use Rattle.uw_intent.specs.declared.frame.Frame.{Frame}
use Rattle.uw_intent.specs.Stores.{words_after}
use Rattle.uw_intent.specs.RedoRecord.{IsFrame, IsTarget, IsWholeText, IsRecord, IsIntact, run_writes, record_text, closing, repairs, applied}
use Rattle.uw_intent.proofs.Progress.{length-made}
use Rattle.uw_intent.proofs.Repairs.{run_repairs, repairs_open, repairs_closed, length_more}
use Rattle.uw_intent.proofs.Words.{word_after, AllWithin, AllAway, get_or-made, word_after-append, word_after_away, made_again, part_made}

-- a fact of each element, by another
pub all_weaker : (P Q : WordWrite → Type 0) (writes : List WordWrite) → ((write : WordWrite) → P write → Q write) → All P writes → All Q writes
all_weaker P Q writes weaker all = λ k d h. weaker (get_or writes k d) (all k d h)

-- a recovery of a whole record
module _ (frame : Frame) (words : List ℕ) (is : IsFrame frame (length words)) (gate : region words frame.gate ≡ 1) (whole : IsRecord frame words) where
  some : region words frame.gate ≢ 0
  some none = omega (arith, gate, none)

  abbrev runs : List WordWrite
  runs = run_repairs frame words

  abbrev all : List WordWrite
  all = runs ++ closing frame ∷ []

  pub repairs_are : repairs frame words ≡ all
  repairs_are = repairs_open frame words some

  gate_within : frame.gate < length words
  gate_within = omega (arith, is.gate, is.start, is.within)

  pub runs_within : AllWithin (length words) runs
  runs_within = all_weaker (λ (w : WordWrite). IsTarget frame (length words) w.at) (λ (w : WordWrite). w.at < length words) runs (λ w target. target.within) whole.targets

  pub all_within : AllWithin (length words) all
  all_within = All-append (λ (w : WordWrite). w.at < length words) runs (closing frame ∷ []) runs_within (All-cons (λ (w : WordWrite). w.at < length words) (closing frame) [] gate_within (All-nil (λ (w : WordWrite). w.at < length words)))

  pub gate_away : AllAway frame.gate runs
  gate_away = all_weaker (λ (w : WordWrite). IsTarget frame (length words) w.at) (λ (w : WordWrite). w.at ≢ frame.gate) runs (λ w target. target.beyond.gate) whole.targets

  pub used_away : AllAway frame.used runs
  used_away = all_weaker (λ (w : WordWrite). IsTarget frame (length words) w.at) (λ (w : WordWrite). w.at ≢ frame.used) runs (λ w target. target.beyond.used) whole.targets

  -- while words of runs are written
  module _ (k : ℕ) where
    abbrev partly : List ℕ
    partly = words_after (take k runs) words

    stays : (at : ℕ) → AllAway at runs → region partly at ≡ region words at
    stays at away =
        get_or-made (take k runs) words at (All-take (λ (w : WordWrite). w.at < length words) k runs runs_within)
        ∙ word_after_away (take k runs) at (get_or words at 0) (All-take (λ (w : WordWrite). w.at ≢ at) k runs away)

    same_text : record_text frame partly ≡ record_text frame words
    same_text =
        ap (λ (n : ℕ). take n (drop frame.start partly)) (stays frame.used used_away)
        ∙ part_made (take k runs) words frame.start (region words frame.used)
        (All-take (λ (w : WordWrite). (w.at < frame.start) ⊎ (frame.start + region words frame.used ≤ w.at)) k runs
        (all_weaker (λ (w : WordWrite). IsTarget frame (length words) w.at) (λ (w : WordWrite). (w.at < frame.start) ⊎ (frame.start + region words frame.used ≤ w.at)) runs
        (λ w target. ⊎_elim (λ before. inl before) (λ behind. inr (omega (arith, behind, whole.within))) target.beyond.outside) whole.targets))

    same_runs : run_repairs frame partly ≡ runs
    same_runs = ap (run_writes 0 0) same_text

    pub partly_gate : region partly frame.gate ≡ 1
    partly_gate = stays frame.gate gate_away ∙ gate

    pub partly_whole : IsRecord frame partly
    partly_whole = record {
      within = omega (arith, stays frame.used used_away, whole.within);
      whole = subst (IsWholeText 0) (sym same_text) whole.whole;
      targets =
          subst (λ (n : ℕ). All (λ (w : WordWrite). IsTarget frame n w.at) (run_repairs frame partly)) (sym (length-made (take k runs) words))
          (subst (All (λ (w : WordWrite). IsTarget frame (length words) w.at)) (sym same_runs) whole.targets);
    }

    partly_open : region partly frame.gate ≢ 0
    partly_open none = omega (arith, partly_gate, none)

    pub partly_repairs : repairs frame partly ≡ all
    partly_repairs = repairs_open frame partly partly_open ∙ ap (λ (l : List WordWrite). l ++ closing frame ∷ []) same_runs

  -- after the gate is closed
  pub closed_gate : region (words_after all words) frame.gate ≡ 0
  closed_gate =
      get_or-made all words frame.gate all_within
      ∙ word_after-append runs (closing frame ∷ []) frame.gate (get_or words frame.gate 0)
      ∙ closes (word_after runs frame.gate (get_or words frame.gate 0))
    where
      closes : (own : ℕ) → word_after (closing frame ∷ []) frame.gate own ≡ 0
      closes own = grind (arith, nat_tests)

  -- the first writes, as they are before the gate's or all of them
  pub take_repairs : (k : ℕ) → (take k all ≡ take k runs) ⊎ (take k all ≡ all)
  take_repairs k = elim (cases_lt (length runs) k) [
    | inl past ↦ inr (take_all k all (omega (arith, length_more runs (closing frame))))
    | inr before ↦ inl (take-append-le k runs (closing frame ∷ []) before)
  ]

  pub recovery_intact : (k : ℕ) → IsIntact frame (words_after (take k all) words)
  recovery_intact k = ⊎_elim
      (λ before. inr (subst (λ (l : List WordWrite). (region (words_after l words) frame.gate ≡ 1) × IsRecord frame (words_after l words)) (sym before) (partly_gate k, partly_whole k)))
      (λ over. inl (ap (λ (l : List WordWrite). region (words_after l words) frame.gate) over ∙ closed_gate))
      (take_repairs k)

  pub recovery_applied : (k : ℕ) → applied frame (words_after (take k all) words) ≡ words_after all words
  recovery_applied k = ⊎_elim
      (λ before.
      let again : words_after all (words_after (take k all) words) ≡ words_after all words = made_again all k words all_within in
      ap (λ (l : List WordWrite). words_after (repairs frame (words_after l words)) (words_after l words)) before
      ∙ ap (λ (l : List WordWrite). words_after l (words_after (take k runs) words)) (partly_repairs k)
      ∙ ap (λ (l : List WordWrite). words_after all (words_after l words)) (sym before) ∙ again)
      (λ over.
      let none : repairs frame (words_after all words) ≡ [] = repairs_closed frame (words_after all words) closed_gate in
      ap (λ (l : List WordWrite). words_after (repairs frame (words_after l words)) (words_after l words)) over
      ∙ ap (λ (l : List WordWrite). words_after l (words_after all words)) none)
      (take_repairs k)

-- a recovery where the gate is closed has no write
none_made : (frame : Frame) (words : List ℕ) (k : ℕ) → region words frame.gate ≡ 0 → words_after (take k (repairs frame words)) words ≡ words
none_made frame words k closed =
    ap (λ (l : List WordWrite). words_after (take k l) words) (repairs_closed frame words closed) ∙ ap (λ (l : List WordWrite). words_after l words) (take_all k [] (omega arith))

pub all_intact : (frame : Frame) (words : List ℕ) (k : ℕ) → IsFrame frame (length words) → IsIntact frame words → IsIntact frame (words_after (take k (repairs frame words)) words)
all_intact frame words k is (inl closed) = subst (IsIntact frame) (sym (none_made frame words k closed)) (inl closed)
all_intact frame words k is (inr whole) =
    subst (λ (l : List WordWrite). IsIntact frame (words_after (take k l) words)) (sym (repairs_are frame words is whole.0 whole.1)) (recovery_intact frame words is whole.0 whole.1 k)

pub all_applied : (frame : Frame) (words : List ℕ) (k : ℕ) → IsFrame frame (length words) → IsIntact frame words → applied frame (words_after (take k (repairs frame words)) words) ≡ applied frame words
all_applied frame words k is (inl closed) = ap (applied frame) (none_made frame words k closed)
all_applied frame words k is (inr whole) =
    let are = repairs_are frame words is whole.0 whole.1 in
    ap (λ (l : List WordWrite). applied frame (words_after (take k l) words)) are ∙ recovery_applied frame words is whole.0 whole.1 k ∙ ap (λ (l : List WordWrite). words_after l words) (sym are)

pub all_closed : (frame : Frame) (words : List ℕ) → IsFrame frame (length words) → IsIntact frame words → region (words_after (repairs frame words) words) frame.gate ≡ 0
all_closed frame words is (inl closed) = ap (λ (l : List WordWrite). region (words_after l words) frame.gate) (repairs_closed frame words closed) ∙ closed
all_closed frame words is (inr whole) =
    ap (λ (l : List WordWrite). region (words_after l words) frame.gate) (repairs_are frame words is whole.0 whole.1) ∙ closed_gate frame words is whole.0 whole.1

-- after the first writes of a recovery whose gate is open
module _ (frame : Frame) (old now : List ℕ) (k : ℕ) (is : IsFrame frame (length old)) (intact : IsIntact frame old) (gate : region old frame.gate ≢ 0)
    (words : now ≡ words_after (take k (run_repairs frame old ++ closing frame ∷ [])) old) where
  by_repairs : now ≡ words_after (take k (repairs frame old)) old
  by_repairs = words ∙ ap (λ (l : List WordWrite). words_after (take k l) old) (sym (repairs_open frame old gate))

  pub left_intact : IsIntact frame now
  left_intact = subst (IsIntact frame) (sym by_repairs) (all_intact frame old k is intact)

  pub left_same : applied frame now ≡ applied frame old
  left_same = ap (applied frame) by_repairs ∙ all_applied frame old k is intact
