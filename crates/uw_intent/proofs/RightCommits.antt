-- The writes of a commit are right ones.
use Rattle.std.proofs.Common.{◌≡◌, ◌≢◌, inl, inr, ℕ, ◌*◌, ◌<◌, ◌≤◌, All, cond, eqb, List, [], ◌∷◌, ◌++◌, length, map, get_or, set, refl, sym, ap, ◌∙◌, subst}
use Rattle.std.proofs.Common.{arith, append_assoc}
use Rattle.std.proofs.lemmas.Bool.Decides.{nat_tests}
use Rattle.std.proofs.lemmas.List.Elements.{All-cons, All-nil}
use Rattle.uw_words.specs.Plans.{region, through, HasDistinctPlaces}
use Rattle.uw_words.specs.Numbers.{IsOneOf}
use Rattle.uw_intent.specs.declared.frame.WordWrite.{WordWrite}
use Rattle.uw_intent.specs.declared.frame.Frame.{Frame}
use Rattle.uw_intent.specs.Stores.{words_after}
use Rattle.uw_intent.specs.RedoRecord.{IsFrame, IsTarget, IsRecord, FitsRecord, laid, runs_of, copies, commit_writes, closing, repairs, applied}
use Rattle.uw_intent.specs.Standing.{Kind, IsLocal}
use Rattle.uw_intent.specs.RightWrites.{opens, IsOfRecord, opened_by, copy_places, IsCopy, IsGated, IsRight}
use Rattle.uw_intent.proofs.Listed.{length-runs_of}
use Rattle.uw_intent.proofs.Progress.{length-made, made-append}
use Rattle.uw_intent.proofs.Repairs.{run_repairs}
use Rattle.uw_intent.proofs.Words.{word_after, AllWithin, AllAway, get_or-made, word_after-append, word_after_away}
use Rattle.uw_intent.proofs.Recoveries.{all_weaker, all_closed}
use Rattle.uw_intent.proofs.Rights.{AllAt, at_weaker}
use Rattle.uw_intent.proofs.Commits as commits

-- each of these writes goes to one of their places
own_places : (writes : List WordWrite) → AllAt (IsOneOf (map (λ w. w.at) writes)) writes
own_places [] = All-nil (λ (w : WordWrite). ⊥)
own_places (write ∷ writes) =
    let later : List ℕ = map (λ (w : WordWrite). w.at) writes in
    All-cons (λ (w : WordWrite). IsOneOf (write.at ∷ later) w.at) write writes (inl refl)
    (all_weaker (λ (w : WordWrite). IsOneOf later w.at) (λ (w : WordWrite). IsOneOf (write.at ∷ later) w.at) writes (λ w one. inr one) (own_places writes))

-- the copies of a plan leave the planned word at each of its places
each_copied : (plan : List (ℕ × ℕ)) → HasDistinctPlaces plan → All (λ write. (own : ℕ) → word_after (copies plan) write.at own ≡ write.word) (copies plan)
each_copied [] distinct = All-nil (λ (w : WordWrite). (own : ℕ) → own ≡ w.word)
each_copied (p ∷ plan) distinct =
    let Holds : WordWrite → Type 0 = λ w. (own : ℕ) → word_after (copies (p ∷ plan)) w.at own ≡ w.word in
    All-cons Holds record { at = p.0; word = p.1 } (copies plan)
    (λ own. word_after_away (copies plan) p.0 (cond (eqb p.0 p.0) p.1 own) (commits.copies_away p plan distinct) ∙ same own)
    (all_weaker (λ (w : WordWrite). (own : ℕ) → word_after (copies plan) w.at own ≡ w.word) Holds (copies plan)
    (λ w holds own. holds (cond (eqb p.0 w.at) p.1 own))
    (each_copied plan (commits.distinct_rest p plan distinct)))
  where
    same : (own : ℕ) → cond (eqb p.0 p.0) p.1 own ≡ p.1
    same own = grind (arith, nat_tests)

-- after the copies of a plan each place has what is read through it
pub region-copies : (words : List ℕ) (plan : List (ℕ × ℕ)) (at : ℕ) → All (λ write. write.at < length words) (copies plan) → HasDistinctPlaces plan
    → region (words_after (copies plan) words) at ≡ through plan (region words) at
region-copies words plan at within distinct = get_or-made (copies plan) words at within ∙ commits.copies_through plan at (get_or words at 0) distinct

module _ {S C A : Type 0} (k : Kind S C A) (is : IsLocal k) (words : List ℕ) (s after : S) (agrees : k.agrees words s) where
  abbrev frame : Frame
  frame = k.frame

  framed : IsFrame k.frame (length words)
  framed = is.frame words s agrees

  closed : region words k.frame.gate ≡ 0
  closed = is.gate words s agrees

  module _ (plan : List (ℕ × ℕ)) (some : 0 < length plan) (fit : FitsRecord k.frame (length words) plan) (distinct : HasDistinctPlaces plan)
      (planned : k.agrees (words_after (copies plan) words) after) where
    abbrev fill : List WordWrite
    fill = laid k.frame.start (runs_of plan) ++ record { at = k.frame.used; word = 3 * length plan } ∷ []

    abbrev opened : List ℕ
    opened = set (words_after fill words) k.frame.gate 1

    opened_is : opened_by k.frame fill words ≡ opened
    opened_is = made-append fill (opens k.frame ∷ []) words

    fill_only : All (λ write. IsOfRecord k.frame write.at) fill
    fill_only = commits.laid_all k.frame words plan framed closed fit (λ (w : WordWrite). IsOfRecord k.frame w.at)
        (λ w inside. inr (inside.0, omega (arith, inside.1, length-runs_of plan, fit.room))) (inl refl)

    opened_frame : IsFrame k.frame (length opened)
    opened_frame = commits.opened_frame k.frame words plan framed closed fit

    opened_gate : region opened k.frame.gate ≡ 1
    opened_gate = commits.opened_gate k.frame words plan framed closed fit

    opened_whole : IsRecord k.frame opened
    opened_whole = commits.opened_whole k.frame words plan framed closed fit

    opened_runs : run_repairs k.frame opened ≡ copies plan
    opened_runs = commits.opened_runs k.frame words plan framed closed fit

    opened_repairs : repairs k.frame opened ≡ copies plan ++ closing k.frame ∷ []
    opened_repairs = commits.opened_repairs k.frame words plan framed closed fit

    copies_within : AllWithin (length words) (copies plan)
    copies_within = at_weaker (IsTarget k.frame (length words)) (λ (at : ℕ). at < length words) (copies plan) (λ at target. target.within)
        (commits.copies_targets k.frame words plan framed closed fit)

    opened_stands : k.agrees (applied k.frame opened) after
    opened_stands =
        let copied = words_after (copies plan) words in
        is.same copied (applied k.frame opened) after
        (length-made (repairs k.frame opened) opened ∙ commits.length-opened k.frame words plan framed closed fit ∙ sym (length-made (copies plan) words))
        (all_closed k.frame opened opened_frame (inr (opened_gate, opened_whole)))
        (λ at beyond.
        ap (λ (l : List WordWrite). region (words_after l opened) at) opened_repairs
        ∙ commits.all_copied k.frame words plan framed closed fit distinct at beyond
        ∙ sym (region-copies words plan at copies_within distinct))
        planned

    copy_word : (write : WordWrite) → IsTarget k.frame (length words) write.at → ((own : ℕ) → word_after (copies plan) write.at own ≡ write.word)
        → write.word ≡ region (applied k.frame opened) write.at
    copy_word write target copied =
        let last = closing k.frame ∷ [] in
        let Away : WordWrite → Type 0 = λ w. w.at ≢ write.at in
        let away : AllAway write.at last = All-cons Away (closing k.frame) [] (λ same. target.beyond.gate (sym same)) (All-nil Away) in
        sym (
        ap (λ (l : List WordWrite). region (words_after l opened) write.at) opened_repairs
        ∙ get_or-made (copies plan ++ last) opened write.at (commits.copied_within k.frame words plan framed closed fit)
        ∙ word_after-append (copies plan) last write.at (get_or opened write.at 0)
        ∙ word_after_away last write.at (word_after (copies plan) write.at (get_or opened write.at 0)) away
        ∙ copied (get_or opened write.at 0)
        )

    opened_copies : All (IsCopy k.frame opened) (copies plan)
    opened_copies =
        let places : AllAt (IsOneOf (copy_places k.frame opened)) (copies plan) =
        subst (λ (l : List WordWrite). AllAt (IsOneOf (map (λ (run : WordWrite). run.at) l)) (copies plan)) (sym opened_runs) (own_places (copies plan)) in
        λ i d h. record {
          target = places i d h;
          word = copy_word (get_or (copies plan) i d) (commits.copies_targets k.frame words plan framed closed fit i d h) (each_copied plan distinct i d h);
        }

    gated : IsGated k words after (commit_writes k.frame plan)
    gated = record {
      fill = fill;
      copied = copies plan;
      is = commits.split k.frame words plan framed closed fit some ∙ sym (append_assoc fill (opens k.frame ∷ copies plan) (closing k.frame ∷ []));
      only = fill_only;
      whole = subst (IsRecord k.frame) (sym opened_is) opened_whole;
      stands = subst (λ (l : List ℕ). k.agrees (applied k.frame l) after) (sym opened_is) opened_stands;
      copies = subst (λ (l : List ℕ). All (IsCopy k.frame l) (copies plan)) (sym opened_is) opened_copies;
      last = λ at other.
          ap (λ (l : List ℕ). region l at) (commits.whole k.frame words plan framed closed fit some)
          ∙ ap (λ (l : List ℕ). region (applied k.frame l) at) (sym opened_is);
    }

-- the writes of a commit are right, where the words with the planned ones at their places agree with the next state
pub commit_right : {S C A : Type 0} → (k : Kind S C A) (is : IsLocal k) (words : List ℕ) (s : S) (moment : ℕ) (call : C) (plan : List (ℕ × ℕ))
    → k.agrees words s → FitsRecord k.frame (length words) plan → HasDistinctPlaces plan → k.agrees (words_after (copies plan) words) (k.next s moment call)
    → length (commit_writes k.frame plan) ≤ k.most s moment call → IsRight k words s moment call (k.answer s moment call) (commit_writes k.frame plan)
commit_right k is words s moment call [] agrees fit distinct planned few = record { told = refl; plan = inl (refl, planned); few = few }
commit_right k is words s moment call (p ∷ plan) agrees fit distinct planned few = record {
  told = refl;
  plan = inr (gated k is words s (k.next s moment call) agrees (p ∷ plan) (omega arith) fit distinct planned);
  few = few;
}
