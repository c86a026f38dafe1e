-- Runs as a cursor walks them.
use Rattle.std.proofs.Common.{◌≡◌, inl, inr, ℕ, zero, suc, ◌+◌, ◌-◌, ◌<◌, ◌≤◌, All, List, [], ◌∷◌, length, get_or, take, drop, sym, ap, ◌∙◌, subst, arith}
use Rattle.std.proofs.lemmas.Bool.{cases_lt}
use Rattle.std.proofs.lemmas.List.{drop_more}
use Rattle.uw_intent.specs.declared.frame.WordWrite.{WordWrite}
use Rattle.uw_intent.specs.declared.cursor.Cursor.{Cursor}
use Rattle.uw_intent.specs.RedoRecord.{run_writes, IsWholeText}
use Rattle.uw_intent.specs.CursorSteps.{text_between, writes_ahead, IsOnRuns}

module _ (words : List ℕ) (end : ℕ) where
  abbrev text : ℕ → List ℕ
  text next = text_between words next end

  pub text_none : (next : ℕ) → end ≤ next → text next ≡ []
  text_none next h = ap (λ (n : ℕ). take n (drop next words)) (let e : end - next ≡ 0 = omega arith in e)

  pub text_more : (next : ℕ) → next < end → end ≤ length words → text next ≡ get_or words next 0 ∷ text (next + 1)
  text_more next h within =
      let more : drop next words ≡ get_or words next 0 ∷ drop (next + 1) words = drop_more words next 0 (omega arith) in
      ap (λ (n : ℕ). take n (drop next words)) (let e : end - next ≡ suc (end - (next + 1)) = omega arith in e)
      ∙ ap (take (suc (end - (next + 1)))) more

  whole_run : (place count : ℕ) (rest : List ℕ) → IsWholeText 0 (place ∷ count ∷ rest) → (0 < count) × IsWholeText count rest
  whole_run place zero rest whole = absurd whole
  whole_run place (suc count) rest whole = (omega arith, whole)

  -- a run begins
  pub run_begins : (next target : ℕ) → next < end → end ≤ length words → IsWholeText 0 (text next)
      → (next + 1 < end) × (0 < get_or words (next + 1) 0) × IsWholeText (get_or words (next + 1) 0) (text (next + 2))
      × (run_writes target 0 (text next) ≡ run_writes (get_or words next 0) (get_or words (next + 1) 0) (text (next + 2)))
  run_begins next target h within whole = elim (cases_lt (next + 1) end) [
    | inl more ↦
        let two : text next ≡ get_or words next 0 ∷ get_or words (next + 1) 0 ∷ text (next + 2) =
        text_more next h within
        ∙ ap (λ (l : List ℕ). get_or words next 0 ∷ l) (text_more (next + 1) more within ∙ ap (λ (n : ℕ). get_or words (next + 1) 0 ∷ text n) (let e : next + 1 + 1 ≡ next + 2 = omega arith in e)) in
        let run = whole_run (get_or words next 0) (get_or words (next + 1) 0) (text (next + 2)) (subst (IsWholeText 0) two whole) in
        (more, run.0, run.1, ap (run_writes target 0) two)
    | inr past ↦
        let one : text next ≡ get_or words next 0 ∷ [] = text_more next h within ∙ ap (λ (l : List ℕ). get_or words next 0 ∷ l) (text_none (next + 1) past) in
        absurd (subst (IsWholeText 0) one whole)
  ]

  -- a word of a run
  pub run_goes_on : (next target left : ℕ) → 0 < left → end ≤ length words → IsWholeText left (text next)
      → (next < end) × IsWholeText (left - 1) (text (next + 1))
      × (run_writes target left (text next) ≡ record { at = target; word = get_or words next 0 } ∷ run_writes (target + 1) (left - 1) (text (next + 1)))
  run_goes_on next target zero some within whole = absurd (omega arith)
  run_goes_on next target (suc left) some within whole =
      let same : suc left - 1 ≡ left = omega arith in
      elim (cases_lt next end) [
        | inl more ↦
            let one = text_more next more within in (
              more,
              subst (λ (n : ℕ). IsWholeText n (text (next + 1))) (sym same) (subst (IsWholeText (suc left)) one whole),
              ap (run_writes target (suc left)) one ∙ ap (λ (n : ℕ). record { at = target; word = get_or words next 0 } ∷ run_writes (target + 1) n (text (next + 1))) (sym same),
            )
        | inr past ↦ absurd (subst (IsWholeText (suc left)) (text_none next past) whole)
      ]

-- after the place and the length of a run were read
pub run_read : (words : List ℕ) (cursor : Cursor) (place count : ℕ) → IsOnRuns words cursor → cursor.left ≡ 0 → cursor.next < cursor.end
    → place ≡ get_or words cursor.next 0 → count ≡ get_or words (cursor.next + 1) 0
    → (let after : Cursor = record { next = cursor.next + 2; end = cursor.end; target = place; left = count } in
    IsOnRuns words after × (0 < count) × (writes_ahead after words ≡ writes_ahead cursor words))
run_read words cursor place count runs none more is_place is_count =
    let whole : IsWholeText 0 (text_between words cursor.next cursor.end) = subst (λ (n : ℕ). IsWholeText n (text_between words cursor.next cursor.end)) none runs.whole in
    let run = run_begins words cursor.end cursor.next cursor.target more runs.end whole in
    let rest = text_between words (cursor.next + 2) cursor.end in
    let ahead : run_writes place count rest ≡ writes_ahead cursor words =
    ap (λ (p : ℕ). run_writes p count rest) is_place ∙ ap (λ (n : ℕ). run_writes (get_or words cursor.next 0) n rest) is_count
    ∙ sym run.3 ∙ ap (λ (n : ℕ). run_writes cursor.target n (text_between words cursor.next cursor.end)) (sym none) in (
      record {
        before = omega (arith, run.0);
        end = runs.end;
        small = runs.small;
        whole = subst (λ (n : ℕ). IsWholeText n rest) (sym is_count) run.2;
        targets = subst (λ (l : List WordWrite). All (λ (write : WordWrite). write.at < length words) l) (sym ahead) runs.targets;
      },
      omega (arith, run.1, is_count),
      ahead,
    )

-- after a word of a run was read
pub word_read : (words : List ℕ) (cursor : Cursor) (word : ℕ) → IsOnRuns words cursor → 0 < cursor.left → word ≡ get_or words cursor.next 0
    → (let after : Cursor = record { next = cursor.next + 1; end = cursor.end; target = cursor.target + 1; left = cursor.left - 1 } in
    IsOnRuns words after × (writes_ahead cursor words ≡ record { at = cursor.target; word = word } ∷ writes_ahead after words) × (cursor.target < length words))
word_read words cursor word runs some is_word =
    let run = run_goes_on words cursor.end cursor.next cursor.target cursor.left some runs.end runs.whole in
    let rest = text_between words (cursor.next + 1) cursor.end in
    let after = run_writes (cursor.target + 1) (cursor.left - 1) rest in
    let ahead : writes_ahead cursor words ≡ record { at = cursor.target; word = word } ∷ after =
    run.2 ∙ ap (λ (w : ℕ). record { at = cursor.target; word = w } ∷ after) (sym is_word) in
    let targets : All (λ (write : WordWrite). write.at < length words) (record { at = cursor.target; word = word } ∷ after) =
    subst (λ (l : List WordWrite). All (λ (write : WordWrite). write.at < length words) l) ahead runs.targets in (
      record {
        before = omega (arith, run.0);
        end = runs.end;
        small = runs.small;
        whole = run.1;
        targets = λ k d short. targets (suc k) d (omega arith);
      },
      ahead,
      targets 0 record { at = cursor.target; word = word } (omega arith),
    )

-- the runs end where a cursor met their end between two of them
pub runs_end : (words : List ℕ) (cursor : Cursor) → cursor.left ≡ 0 → cursor.next ≡ cursor.end → writes_ahead cursor words ≡ []
runs_end words cursor none last =
    ap (λ (n : ℕ). run_writes cursor.target n (text_between words cursor.next cursor.end)) none
    ∙ ap (run_writes cursor.target 0) (text_none words cursor.end cursor.next (omega arith))
