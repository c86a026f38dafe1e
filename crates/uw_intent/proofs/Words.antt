-- The word at a place after some writes.
use Rattle.std.proofs.Common.{◌≡◌, ◌≢◌, ◌⊎◌, inl, inr, ℕ, suc, ◌+◌, ◌-◌, ◌<◌, ◌≤◌, All, cond, eqb, List, [], ◌∷◌, ◌++◌, length, get_or, set, take, drop, refl, sym, ap, ◌∙◌, subst, arith}
use Rattle.std.proofs.lemmas.Bool.{cases_eq}
use Rattle.std.proofs.lemmas.Bool.Decides.{nat_tests}
use Rattle.std.proofs.lemmas.List.{length-set, get_or-set_same, get_or-set_other, drop-set-lt, drop-set-add, take-set-le, ext_get_or}
use Rattle.std.proofs.lemmas.List.Elements.{All-cons, All-nil, All-take}
use Rattle.uw_intent.specs.declared.frame.WordWrite.{WordWrite}
use Rattle.uw_intent.specs.Stores.{words_after}
use Rattle.uw_intent.proofs.Progress.{length-made}

-- the last word written to a place, else its own
abbrev pub word_after : List WordWrite → ℕ → ℕ → ℕ
word_after [] at own = own
word_after (write ∷ writes) at own = word_after writes at (cond (eqb write.at at) write.word own)

-- writes into the first `len` words
abbrev pub AllWithin : ℕ → List WordWrite → Type 0
AllWithin len writes = All (λ write. write.at < len) writes

-- no write goes to the place
abbrev pub AllAway : ℕ → List WordWrite → Type 0
AllAway at writes = All (λ write. write.at ≢ at) writes

pub all_rest : (P : WordWrite → Type 0) (write : WordWrite) (writes : List WordWrite) → All P (write ∷ writes) → All P writes
all_rest P write writes all = λ k d h. all (suc k) d (omega arith)

pub get_or-made : (writes : List WordWrite) (words : List ℕ) (at : ℕ) → AllWithin (length words) writes → get_or (words_after writes words) at 0 ≡ word_after writes at (get_or words at 0)
get_or-made [] words at all = refl
get_or-made (write ∷ writes) words at all =
    let len = length-set words write.at write.word in
    let rest : AllWithin (length (set words write.at write.word)) writes =
    subst (λ (n : ℕ). AllWithin n writes) (sym len) (all_rest (λ (w : WordWrite). w.at < length words) write writes all) in
    get_or-made writes (set words write.at write.word) at rest ∙ ap (word_after writes at) here
  where
    here : get_or (set words write.at write.word) at 0 ≡ cond (eqb write.at at) write.word (get_or words at 0)
    here = elim (cases_eq write.at at) [
      | inl same ↦
          let put : get_or (set words write.at write.word) at 0 ≡ write.word =
          ap (λ (n : ℕ). get_or (set words write.at write.word) n 0) (sym same) ∙ get_or-set_same words write.at write.word 0 (all 0 write (omega arith)) in
          grind (arith, nat_tests)
      | inr other ↦
          let kept : get_or (set words write.at write.word) at 0 ≡ get_or words at 0 = get_or-set_other words write.at at write.word 0 (λ e. other (sym e)) in
          grind (arith, nat_tests)
    ]

pub word_after-append : (early late : List WordWrite) (at own : ℕ) → word_after (early ++ late) at own ≡ word_after late at (word_after early at own)
word_after-append [] late at own = refl
word_after-append (write ∷ early) late at own = word_after-append early late at (cond (eqb write.at at) write.word own)

pub word_after_away : (writes : List WordWrite) (at own : ℕ) → AllAway at writes → word_after writes at own ≡ own
word_after_away [] at own away = refl
word_after_away (write ∷ writes) at own away =
    let other : write.at ≢ at = away 0 write (omega arith) in
    let own_stays : cond (eqb write.at at) write.word own ≡ own = grind (arith, nat_tests) in
    ap (word_after writes at) own_stays ∙ word_after_away writes at own (all_rest (λ (w : WordWrite). w.at ≢ at) write writes away)

-- where a write goes to the place, its own word does not matter
pub written_or_away : (writes : List WordWrite) (at : ℕ) → ((one two : ℕ) → word_after writes at one ≡ word_after writes at two) ⊎ AllAway at writes
written_or_away [] at = inr (All-nil (λ (w : WordWrite). w.at ≢ at))
written_or_away (write ∷ writes) at = elim (cases_eq write.at at) [
  | inl same ↦ inl (λ one two. ap (word_after writes at) (let e : cond (eqb write.at at) write.word one ≡ cond (eqb write.at at) write.word two = grind (arith, nat_tests) in e))
  | inr other ↦ elim (written_or_away writes at) [
    | inl written ↦ inl (λ one two. written (cond (eqb write.at at) write.word one) (cond (eqb write.at at) write.word two))
    | inr away ↦ inr (All-cons (λ (w : WordWrite). w.at ≢ at) write writes other away)
  ]
]

-- writes made after the first of them were made come to the same
pub word_after_again : (writes : List WordWrite) (k at own : ℕ) → word_after writes at (word_after (take k writes) at own) ≡ word_after writes at own
word_after_again writes k at own = elim (written_or_away writes at) [
  | inl written ↦ written (word_after (take k writes) at own) own
  | inr away ↦ ap (word_after writes at) (word_after_away (take k writes) at own (All-take (λ (w : WordWrite). w.at ≢ at) k writes away))
]

pub made_again : (writes : List WordWrite) (k : ℕ) (words : List ℕ) → AllWithin (length words) writes → words_after writes (words_after (take k writes) words) ≡ words_after writes words
made_again writes k words all =
    let some : AllWithin (length words) (take k writes) = All-take (λ (w : WordWrite). w.at < length words) k writes all in
    let len : length (words_after (take k writes) words) ≡ length words = length-made (take k writes) words in
    let then : AllWithin (length (words_after (take k writes) words)) writes = subst (λ (n : ℕ). AllWithin n writes) (sym len) all in
    ext_get_or 0 (words_after writes (words_after (take k writes) words)) (words_after writes words) (length-made writes (words_after (take k writes) words) ∙ len ∙ sym (length-made writes words))
    (λ at h.
    get_or-made writes (words_after (take k writes) words) at then ∙ ap (word_after writes at) (get_or-made (take k writes) words at some)
    ∙ word_after_again writes k at (get_or words at 0) ∙ sym (get_or-made writes words at all))

-- a part of the words stays where no write goes into it
part_set : (words : List ℕ) (start n at word : ℕ) → (at < start) ⊎ (start + n ≤ at) → take n (drop start (set words at word)) ≡ take n (drop start words)
part_set words start n at word (inl before) = ap (take n) (drop-set-lt start words at word before)
part_set words start n at word (inr behind) =
    let place : at ≡ start + (at - start) = omega arith in
    ap (λ (p : ℕ). take n (drop start (set words p word))) place
    ∙ ap (take n) (drop-set-add start words (at - start) word)
    ∙ take-set-le n (drop start words) (at - start) word (omega arith)

pub part_made : (writes : List WordWrite) (words : List ℕ) (start n : ℕ) → All (λ write. (write.at < start) ⊎ (start + n ≤ write.at)) writes
    → take n (drop start (words_after writes words)) ≡ take n (drop start words)
part_made [] words start n all = refl
part_made (write ∷ writes) words start n all =
    part_made writes (set words write.at write.word) start n (all_rest (λ (w : WordWrite). (w.at < start) ⊎ (start + n ≤ w.at)) write writes all)
    ∙ part_set words start n write.at write.word (all 0 write (omega arith))
