-- A plan fits the record after one more word.
use Rattle.std.proofs.Common.{◌≡◌, ℕ, ◌+◌, ◌*◌, ◌≤◌, All, List, [], ◌∷◌, length, sym, subst, inl, inr, arith}
use Rattle.std.proofs.lemmas.Bool.{cases_eq}
use Rattle.std.proofs.lemmas.Bool.Decides.{nat_tests}
use Rattle.std.proofs.lemmas.List.Elements.{All-cons, All-nil, All-head, All-tail}
use Rattle.uw_words.specs.Plans.{with_put}
use Rattle.uw_intent.specs.declared.frame.Frame.{Frame}
use Rattle.uw_intent.specs.RedoRecord.{IsTarget, FitsRecord}

abbrev Place : Frame → ℕ → ℕ × ℕ → Type 0
Place frame len planned = IsTarget frame len planned.0

targets : (frame : Frame) (len : ℕ) (plan : List (ℕ × ℕ)) (at word : ℕ) → All (Place frame len) plan → IsTarget frame len at → All (Place frame len) (with_put plan at word)
targets frame len [] at word all here = All-cons (Place frame len) (at, word) [] here (All-nil (Place frame len))
targets frame len (write ∷ plan) at word all here =
    let tail : All (Place frame len) plan = All-tail (Place frame len) write plan all in
    elim (cases_eq write.0 at) [
      | inl same ↦ let is : with_put (write ∷ plan) at word ≡ (at, word) ∷ plan = grind (arith, nat_tests) in
          subst (All (Place frame len)) (sym is) (All-cons (Place frame len) (at, word) plan here tail)
      | inr other ↦ let is : with_put (write ∷ plan) at word ≡ write ∷ with_put plan at word = grind (arith, nat_tests) in
          subst (All (Place frame len)) (sym is) (All-cons (Place frame len) write (with_put plan at word) (All-head (Place frame len) write plan all) (targets frame len plan at word tail here))
    ]

more : (plan : List (ℕ × ℕ)) (at word : ℕ) → length (with_put plan at word) ≤ length plan + 1
more [] at word = omega arith
more (write ∷ plan) at word = let rest : length (with_put plan at word) ≤ length plan + 1 = more plan at word in grind (arith, nat_tests)

pub still_fits : (frame : Frame) (len : ℕ) (plan : List (ℕ × ℕ)) (at word : ℕ) → FitsRecord frame len plan → 3 * (length plan + 1) ≤ frame.room → IsTarget frame len at → FitsRecord frame len (with_put plan at word)
still_fits frame len plan at word fits room here = record {
  room = omega (arith, room, more plan at word);
  targets = targets frame len plan at word fits.targets here;
}
