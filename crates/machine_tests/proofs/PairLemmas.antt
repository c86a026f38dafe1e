-- What a pair is, and what a bump and a repair leave of it.
use Rattle.std.proofs.Common.{◌≡◌, inr, ℕ, zero, suc, ◌≤◌, Bool, true, false, not, cond, eqb, List, [], ◌∷◌, Option, length, set, take, refl, sym, ap, ◌∙◌}
use Rattle.std.proofs.Common.{subst, arith}
use Rattle.std.proofs.lemmas.List.{length-set, get_or-set_same, get_or-set_other}
use Rattle.std.proofs.lemmas.List.Elements.{All-cons, All-nil}
use Rattle.uw_words.specs.Plans.{region, HasDistinctPlaces}
use Rattle.uw_intent.specs.declared.frame.WordWrite.{WordWrite}
use Rattle.uw_intent.specs.Stores.{words_after, AllMade, SomeMade}
use Rattle.uw_intent.specs.RedoRecord.{IsFrame, IsBeyond, IsTarget, FitsRecord, copies, commit_writes, repairs}
use Rattle.uw_intent.specs.Standing.{IsLocal, StandsFor}
use Rattle.uw_intent.specs.RightWrites.{has_opened, IsRight}
use Rattle.uw_intent.specs.CallTurns.{CallMade, given, died}
use Rattle.uw_intent.proofs.Progress.{length-made}
use Rattle.uw_intent.proofs.Rights.{agreeing_stand, right_stand, right_agree, right_gate}
use Rattle.uw_intent.proofs.RightCommits.{commit_right}
use Rattle.machine_tests.specs.declared.pair.TheConstants.{FRAME}
use Rattle.machine_tests.specs.Pairs.{ArePair, bumped, pair_kind}

-- the places of a pair are none of the record's
beyond : (at : ℕ) → 18 ≤ at → IsBeyond FRAME at
beyond at behind = record { outside = inr behind; gate = λ same. omega arith; used = λ same. omega arith }

pub pairs_local : IsLocal pair_kind
pairs_local = record {
  frame = λ words number pair. record { gate = refl; used = refl; start = omega arith; within = omega (arith, pair.many) };
  gate = λ words number pair. pair.closed;
  same = λ words now number len gate same pair. record {
    many = len ∙ pair.many;
    closed = gate;
    left = same 18 (beyond 18 (omega arith)) ∙ pair.left;
    right = same 19 (beyond 19 (omega arith)) ∙ pair.right;
  };
}

-- one number for both places
abbrev pub both : ℕ → List (ℕ × ℕ)
both number = (18, number) ∷ (19, number) ∷ []

both_distinct : (number : ℕ) → HasDistinctPlaces (both number)
both_distinct number zero zero d early within = absurd (omega arith)
both_distinct number zero (suc zero) d early within = λ same. omega arith
both_distinct number zero (suc (suc j)) d early within = absurd (omega arith)
both_distinct number (suc i) zero d early within = absurd (omega arith)
both_distinct number (suc i) (suc j) d early within = absurd (omega arith)

pub both_fit : (words : List ℕ) (number : ℕ) → length words ≡ 20 → FitsRecord FRAME (length words) (both number)
both_fit words number many =
    let Fits : ℕ × ℕ → Type 0 = λ planned. IsTarget FRAME (length words) planned.0 in
    record {
      room = omega arith;
      targets =
          All-cons Fits (18, number) ((19, number) ∷ []) record { within = omega arith; beyond = beyond 18 (omega arith) }
          (All-cons Fits (19, number) [] record { within = omega arith; beyond = beyond 19 (omega arith) } (All-nil Fits));
    }

-- with the number at both places the words are a pair again
both_put : (words : List ℕ) (old number : ℕ) → ArePair words old → ArePair (words_after (copies (both number)) words) number
both_put words old number pair =
    let first = set words 18 number in
    let len : length first ≡ length words = length-set words 18 number in
    record {
      many = length-set first 19 number ∙ len ∙ pair.many;
      closed = get_or-set_other first 19 10 number 0 (λ same. omega arith) ∙ get_or-set_other words 18 10 number 0 (λ same. omega arith) ∙ pair.closed;
      left = get_or-set_other first 19 18 number 0 (λ same. omega arith) ∙ get_or-set_same words 18 number 0 (omega (arith, pair.many));
      right = get_or-set_same first 19 number 0 (omega (arith, len, pair.many));
    }

-- the writes of a bump are right
bump_right : (words : List ℕ) (old : ℕ) → ArePair words old → IsRight pair_kind words old 0 tt (bumped old) (commit_writes FRAME (both (bumped old)))
bump_right words old pair =
    let number = bumped old in
    commit_right pair_kind pairs_local words old 0 tt (both number) pair (both_fit words number pair.many) (both_distinct number)
    (both_put words old number pair) (omega arith)

-- a bump of a pair, whose plan is made
module _ (words now : List ℕ) (told left : Option (List ℕ)) (writes : List (ℕ × ℕ)) (answer old : ℕ) (is : answer ≡ bumped (region words 18))
    (planned : writes ≡ both answer) (pair : ArePair words old) where
  abbrev todo : List WordWrite
  todo = commit_writes FRAME writes

  same_answer : answer ≡ bumped old
  same_answer = is ∙ ap bumped pair.left

  right_writes : IsRight pair_kind words old 0 tt (bumped old) todo
  right_writes =
      let same : writes ≡ both (bumped old) = planned ∙ ap both same_answer in
      subst (λ (l : List (ℕ × ℕ)). IsRight pair_kind words old 0 tt (bumped old) (commit_writes FRAME l)) (sym same) (bump_right words old pair)

  -- all writes were made
  pub bump_made : AllMade todo words now told left → CallMade pair_kind old words now told left 0 tt todo (given answer)
  bump_made all = (subst (λ (n : ℕ). IsRight pair_kind words old 0 tt n todo) (sym same_answer) right_writes, all)

  pub bump_stands : AllMade todo words now told left → StandsFor pair_kind now (bumped old)
  bump_stands all =
      let agrees = right_agree pair_kind pairs_local words old 0 tt (bumped old) todo pair right_writes in
      subst (λ (l : List ℕ). StandsFor pair_kind l (bumped old)) (sym all.words)
      (agreeing_stand pair_kind pairs_local (words_after todo words) (bumped old) agrees)

  -- some writes were made
  module _ (some : SomeMade todo words now told left) (whole : Bool) (gate : whole ≡ not (eqb (region now 10) 0)) where
    whole_is : whole ≡ has_opened FRAME (take some.count todo)
    whole_is =
        gate ∙ ap (λ (l : List ℕ). not (eqb (region l 10) 0)) some.words
        ∙ ap (λ (n : ℕ). not (eqb n 0)) (right_gate pair_kind pairs_local words old 0 tt (bumped old) todo pair right_writes some.count some.fewer)
        ∙ tells (has_opened FRAME (take some.count todo))
      where
        tells : (b : Bool) → not (eqb (cond b 1 0) 0) ≡ b
        tells true = refl
        tells false = refl

    pub bump_broken : CallMade pair_kind old words now told left 0 tt todo (died whole)
    bump_broken = (bumped old, right_writes, some, whole_is)

    pub broken_stands : StandsFor pair_kind now (cond whole (bumped old) old)
    broken_stands =
        subst (λ (b : Bool). StandsFor pair_kind now (cond b (bumped old) old)) (sym whole_is)
        (subst (λ (l : List ℕ). StandsFor pair_kind l (cond (has_opened FRAME (take some.count todo)) (bumped old) old)) (sym some.words)
        (right_stand pair_kind pairs_local words old 0 tt (bumped old) todo pair right_writes some.count))

-- writes leave room for the record
pub made_frame : (words now : List ℕ) (writes : List WordWrite) (told left : Option (List ℕ)) (number : ℕ) → ArePair words number
    → SomeMade writes words now told left
    → IsFrame FRAME (length now)
made_frame words now writes told left number pair some =
    let len : length now ≡ length words = ap (length {A = ℕ}) some.words ∙ length-made (take some.count writes) words in
    record { gate = refl; used = refl; start = omega arith; within = omega (arith, len, pair.many) }

-- words that stand for a number have room for the record
pub standing_frame : (words : List ℕ) (number : ℕ) → StandsFor pair_kind words number → IsFrame FRAME (length words)
standing_frame words number stands =
    record { gate = refl; used = refl; start = omega arith; within = omega (arith, stands.agrees.many, length-made (repairs FRAME words) words) }
