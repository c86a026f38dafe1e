-- The words that are planned for a call are right for it.
use Rattle.std.proofs.Common.{◌≡◌, ◌≢◌, ◌⊎◌, inl, inr, ℕ, ◌<◌, ◌≤◌, List, [], ◌∷◌, All, length, Option, None, unwrap_or, refl, sym, ap, ◌∙◌, subst, arith}
use Rattle.std.proofs.lemmas.Bool.{cases_eq}
use Rattle.std.proofs.lemmas.Bool.Decides.{nat_tests}
use Rattle.std.proofs.lemmas.List.Elements.{All-cons, All-nil}
use Rattle.std.proofs.lemmas.List.Kept.{AllPairs-cons}
use Rattle.uw_model.specs.declared.conf.CacheConf.{CacheConf}
use Rattle.uw_model.specs.declared.entries.Entry.{Entry}
use Rattle.uw_model.specs.declared.calls.Call.{Call}
use Rattle.uw_model.specs.Entries.{IsCacheConf}
use Rattle.uw_model.specs.Calls.{answer, next_state}
use Rattle.uw_words.specs.declared.shape.Shape.{Shape}
use Rattle.uw_words.specs.Shapes.{shape_words}
use Rattle.uw_words.specs.Plans.{HasDistinctPlaces, Plan, planned, region, through}
use Rattle.uw_words.specs.Numbers.{AreDistinct, IsOneOf}
use Rattle.uw_words.specs.Parts.{places_of, seen}
use Rattle.uw_words.proofs.Numbers.{one_apart}
use Rattle.uw_intent.specs.declared.frame.WordWrite.{WordWrite}
use Rattle.uw_intent.specs.Stores.{words_after}
use Rattle.uw_intent.specs.RedoRecord.{FitsRecord, IsTarget, commit_writes, copies}
use Rattle.uw_intent.specs.RightWrites.{IsRight}
use Rattle.uw_intent.proofs.Listed.{length-commit_writes}
use Rattle.uw_intent.proofs.Progress.{length-made}
use Rattle.uw_intent.proofs.RightCommits.{commit_right, region-copies}
use Rattle.uw_plan.specs.Regions.{frame_of, shape_of}
use Rattle.uw_plan.specs.Agreement.{Agrees}
use Rattle.uw_plan.specs.Bounds.{most_writes}
use Rattle.uw_plan.specs.CacheKind.{cache_kind}
use Rattle.uw_plan.specs.CallPlanSteps.{IsPlanned}
use Rattle.uw_plan.proofs.Shapes.{shape_of_conf}
use Rattle.uw_plan.proofs.Agreeing.{agreement_stays, regions_local}

-- what holds of each planned place holds of each planned write
each_write : (P : ℕ → Type 0) (writes : List (ℕ × ℕ)) → ((at : ℕ) → IsOneOf (places_of writes) at → P at) → All (λ (w : ℕ × ℕ). P w.0) writes
each_write P [] holds = All-nil (λ (w : ℕ × ℕ). P w.0)
each_write P (write ∷ writes) holds = All-cons (λ (w : ℕ × ℕ). P w.0) write writes (holds write.0 (inl refl)) (each_write P writes (λ at one. holds at (inr one)))

each_copy : (P : ℕ → Type 0) (writes : List (ℕ × ℕ)) → ((at : ℕ) → IsOneOf (places_of writes) at → P at) → All (λ (w : WordWrite). P w.at) (copies writes)
each_copy P [] holds = All-nil (λ (w : WordWrite). P w.at)
each_copy P (write ∷ writes) holds =
    All-cons (λ (w : WordWrite). P w.at) record { at = write.0; word = write.1 } (copies writes) (holds write.0 (inl refl)) (each_copy P writes (λ at one. holds at (inr one)))

-- places once each
pub distinct_writes : (writes : List (ℕ × ℕ)) → AreDistinct (places_of writes) → HasDistinctPlaces writes
distinct_writes [] once = λ i j d before below. absurd (omega (arith, before, below))
distinct_writes (write ∷ writes) once =
    AllPairs-cons (λ (early : ℕ × ℕ) (late : ℕ × ℕ). early.0 ≢ late.0) write writes
    (each_write (λ at. write.0 ≢ at) writes (λ at one same. one_apart (places_of writes) at write.0 one once.0 (sym same)))
    (distinct_writes writes once.1)

-- a place that is not named is not planned
unplanned : (writes : List (ℕ × ℕ)) (at : ℕ) → (IsOneOf (places_of writes) at → ⊥) → planned writes at ≡ None
unplanned [] at off = refl
unplanned (write ∷ writes) at off = elim (cases_eq write.0 at) [
  | inl same ↦ absurd (off (inl same))
  | inr apart ↦ let rest : planned writes at ≡ None = unplanned writes at (λ one. off (inr one)) in grind (arith, nat_tests)
]

empty_or_some : (writes : List (ℕ × ℕ)) → (writes ≡ []) ⊎ (0 < length writes)
empty_or_some [] = inl refl
empty_or_some (write ∷ writes) = inr (omega arith)

module _ (conf : CacheConf) (is : IsCacheConf conf) (words : List ℕ) (plan : Plan) (list : List Entry) (now : ℕ) (call : Call) (agrees : Agrees conf words list)
    (is_planned : IsPlanned conf words plan list now call) where
  abbrev shape : Shape
  shape = shape_of conf

  as_many : length words ≡ shape_words shape
  as_many = omega (arith, agrees.len)

  target : (at : ℕ) → IsOneOf (places_of plan.writes) at → IsTarget (frame_of shape) (length words) at
  target at one = subst (λ (n : ℕ). IsTarget (frame_of shape) n at) (sym as_many) (is_planned.targets at one)

  pub fits_record : FitsRecord (frame_of shape) (length words) plan.writes
  fits_record = record {
    room = omega (arith, is_planned.fits);
    targets = each_write (λ at. IsTarget (frame_of shape) (length words) at) plan.writes target;
  }

  pub distinct : HasDistinctPlaces plan.writes
  distinct = distinct_writes plan.writes is_planned.once

  abbrev later : List ℕ
  later = words_after (copies plan.writes) words

  read_later : (at : ℕ) → region later at ≡ through plan.writes (region words) at
  read_later at = region-copies words plan.writes at (each_copy (λ p. p < length words) plan.writes (λ p one. (target p one).within)) distinct

  gate_unplanned : IsOneOf (places_of plan.writes) 10 → ⊥
  gate_unplanned one = (is_planned.targets 10 one).beyond.gate refl

  later_agrees : Agrees conf later (next_state conf list now call)
  later_agrees = record {
    len = length-made (copies plan.writes) words ∙ agrees.len;
    closed = read_later 10 ∙ ap (λ (w : Option ℕ). unwrap_or w (region words 10)) (unplanned plan.writes 10 gate_unplanned) ∙ agrees.closed;
    items = is_planned.items;
    agrees = agreement_stays conf shape (shape_of_conf conf is) (seen plan words) (region later) (λ at within gate used. read_later at) is_planned.items (next_state conf list now call)
        is_planned.agrees;
  }

  few_writes : length (commit_writes (frame_of shape) plan.writes) ≤ most_writes conf list now call
  few_writes = elim (empty_or_some plan.writes) [
    | inl none ↦ subst (λ (w : List (ℕ × ℕ)). length (commit_writes (frame_of shape) w) ≤ most_writes conf list now call) (sym none) (omega arith)
    | inr some ↦ omega (arith, length-commit_writes (frame_of shape) plan.writes some, is_planned.few)
  ]

  pub is_right : IsRight (cache_kind conf) words list now call (answer conf list now call) (commit_writes (frame_of shape) plan.writes)
  is_right =
      commit_right (cache_kind conf) (regions_local conf is) words list now call plan.writes agrees fits_record distinct later_agrees few_writes
