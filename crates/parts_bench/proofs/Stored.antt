-- What a whole commit of a plan leaves in a region.
use Rattle.std.proofs.Common.{◌≡◌, inl, ℕ, zero, suc, ◌<◌, ◌≤◌, List, Result, Ok, Err, OnOk, is_ok, true, length, get_or, replicate, refl, sym, subst, arith}
use Rattle.uw_outside.specs.declared.life.Died.{Died}
use Rattle.uw_words.specs.declared.shape.Shape.{Shape}
use Rattle.uw_words.specs.Plans.{Plan, region, HasDistinctPlaces}
use Rattle.uw_words.specs.Shapes.{IsShape, shape_words}
use Rattle.uw_words.specs.Parts.{seen}
use Rattle.uw_intent.specs.RedoRecord.{FitsRecord, IsFrame, commit_writes}
use Rattle.uw_intent.specs.Stores.{words_after}
use Rattle.uw_intent.proofs.Commits.{closes, leaves_planned}
use Rattle.parts_bench.specs.Tables.{redo_frame}

pub whole : (answer : Result (Unit {0}) Died) (P : Type 0) → true ≡ is_ok answer → OnOk answer P → P
whole (Ok done) P ok all = all
whole (Err died) P ok all = absurd (let none : ⊥ = cc in none)

pub zeros_read : (count k : ℕ) → get_or {A = ℕ} (replicate count 0) k 0 ≡ 0
zeros_read zero k = refl
zeros_read (suc count) zero = refl
zeros_read (suc count) (suc k) = zeros_read count k

module _ (shape : Shape) (is : IsShape shape) (words : List ℕ) (plan : Plan) (len : length words ≡ shape_words shape) (gate : region words 10 ≡ 0)
    (fit : FitsRecord (redo_frame shape) (shape_words shape) plan.writes) where
  framed : IsFrame (redo_frame shape) (length words)
  framed = record { gate = refl; used = refl; start = omega (arith, is.intent, is.blocks, is.items, is.chains, is.bitmap); within = omega (arith, len) }

  fits : FitsRecord (redo_frame shape) (length words) plan.writes
  fits = subst (λ (n : ℕ). FitsRecord (redo_frame shape) n plan.writes) (sym len) fit

  pub stored_gate : region (words_after (commit_writes (redo_frame shape) plan.writes) words) 10 ≡ 0
  stored_gate = closes (redo_frame shape) words plan.writes framed gate fits

  pub stored_words : HasDistinctPlaces plan.writes → (at : ℕ) → 16 ≤ at → at < shape.intent
      → region (words_after (commit_writes (redo_frame shape) plan.writes) words) at ≡ seen plan words at
  stored_words distinct at above below =
      leaves_planned (redo_frame shape) words plan.writes framed gate fits distinct at record { outside = inl below; gate = λ e. omega (arith, e, above); used = λ e. omega (arith, e, above) }
