-- What holds of a region between the calls on it.
use Rattle.std.specs.Prelude.{◌≡◌, ℕ, ◌<◌, ◌≤◌, List, [], length}
use Rattle.uw_words.specs.declared.shape.Shape.{Shape}
use Rattle.uw_words.specs.Plans.{Plan, region}
use Rattle.uw_words.specs.Shapes.{IsShape, shape_words}
use Rattle.uw_words.specs.Numbers.{IsOneOf}
use Rattle.uw_words.specs.Parts.{seen}
use Rattle.uw_intent.specs.declared.frame.Frame.{Frame}
use Rattle.uw_chains.specs.Chains.{IsChains}

-- where a region keeps its redo record
abbrev pub redo_frame : Shape → Frame
redo_frame shape = record { gate = 10; used = 11; start = shape.intent; room = shape.room }

-- a region of this layout with a closed gate, whose keys have eight bytes, whose blocks have a word, and for which nothing is planned
pub record IsIdle (words : List ℕ) (plan : Plan) (shape : Shape) : Type 0 where
  pub layout : IsShape shape
  pub key : shape.key_words ≡ 1
  pub block : shape.block_words ≡ 1
  pub len : length words ≡ shape_words shape
  pub gate : region words 10 ≡ 0
  pub empty : plan.writes ≡ []

-- the words hold chains, on which are none but the first so many items
abbrev pub ChainsFirst : (ℕ → ℕ) → Shape → ℕ → Type 0
ChainsFirst reader shape count =
    (chains : ℕ → List ℕ) × (IsChains reader shape chains × ((chain item : ℕ) → chain < shape.n_chains → IsOneOf (chains chain) item → item < count))

-- a region with chains, on which are none but the first so many of its items
pub record IsFilled (words : List ℕ) (plan : Plan) (shape : Shape) (filled : ℕ) : Type 0 where
  pub idle : IsIdle words plan shape
  pub within : filled ≤ shape.n_items
  pub chains : ChainsFirst (seen plan words) shape filled
