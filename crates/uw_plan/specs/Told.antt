-- The answer that the plan of a call tells (own rule).
use Rattle.std.specs.Prelude.{◌≡◌, ℕ, ◌<◌, Bool, true, false, List, [], map}
use Rattle.uw_model.specs.declared.conf.CacheConf.{CacheConf}
use Rattle.uw_model.specs.declared.entries.Entry.{Entry}
use Rattle.uw_model.specs.declared.calls.Call.{Call}
use Rattle.uw_model.specs.declared.calls.Call.TheVariants as calls
use Rattle.uw_model.specs.declared.calls.Answer.{Answer}
use Rattle.uw_model.specs.declared.calls.Answer.TheVariants as answers
use Rattle.uw_model.specs.Calls.{answer}
use Rattle.uw_model.specs.Placement.{alive_of}
use Rattle.uw_words.specs.declared.shape.Shape.{Shape}
use Rattle.uw_words.specs.Parts.{seen}
use Rattle.uw_words.specs.Plans.{Plan, region}
use Rattle.uw_words.specs.Walks.{item_word}
use Rattle.uw_items.specs.Items.{LieInBlocks, held_value}
use Rattle.uw_plan.specs.Agreement.{Agrees}
use Rattle.uw_plan.specs.Regions.{shape_of}
use Rattle.uw_plan.specs.declared.plan.PlanAnswer.{PlanAnswer}
use Rattle.uw_plan.specs.declared.plan.PlanAnswer.TheVariants as told

-- a value stands in the blocks that an item names, as a reader gives them
pub record HoldsValueOf (reader : ℕ → ℕ) (shape : Shape) (item : ℕ) (value : List ℕ) : Type 0 where
  pub lies : LieInBlocks shape (item_word reader shape item 4) (item_word reader shape item 5)
  pub is : held_value reader shape item ≡ value

-- the answer is the value of an item, as the region has it and as it is seen through what is planned
abbrev pub TellsValue : CacheConf → List ℕ → Plan → (item : ℕ) → Answer → Type 0
TellsValue conf words plan item answer =
    (value : List ℕ) × ((answer ≡ answers.Value value) × (item < conf.items)
    × HoldsValueOf (region words) (shape_of conf) item value × HoldsValueOf (seen plan words) (shape_of conf) item value)

-- the answer that a plan tells: itself; or the value of an item; or the keys of the alive entries, in order, where no word is
-- planned
abbrev pub Tells : CacheConf → List ℕ → Plan → ℕ → PlanAnswer → Answer → Type 0
Tells conf words plan now (told.Ready a) answer = a ≡ answer
Tells conf words plan now (told.ValueOf item) answer = TellsValue conf words plan item answer
Tells conf words plan now told.KeyList answer =
    (plan.writes ≡ []) × ((list : List Entry) → Agrees conf words list → answer ≡ answers.Keys (map (λ e. e.key) (alive_of conf now list)))

-- the answer told is that of each list with which the region agrees
abbrev pub TellsOf : CacheConf → List ℕ → Plan → ℕ → Call → PlanAnswer → Type 0
TellsOf conf words plan now call told = (list : List Entry) → Agrees conf words list → Tells conf words plan now told (answer conf list now call)

-- an answer is told by a copy of bytes that the region has
abbrev pub is_copied : PlanAnswer → Bool
is_copied (told.Ready a) = false
is_copied (told.ValueOf item) = true
is_copied told.KeyList = true

-- the call may answer with bytes that the region has: it asks for a value or for the keys
abbrev pub may_copy : Call → Bool
may_copy (calls.Get key) = true
may_copy calls.Keys = true
may_copy _ = false
