-- A shared area as a region, and what an operation makes of it (own rule).
use Rattle.std.specs.Prelude.{◌≡◌, ℕ, Bool, true, false, List, Option, Result, Ok, Err}
use Rattle.uw_model.specs.declared.areas.AreaAnswer.{AreaAnswer}
use Rattle.uw_model.specs.declared.areas.AreaOp.{AreaOp}
use Rattle.uw_model.specs.declared.areas.AreaOp.TheVariants as ops
use Rattle.uw_model.specs.AreaLayout.{area_plan_room}
use Rattle.uw_model.specs.AreaOps.{AreaState, IsAreaSize, area_answer}
use Rattle.uw_intent.specs.declared.frame.WordWrite.{WordWrite}
use Rattle.uw_intent.specs.declared.recoverable.CallFault.{CallFault}
use Rattle.uw_intent.specs.declared.recoverable.CallFault.TheVariants as faults
use Rattle.uw_intent.specs.RedoRecord.{commit_writes}
use Rattle.uw_intent.specs.Standing.{StandsFor}
use Rattle.uw_intent.specs.RightWrites.{IsRight}
use Rattle.uw_intent.specs.CallTurns.{CallEnd}
use Rattle.uw_intent.specs.OneTurn.{AnswersAs, IsCommitted, state_behind}
use Rattle.uw_area.specs.AreaWords.{AgreesWithArea, area_frame}
use Rattle.uw_area.specs.AreaKind.{area_kind}

-- the size in bytes, the words of the region, and the words that the last operation planned
pub record AreaView : Type 0 where
  pub size : ℕ
  pub words : List ℕ
  pub plan : List (ℕ × ℕ)

-- the writes of the last operation
abbrev pub todo_of : AreaView → List WordWrite
todo_of area = commit_writes (area_frame area.size) area.plan

-- the words stand for some area of the size, and there is room for what an operation plans
pub record IsStandingArea (size room : ℕ) (words : List ℕ) : Type 0 where
  pub limit : IsAreaSize size
  pub many : room ≡ area_plan_room size
  pub state : AreaState
  pub stands : StandsFor (area_kind size) words state

-- what an operation made of words with a closed gate, by how it ended: for each area with which they agreed its writes are right, the
-- answer is the area's, and the words stand for the area behind it; and all of its writes were made, or as many as the life let through
pub record HasOperated (before now : AreaView) (op : AreaOp) (told left : Option (List ℕ)) (end : CallEnd AreaAnswer) : Type 0 where
  pub same : now.size ≡ before.size
  pub right : (area : AreaState) (moment : ℕ) → AgreesWithArea before.size before.words area
      → IsRight (area_kind before.size) before.words area moment op (area_answer area op) (todo_of now)
  pub writes : IsCommitted (area_frame before.size) (todo_of now) before.words now.words told left end
  pub answer : (area : AreaState) (moment : ℕ) → AgreesWithArea before.size before.words area → AnswersAs (area_kind before.size) area moment op end
  pub stands : (area : AreaState) (moment : ℕ) → AgreesWithArea before.size before.words area
      → StandsFor (area_kind before.size) now.words (state_behind (area_kind before.size) area moment op end)

-- the operation reads bytes, for which it takes memory
abbrev pub is_read : AreaOp → Bool
is_read (ops.Read at len) = true
is_read (ops.Write at put) = false
is_read (ops.ReadNum at width) = false
is_read (ops.WriteNum at width value) = false
is_read (ops.IncNum at width by) = false
is_read (ops.DecNum at width by) = false
is_read ops.Updates = false

-- there was no memory for the answer
abbrev pub is_memory : {A : Type 0} → Result A CallFault → Bool
is_memory (Ok answer) = false
is_memory (Err (faults.Died whole)) = false
is_memory (Err faults.Memory) = true
