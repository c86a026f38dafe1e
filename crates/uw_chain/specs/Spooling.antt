-- Tasks that are put aside, and the rows that a keeper has for them ("Spooler").
use Rattle.std.specs.Prelude.{◌≡◌, ℕ, ◌+◌, ◌-◌, ◌^◌, ◌≤◌, ◌<◌, min, Bool, true, false, not, List, [], ◌∷◌, ◌++◌, codes, filter, length, Option, None, Some, is_some, IsSome, unwrap_or, Result, Ok, Err}
use Rattle.std.specs.Str.{bytes_eq}
use Rattle.uw_base.specs.declared.bytes.Memory.{Memory}
use Rattle.uw_base.specs.declared.variables.Pair.{Pair}
use Rattle.uw_base.specs.Variables.{value_of}
use Rattle.uw_packet.specs.BlockReads.{vars_block}
use Rattle.uw_packet.specs.Packet.{header_bytes}
use Rattle.uw_keeper.specs.declared.keeper.Row.{Row}
use Rattle.uw_keeper.specs.Keeping.{Keeping, keeping, most_number}
use Rattle.uw_keeper.specs.Rows.{last_number}
use Rattle.uw_model.specs.declared.asks.Ask.{Ask}
use Rattle.uw_model.specs.declared.asks.Ask.TheVariants as asks
use Rattle.uw_model.specs.declared.asks.AskAnswer.{AskAnswer}
use Rattle.uw_model.specs.declared.asks.AskAnswer.TheVariants as ask_answers
use Rattle.uw_model.specs.declared.asks.SpoolAnswer.{SpoolAnswer}
use Rattle.uw_model.specs.declared.asks.SpoolAnswer.TheVariants as spools
use Rattle.uw_model.specs.Asks.{Asking, DeskParts, IsOfPart, answered, counted_answer, is_of_desk, of_desk}

-- ---- tasks

-- the body of a task: the value of `body`
abbrev pub task_body : List Pair → List ℕ
task_body pairs = value_of pairs (codes "body")

-- the variables of a task: all others, in their order
abbrev pub task_vars : List Pair → List Pair
task_vars pairs = filter (λ (pair : Pair). not (bytes_eq pair.key (codes "body"))) pairs

-- the task of pairs is put aside
abbrev pub task_ask : List Pair → Ask
task_ask pairs = asks.Spool (task_vars pairs) (task_body pairs)

-- the block of variables; where they have none, no byte
abbrev pub block_of_vars : List Pair → List ℕ
block_of_vars vars = unwrap_or (vars_block vars) []

-- the bytes of a task's row: a packet of modifiers 17 and 0 with the block of its variables, and behind it its body
unfoldable pub row_bytes : List Pair → List ℕ → List ℕ
row_bytes vars body = header_bytes (record { m1 = 17; size = length (block_of_vars vars); m2 = 0 }) ++ block_of_vars vars ++ body

-- what can be asked where a desk has these parts: a cache or an area of it; a task whose variables have a block
abbrev pub CanBeAsked : DeskParts → Ask → Type 0
CanBeAsked parts (asks.Cache cache call) = IsOfPart parts (asks.Cache cache call)
CanBeAsked parts (asks.Area area op) = IsOfPart parts (asks.Area area op)
CanBeAsked parts (asks.Spool vars body) = IsSome (vars_block vars)

-- ---- rows

-- the rows behind an answer to a task: with its row behind the last one, under the next number; or as they were, where the last one has the last number, or the
-- keeper failed
abbrev pub AnswersTask : List Row → Ask → AskAnswer → List Row → Type 0
AnswersTask rows (asks.Spool vars body) (ask_answers.Spool (spools.Put number)) now =
    (last_number rows < most_number) × (number ≡ last_number rows + 1) × (now ≡ rows ++ record { number = number; bytes = row_bytes vars body } ∷ [])
AnswersTask rows (asks.Spool vars body) (ask_answers.Spool spools.NoNumber) now = (last_number rows ≡ most_number) × (now ≡ rows)
AnswersTask rows (asks.Spool vars body) (ask_answers.Spool spools.Failed) now = now ≡ rows
AnswersTask rows ask answer now = ⊥

-- the rows behind a task, if it was answered
abbrev pub AnswersTaskIfAny : List Row → Ask → Option AskAnswer → List Row → Type 0
AnswersTaskIfAny rows ask None now = now ≡ rows
AnswersTaskIfAny rows ask (Some answer) now = AnswersTask rows ask answer now

-- tasks led from rows to rows
abbrev pub LeadsRows : List Row → List Asking → List Row → Type 0
LeadsRows rows [] now = now ≡ rows
LeadsRows rows (a ∷ asked) now = (middle : List Row) × AnswersTaskIfAny rows a.ask (counted_answer a.end) middle × LeadsRows middle asked now

-- tasks led from the rows that a keeper tells to those that it tells then
abbrev pub LeadsTold : Option (List Row) → List Asking → Option (List Row) → Type 0
LeadsTold None asked None = Unit {0}
LeadsTold (Some rows) asked (Some now) = LeadsRows rows asked now
LeadsTold told asked now = ⊥

-- 1 where a task failed
abbrev pub failed_once : Option AskAnswer → ℕ
failed_once (Some (ask_answers.Spool spools.Failed)) = 1
failed_once answer = 0

-- how many tasks failed
abbrev pub failed_tasks : List Asking → ℕ
failed_tasks [] = 0
failed_tasks (a ∷ asked) = failed_once (counted_answer a.end) + failed_tasks asked

-- tasks led a keeper on: its rows, where it tells them; at most as many failed as its count of failed appends rose by, unless that count stands at its last value,
-- and where none failed it did not rise
pub record Keeps (before now : Keeping) (asked : List Asking) : Type 0 where
  pub rows : LeadsTold before.rows asked now.rows
  pub failed : min (before.append_faults + failed_tasks asked) (2 ^ 64 - 1) ≤ now.append_faults
  pub later : before.append_faults ≤ now.append_faults
  pub same : failed_tasks asked ≡ 0 → now.append_faults ≡ before.append_faults
  pub others : now.other_faults ≡ before.other_faults

-- tasks led a keeper from one state to another: `rows`, `appends` and `others` read a state
abbrev pub kept_by : {P : Type 0} → (P → Option (List Row)) → (P → ℕ) → (P → ℕ) → P → P → List Asking → Type 0
kept_by rows appends others before now asked = Keeps (keeping rows appends others before) (keeping rows appends others now) asked

-- of asks, those that the spool is asked
abbrev pub of_spool : List Asking → List Asking
of_spool asked = filter (λ (a : Asking). not (is_of_desk a.ask)) asked

-- asks led a desk and a keeper on: those of a desk the one, and those of the spool the other
abbrev pub both_led : (List Asking → ℕ → Type 0) → (List Asking → Type 0) → List Asking → ℕ → Type 0
both_led led kept asked writes = led (of_desk asked) writes × kept (of_spool asked)

-- a task was put aside, or was not; without memory the keeper is as it was
abbrev pub PutsTask : Keeping → Keeping → List Pair → List ℕ → Result SpoolAnswer Memory → Type 0
PutsTask before now vars body (Ok answer) = Keeps before now (record { moment = 0; ask = asks.Spool vars body; end = answered (ask_answers.Spool answer) } ∷ [])
PutsTask before now vars body (Err memory) = now ≡ before
