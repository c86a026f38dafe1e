-- The steps of a round.
use Rattle.std.specs.Prelude.{◌≡◌, ◌⊎◌, ℕ, ◌%◌, ◌==◌, ◌≤◌, ◌<◌, Bool, true, false, List, [], ◌∷◌, ◌++◌, map, Option, None, Some, IfSome, Result, Ok, Err, nat_lt, if◌then◌else◌}
use Rattle.std.specs.List.{AllByRecursion}
use Rattle.std.specs.List.Sorted.{IsStrictlyIncreasing}
use Rattle.uw_base.specs.declared.variables.Pair.{Pair}
use Rattle.uw_outside.specs.Faults.{HasCause}
use Rattle.uw_outside.specs.Lives.{Spends}
use Rattle.uw_keeper.specs.declared.keeper.Row.{Row}
use Rattle.uw_keeper.specs.Keeping.{Keeping}
use Rattle.uw_keeper.specs.Rows.{AreRows, last_number, last_of_rows, row_after}
use Rattle.uw_model.specs.declared.asks.Asked.{Asked}
use Rattle.uw_model.specs.Asks.{answered_at, of_desk}
use Rattle.uw_chain.specs.declared.faults.ChainEnd.{ChainEnd}
use Rattle.uw_chain.specs.declared.faults.ChainEnd.TheVariants as chains
use Rattle.uw_chain.specs.Routing.{course_of_task}
use Rattle.uw_chain.specs.Runs.{Stops}
use Rattle.uw_chain.specs.Spooling.{Keeps, both_led, of_spool}
use Rattle.uw_spool.specs.declared.report.Outcome.{Outcome}
use Rattle.uw_spool.specs.declared.report.TaskLine.{TaskLine}
use Rattle.uw_spool.specs.declared.report.RoundFault.{RoundFault}
use Rattle.uw_spool.specs.declared.report.RoundFault.TheVariants as faults
use Rattle.uw_spool.specs.declared.turns.RowFault.{RowFault}
use Rattle.uw_spool.specs.declared.turns.RowFault.TheVariants as rows
use Rattle.uw_spool.specs.Rounds.{Clears, Failed, FailsBehind, HasTurns, IsOutcomeOf, Round, RoundFlow, StopsBehind, TaskRules, TaskTurn, TasksLead, is_done, line_of_turn, own_rows}
use Rattle.uw_spool.specs.Tasks.{is_later, row_vars}

-- ---- counts

-- a keeper's counts over calls: that of `append` did not fall, and that of the other calls rose where one of them failed, and only there
pub record Counted (before now : Keeping) (failed : Bool) : Type 0 where
  pub appends : before.append_faults ≤ now.append_faults
  pub others : HasCause before.other_faults now.other_faults failed

-- the keeper failed
abbrev pub is_of_row_keeper : {T : Type 0} → Result T RowFault → Bool
is_of_row_keeper (Ok done) = false
is_of_row_keeper (Err rows.KeeperFault) = true
is_of_row_keeper (Err (rows.Died whole)) = false
is_of_row_keeper (Err rows.Memory) = false

-- the worker died
abbrev pub has_died_in_row : {T : Type 0} → Result T RowFault → Bool
has_died_in_row (Ok done) = false
has_died_in_row (Err rows.KeeperFault) = false
has_died_in_row (Err (rows.Died whole)) = true
has_died_in_row (Err rows.Memory) = false

-- the fault of a row that the end of a chain is
abbrev pub fault_of_end : ChainEnd → RowFault
fault_of_end (chains.Died whole) = rows.Died whole
fault_of_end chains.Memory = rows.Memory

-- ---- one row

-- nothing was done
pub record IsUntouched {S : Type 0} (f : RoundFlow S) : Type 0 where
  pub desk : f.now ≡ f.before
  pub keeper : f.left ≡ f.kept
  pub life : f.still ≡ f.allowed

-- asks of a task at a moment led the desk and the keeper on, and the life let their word writes through
pub record AsksLead {S : Type 0} (now : ℕ) (f : RoundFlow S) (asked : List Asked) (writes : ℕ) : Type 0 where
  pub led : f.leads f.before f.now (of_desk (answered_at now asked)) writes
  pub spent : Spends f.allowed f.still writes
  pub kept : Keeps f.kept f.left (of_spool (answered_at now asked))

-- a task of these variables was begun, and stopped
abbrev pub StopsTask : {S : Type 0} → TaskRules → ℕ → RoundFlow S → Option (List Pair) → ChainEnd → Type 0
StopsTask rules now f vars end =
    (pairs : List Pair) × (asked : List Asked) × (vars ≡ Some pairs)
    × Stops (both_led (f.leads f.before f.now) (Keeps f.kept f.left)) f.allowed f.still now (course_of_task rules.naming rules.rules now pairs) asked end
    × (is_later now pairs ≡ false)

-- what came of a row with these variables; or why its task was not run to its end
abbrev pub MakesOutcome : {S : Type 0} → TaskRules → ℕ → RoundFlow S → Option (List Pair) → Result Outcome ChainEnd → Type 0
MakesOutcome rules now f vars (Ok outcome) = (asked : List Asked) × (writes : ℕ) × IsOutcomeOf rules now vars asked outcome × AsksLead now f asked writes
MakesOutcome rules now f vars (Err (chains.Died whole)) = StopsTask rules now f vars (chains.Died whole)
MakesOutcome rules now f vars (Err chains.Memory) = IsUntouched f ⊎ StopsTask rules now f vars chains.Memory

-- the row of a task that is done was removed, or was not there, and that of any other one stays; or it could not be removed
abbrev pub ClearsRow : Keeping → Keeping → ℕ → Bool → Result Bool RowFault → Type 0
ClearsRow before now number done (Ok gone) = Clears before now number done gone
ClearsRow before now number done (Err rows.KeeperFault) = (done ≡ true) × Failed before now
ClearsRow before now number done (Err (rows.Died whole)) = ⊥
ClearsRow before now number done (Err rows.Memory) = (done ≡ true) × (now ≡ before)

-- a row had its turn
pub record TurnDone {S : Type 0} (rules : TaskRules) (now : ℕ) (f : RoundFlow S) (row : Row) (before after : List TaskLine) : Type 0 where
  pub turn : TaskTurn
  pub put : Keeping
  pub of_row : turn.row ≡ row
  pub lines : after ≡ before ++ line_of_turn turn ∷ []
  pub outcome : IsOutcomeOf rules now (row_vars row.bytes) turn.asked turn.outcome
  pub asks : AsksLead now (record f { left = put }) turn.asked turn.writes
  pub clears : Clears put f.left row.number (is_done turn.outcome) turn.gone

-- the row of a task that was done could not be removed
pub record FailsToClear {S : Type 0} (rules : TaskRules) (now : ℕ) (f : RoundFlow S) (row : Row) : Type 0 where
  pub asked : List Asked
  pub outcome : Outcome
  pub writes : ℕ
  pub put : Keeping
  pub is_outcome : IsOutcomeOf rules now (row_vars row.bytes) asked outcome
  pub done : is_done outcome ≡ true
  pub asks : AsksLead now (record f { left = put }) asked writes
  pub failed : Failed put f.left

-- why a row had no whole turn
abbrev pub FailsTurn : {S : Type 0} → TaskRules → ℕ → RoundFlow S → Row → RowFault → Type 0
FailsTurn rules now f row rows.KeeperFault = FailsToClear rules now f row
FailsTurn rules now f row (rows.Died whole) = StopsTask rules now f (row_vars row.bytes) (chains.Died whole)
FailsTurn rules now f row rows.Memory = IsUntouched f ⊎ StopsTask rules now f (row_vars row.bytes) chains.Memory

-- a row had its turn, and its line stands behind others; or why not, and the lines are as they were
abbrev pub TakesTurn : {S : Type 0} → TaskRules → ℕ → RoundFlow S → Row → List TaskLine → List TaskLine → Result (Unit {0}) RowFault → Type 0
TakesTurn rules now f row before after (Ok done) = TurnDone rules now f row before after
TakesTurn rules now f row before after (Err fault) = (after ≡ before) × FailsTurn rules now f row fault

-- ---- the rows of a round

-- the row after a number, up to the last number
abbrev pub GivesRow : Option (List Row) → ℕ → ℕ → Option Row → Type 0
GivesRow told number last None = IfSome told (λ kept. IfSome (row_after number kept) (λ (row : Row). last < row.number))
GivesRow told number last (Some row) = (number < row.number) × (row.number ≤ last) × IfSome told (λ kept. row_after number kept ≡ Some row)

-- the keeper was asked for the row after a number, up to the last number
abbrev pub NextRow : Keeping → Keeping → ℕ → ℕ → Result (Option Row) RowFault → Type 0
NextRow before now number last (Ok next) = (now ≡ before) × GivesRow before.rows number last next
NextRow before now number last (Err rows.KeeperFault) = Failed before now
NextRow before now number last (Err (rows.Died whole)) = ⊥
NextRow before now number last (Err rows.Memory) = now ≡ before

-- the keeper was asked for the number of its last row
abbrev pub LastRow : Keeping → Keeping → Result (Option ℕ) RowFault → Type 0
LastRow before now (Ok last) = (now ≡ before) × IfSome before.rows (λ kept. last ≡ last_of_rows kept)
LastRow before now (Err rows.KeeperFault) = Failed before now
LastRow before now (Err (rows.Died whole)) = ⊥
LastRow before now (Err rows.Memory) = now ≡ before

-- a row was passed: one of the spooler had its turn, and one of another spooler was left
abbrev pub PassesRow : {S : Type 0} → Round → RoundFlow S → Row → List TaskLine → List TaskLine → Bool → Type 0
PassesRow round f row before after true = TurnDone round.rules round.now f row before after
PassesRow round f row before after false = IsUntouched f × (after ≡ before)

-- why the row behind a number was not given
abbrev pub FailsNext : {S : Type 0} → RoundFlow S → RowFault → Type 0
FailsNext f rows.KeeperFault = (f.now ≡ f.before) × (f.still ≡ f.allowed) × Failed f.kept f.left
FailsNext f (rows.Died whole) = ⊥
FailsNext f rows.Memory = IsUntouched f

-- a row of the spooler that was given had no whole turn
pub record FailsRow {S : Type 0} (round : Round) (f : RoundFlow S) (number last : ℕ) (fault : RowFault) : Type 0 where
  pub row : Row
  pub gives : GivesRow f.kept.rows number last (Some row)
  pub own : row.number % round.spoolers ≡ round.spooler
  pub fails : FailsTurn round.rules round.now f row fault

-- the row behind a number was passed, or there is none up to the last number; or why not
abbrev pub Passes : {S : Type 0} → Round → RoundFlow S → ℕ → ℕ → List TaskLine → List TaskLine → Result (Option ℕ) RowFault → Type 0
Passes round f number last before after (Ok None) = IsUntouched f × (after ≡ before) × GivesRow f.kept.rows number last None
Passes round f number last before after (Ok (Some next)) =
    (row : Row) × (next ≡ row.number) × GivesRow f.kept.rows number last (Some row) × PassesRow round f row before after (row.number % round.spoolers == round.spooler)
Passes round f number last before after (Err fault) = (after ≡ before) × (FailsNext f fault ⊎ FailsRow round f number last fault)

-- of rows whose numbers rise, those above a number
abbrev pub rows_above : ℕ → List Row → List Row
rows_above number [] = []
rows_above number (row ∷ kept) = if nat_lt number row.number then row ∷ kept else rows_above number kept

-- a keeper that told rows at the start of a round tells now what is left of those up to a number, all others of the start, and rows behind the last one of the start
pub record StandsBehind (start : List Row) (last number : ℕ) (told : Option (List Row)) : Type 0 where
  pub front : List Row
  pub added : List Row
  pub tells : told ≡ Some (front ++ (rows_above number start ++ added))
  pub passed : AllByRecursion (λ (row : Row). row.number ≤ number) front
  pub new : AllByRecursion (λ (row : Row). last < row.number) added

-- the turns of the rows up to a number, and how the keeper stands behind them
pub record IsBehind (round : Round) (start : List Row) (last number : ℕ) (told : Option (List Row)) (turns : List TaskTurn) : Type 0 where
  pub stands : StandsBehind start last number told
  pub are_turns : own_rows round start ≡ map (λ (t : TaskTurn). t.row) turns ++ own_rows round (rows_above number start)

-- the rows up to a number were passed
pub record SoFar {S : Type 0} (round : Round) (f : RoundFlow S) (last number : ℕ) (lines : List TaskLine) : Type 0 where
  pub turns : List TaskTurn
  pub reported : lines ≡ map line_of_turn turns
  pub rising : IsStrictlyIncreasing (map (λ (t : TaskTurn). t.row.number) turns)
  pub passed : AllByRecursion (λ (t : TaskTurn). t.row.number ≤ number) turns
  pub own : AllByRecursion (λ (t : TaskTurn). t.row.number % round.spoolers ≡ round.spooler) turns
  pub led : TasksLead f.leads round.rules round.now f.before f.kept f.allowed turns f.now f.left f.still
  pub told : IfSome f.kept.rows (λ start. AreRows start → last_number start ≡ last → IsBehind round start last number f.left.rows turns)

-- a fault of a round, behind the rows of a report
abbrev pub fault_behind : RowFault → List TaskLine → RoundFault
fault_behind rows.KeeperFault done = faults.KeeperFault done
fault_behind (rows.Died whole) done = faults.Died whole done
fault_behind rows.Memory done = faults.Memory done

-- what a round did, by why it ended
abbrev pub EndsRows : {S : Type 0} → Round → RoundFlow S → List TaskLine → Result (Unit {0}) RowFault → Type 0
EndsRows round f lines (Ok done) = HasTurns round f lines [] f.now f.left f.still
EndsRows round f lines (Err rows.KeeperFault) = FailsBehind round f lines
EndsRows round f lines (Err (rows.Died whole)) = StopsBehind round f lines (chains.Died whole)
EndsRows round f lines (Err rows.Memory) = ((more : List Row) × HasTurns round f lines more f.now f.left f.still) ⊎ StopsBehind round f lines chains.Memory
