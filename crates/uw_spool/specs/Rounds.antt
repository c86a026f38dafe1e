-- A round: the tasks of a spooler's rows, one after the other ("Spooler").
use Rattle.std.specs.Prelude.{◌≡◌, ◌⊎◌, ℕ, zero, suc, ◌%◌, ◌==◌, Bool, true, false, List, [], ◌∷◌, ◌++◌, map, filter, Option, None, Some, IfSome, Result, Ok, Err, ℤ, negsuc}
use Rattle.std.specs.List.{AllByRecursion}
use Rattle.std.specs.List.Sorted.{IsStrictlyIncreasing}
use Rattle.uw_base.specs.declared.variables.Pair.{Pair}
use Rattle.uw_outside.specs.Faults.{Rose}
use Rattle.uw_outside.specs.Lives.{Spends}
use Rattle.uw_keeper.specs.declared.keeper.Row.{Row}
use Rattle.uw_keeper.specs.Keeping.{Keeping}
use Rattle.uw_keeper.specs.Rows.{AreRows, has_row, without_row}
use Rattle.uw_model.specs.declared.asks.Asked.{Asked}
use Rattle.uw_model.specs.Asks.{Asking, answered_at, of_desk}
use Rattle.uw_rules.specs.WrittenRules.{WrittenRule}
use Rattle.uw_chain.specs.declared.faults.ChainEnd.{ChainEnd}
use Rattle.uw_chain.specs.declared.faults.ChainEnd.TheVariants as chains
use Rattle.uw_chain.specs.Routing.{Naming, TaskRun, course_of_task}
use Rattle.uw_chain.specs.Runs.{Stops}
use Rattle.uw_chain.specs.Spooling.{Keeps, both_led, of_spool}
use Rattle.uw_spool.specs.declared.report.Outcome.{Outcome}
use Rattle.uw_spool.specs.declared.report.Outcome.TheVariants as outcomes
use Rattle.uw_spool.specs.declared.report.TaskLine.{TaskLine}
use Rattle.uw_spool.specs.declared.report.RoundFault.{RoundFault}
use Rattle.uw_spool.specs.declared.report.RoundFault.TheVariants as faults
use Rattle.uw_spool.specs.Tasks.{counted_status, is_later, row_vars}

-- ---- one row

-- what runs tasks: the rules as they are written, and how they are meant
pub record TaskRules : Type 0 where
  pub naming : Naming
  pub rules : List WrittenRule

-- what comes of a task that is due, or is to wait: it runs, by these asks, to its status; a task that waits asks nothing
abbrev pub IsOutcomeDue : TaskRules → ℕ → Bool → List Pair → List Asked → Outcome → Type 0
IsOutcomeDue rules now true vars asked outcome = (outcome ≡ outcomes.Later) × (asked ≡ [])
IsOutcomeDue rules now false vars asked outcome =
    (status : ℤ) × TaskRun rules.naming rules.rules now vars asked status × (outcome ≡ outcomes.Status (counted_status status))

-- what comes of a row: a bad one asks nothing
abbrev pub IsOutcomeOf : TaskRules → ℕ → Option (List Pair) → List Asked → Outcome → Type 0
IsOutcomeOf rules now None asked outcome = (outcome ≡ outcomes.Bad) × (asked ≡ [])
IsOutcomeOf rules now (Some vars) asked outcome = IsOutcomeDue rules now (is_later now vars) vars asked outcome

-- a task is done: its status counts as -2
abbrev pub is_done : Outcome → Bool
is_done outcomes.Bad = false
is_done outcomes.Later = false
is_done (outcomes.Status (negsuc (suc zero))) = true
is_done (outcomes.Status status) = false

-- a row was removed from those that a keeper tells
abbrev pub LosesRow : Option (List Row) → Option (List Row) → ℕ → Type 0
LosesRow None now number = now ≡ None
LosesRow (Some rows) now number = (has_row number rows ≡ true) × (now ≡ Some (without_row number rows))

-- the row of a task that is done goes, unless no row has its number; that of any other one stays
abbrev pub Clears : Keeping → Keeping → ℕ → Bool → Bool → Type 0
Clears before now number true true =
    LosesRow before.rows now.rows number × (now.append_faults ≡ before.append_faults) × (now.other_faults ≡ before.other_faults)
Clears before now number true false = (now ≡ before) × IfSome before.rows (λ rows. has_row number rows ≡ false)
Clears before now number false true = ⊥
Clears before now number false false = now ≡ before

-- a row in its turn: the asks of its task with their answers, what came of it, whether it was removed, and the word writes that were made for it
pub record TaskTurn : Type 0 where
  pub row : Row
  pub asked : List Asked
  pub outcome : Outcome
  pub gone : Bool
  pub writes : ℕ

-- the line of a turn
abbrev pub line_of_turn : TaskTurn → TaskLine
line_of_turn t = record { number = t.row.number; outcome = t.outcome; gone = t.gone }

-- turns led a desk and a keeper from state to state, where `leads` says which asks lead the desk from which state to which, and left so much of a worker's allowances
abbrev pub TasksLead : {S : Type 0} → (S → S → List Asking → ℕ → Type 0) → TaskRules → ℕ → S → Keeping → Option (List ℕ) → List TaskTurn → S → Keeping → Option (List ℕ) → Type 0
TasksLead leads rules now state kept allowed [] after left still = (after ≡ state) × (left ≡ kept) × (still ≡ allowed)
TasksLead {S} leads rules now state kept allowed (t ∷ turns) after left still =
    IsOutcomeOf rules now (row_vars t.row.bytes) t.asked t.outcome
    × ((middle : S) × (put : Keeping) × (cleared : Keeping) × (rest : Option (List ℕ))
    × leads state middle (of_desk (answered_at now t.asked)) t.writes × Spends allowed rest t.writes
    × Keeps kept put (of_spool (answered_at now t.asked)) × Clears put cleared t.row.number (is_done t.outcome) t.gone
    × TasksLead leads rules now middle cleared rest turns after left still)

-- ---- the rows of a round

-- which spooler of how many, and when
pub record Round : Type 0 where
  pub rules : TaskRules
  pub now : ℕ
  pub spooler : ℕ
  pub spoolers : ℕ

-- of rows, those of the spooler
abbrev pub own_rows : Round → List Row → List Row
own_rows round rows = filter (λ (row : Row). row.number % round.spoolers == round.spooler) rows

-- the turns are those of the spooler's rows, in their order; where the keeper tells its rows, of all of them up to those that are left
abbrev pub AreOwnTurns : Round → Option (List Row) → List TaskTurn → List Row → Type 0
AreOwnTurns round told turns more =
    IsStrictlyIncreasing (map (λ (t : TaskTurn). t.row.number) turns) × AllByRecursion (λ (t : TaskTurn). t.row.number % round.spoolers ≡ round.spooler) turns
    × IfSome told (λ rows. AreRows rows → own_rows round rows ≡ map (λ (t : TaskTurn). t.row) turns ++ more)

-- ---- a round

-- what one round did: the states of the desk and of the keeper and the life's allowances before it and now
pub record RoundFlow (S : Type 0) : Type 1 where
  pub leads : S → S → List Asking → ℕ → Type 0
  pub before : S
  pub now : S
  pub kept : Keeping
  pub left : Keeping
  pub allowed : Option (List ℕ)
  pub still : Option (List ℕ)

-- the turns of a report, behind which the desk, the keeper and the allowances stand so
pub record HasTurns {S : Type 0} (round : Round) (f : RoundFlow S) (report : List TaskLine) (more : List Row) (state : S) (kept : Keeping) (allowed : Option (List ℕ)) : Type 0 where
  pub turns : List TaskTurn
  pub lines : report ≡ map line_of_turn turns
  pub own : AreOwnTurns round f.kept.rows turns more
  pub led : TasksLead f.leads round.rules round.now f.before f.kept f.allowed turns state kept allowed

-- a keeper as it was but for its count of faults of other calls than `append`, which rose
pub record Failed (before now : Keeping) : Type 0 where
  pub rows : now.rows ≡ before.rows
  pub appends : now.append_faults ≡ before.append_faults
  pub others : Rose before.other_faults now.other_faults

-- a row of the spooler, behind those of a report
pub record IsNextRow (round : Round) (report : List TaskLine) (row : Row) : Type 0 where
  pub own : row.number % round.spoolers ≡ round.spooler
  pub behind : IsStrictlyIncreasing (map (λ (line : TaskLine). line.number) report ++ row.number ∷ [])

-- behind the turns of a report, the keeper failed: before another task ran; or when the row of one that was done was to be removed
abbrev pub FailsBehind : {S : Type 0} → Round → RoundFlow S → List TaskLine → Type 0
FailsBehind {S} round f report =
    ((more : List Row) × (kept : Keeping) × HasTurns round f report more f.now kept f.still × Failed kept f.left)
    ⊎ ((row : Row) × (more : List Row) × (state : S) × (kept : Keeping) × (put : Keeping) × (allowed : Option (List ℕ)) × (asked : List Asked) × (outcome : Outcome) × (writes : ℕ)
    × HasTurns round f report (row ∷ more) state kept allowed
    × IsOutcomeOf round.rules round.now (row_vars row.bytes) asked outcome × (is_done outcome ≡ true)
    × f.leads state f.now (of_desk (answered_at round.now asked)) writes × Spends allowed f.still writes
    × Keeps kept put (of_spool (answered_at round.now asked)) × Failed put f.left × IsNextRow round report row)

-- behind the turns of a report, the task of the next row, which was due, was begun, and stopped behind these asks
abbrev pub StopsBehind : {S : Type 0} → Round → RoundFlow S → List TaskLine → ChainEnd → Type 0
StopsBehind {S} round f report end =
    (row : Row) × (vars : List Pair) × (more : List Row) × (state : S) × (kept : Keeping) × (allowed : Option (List ℕ)) × (asked : List Asked)
    × HasTurns round f report (row ∷ more) state kept allowed × (row_vars row.bytes ≡ Some vars)
    × Stops (both_led (f.leads state f.now) (Keeps kept f.left)) allowed f.still round.now (course_of_task round.rules.naming round.rules.rules round.now vars) asked end
    × (is_later round.now vars ≡ false) × IsNextRow round report row

-- what a round did, by its answer: all its rows had their turns; or why not
abbrev pub Rounds : {S : Type 0} → Round → RoundFlow S → Result (List TaskLine) RoundFault → Type 0
Rounds round f (Ok report) = HasTurns round f report [] f.now f.left f.still
Rounds round f (Err (faults.KeeperFault report)) = FailsBehind round f report
Rounds round f (Err (faults.Died whole report)) = StopsBehind round f report (chains.Died whole)
Rounds round f (Err (faults.Memory report)) =
    ((more : List Row) × HasTurns round f report more f.now f.left f.still) ⊎ StopsBehind round f report chains.Memory

-- a keeper's fault ended the round
abbrev pub is_keeper_fault : {T : Type 0} → Result T RoundFault → Bool
is_keeper_fault (Ok report) = false
is_keeper_fault (Err (faults.KeeperFault report)) = true
is_keeper_fault (Err (faults.Died whole report)) = false
is_keeper_fault (Err (faults.Memory report)) = false

-- the worker died in the round
abbrev pub has_died_in_round : {T : Type 0} → Result T RoundFault → Bool
has_died_in_round (Ok report) = false
has_died_in_round (Err (faults.KeeperFault report)) = false
has_died_in_round (Err (faults.Died whole report)) = true
has_died_in_round (Err (faults.Memory report)) = false
