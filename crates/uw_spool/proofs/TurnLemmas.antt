-- One row in its turn.
use Rattle.std.proofs.Common.{◌≡◌, ℕ, Bool, true, false, List, [], ◌∷◌, ◌++◌, Option, None, Some, Ok, Err, inl, inr, refl, sym, ◌∙◌, subst, arith}
use Rattle.std.proofs.lemmas.Bool.{false≢true}
use Rattle.std.proofs.lemmas.List.{append-nil}
use Rattle.uw_base.specs.declared.variables.Pair.{Pair}
use Rattle.uw_outside.specs.Faults.{HasCause, Rose}
use Rattle.uw_outside.proofs.Lives.{Spends-none}
use Rattle.uw_keeper.specs.declared.keeper.Row.{Row}
use Rattle.uw_keeper.specs.Keeping.{Keeping, keeping}
use Rattle.uw_model.specs.declared.asks.Asked.{Asked}
use Rattle.uw_model.specs.Asks.{Asking, answered_at}
use Rattle.uw_chain.specs.declared.faults.ChainEnd.{ChainEnd}
use Rattle.uw_chain.specs.declared.faults.ChainEnd.TheVariants as chains
use Rattle.uw_chain.specs.declared.faults.ChainFault.{ChainFault}
use Rattle.uw_chain.specs.declared.faults.TaskEnd.{TaskEnd}
use Rattle.uw_chain.specs.Courses.{ended}
use Rattle.uw_chain.specs.Routing.{course_of_task}
use Rattle.uw_chain.specs.Runs.{RunsTask, Stops}
use Rattle.uw_chain.specs.Spooling.{Keeps, LeadsTold, both_led}
use Rattle.uw_spool.specs.declared.report.Outcome.{Outcome}
use Rattle.uw_spool.specs.declared.report.Outcome.TheVariants as outcomes
use Rattle.uw_spool.specs.declared.report.TaskLine.{TaskLine}
use Rattle.uw_spool.specs.declared.turns.RowFault.{RowFault}
use Rattle.uw_spool.specs.declared.turns.RowFault.TheVariants as rows
use Rattle.uw_spool.specs.Rounds.{IsOutcomeDue, IsOutcomeOf, RoundFlow, TaskRules, is_done}
use Rattle.uw_spool.specs.RoundSteps.{AsksLead, ClearsRow, Counted, MakesOutcome, StopsTask, TakesTurn, fault_of_end}
use Rattle.uw_spool.specs.Tasks.{counted_status, is_later, row_vars}

-- what calls did of a desk, a keeper and a life
abbrev pub flow_of : {S P : Type 0} → (S → S → List Asking → ℕ → Type 0) → S → S → (P → Option (List Row)) → (P → ℕ) → (P → ℕ) → P → P → Option (List ℕ) → Option (List ℕ) → RoundFlow S
flow_of leads before now told appends others kept left allowed still =
    record { leads = leads; before = before; now = now; kept = keeping told appends others kept; left = keeping told appends others left; allowed = allowed; still = still }

-- ---- nothing was asked

LeadsTold-none : (told : Option (List Row)) → LeadsTold told [] told
LeadsTold-none None = tt
LeadsTold-none (Some kept) = refl

-- no task was put aside
pub Keeps-none : (kept : Keeping) → Keeps kept kept []
Keeps-none kept = record { rows = LeadsTold-none kept.rows; failed = omega arith; later = omega arith; same = λ none. refl; others = refl }

-- a desk and a keeper that are as they were
abbrev pub still_flow : {S : Type 0} → (S → S → List Asking → ℕ → Type 0) → S → Keeping → Option (List ℕ) → RoundFlow S
still_flow leads state kept told = record { leads = leads; before = state; now = state; kept = kept; left = kept; allowed = told; still = told }

-- a row asked nothing
pub asks_nothing : {S : Type 0} → (leads : S → S → List Asking → ℕ → Type 0) (none : (state : S) → leads state state [] 0) (now : ℕ) (state : S) (kept : Keeping) (told : Option (List ℕ))
    → AsksLead now (still_flow leads state kept told) [] 0
asks_nothing leads none now state kept told = record { led = none state; spent = Spends-none told; kept = Keeps-none kept }

-- a row that holds no task
pub makes_bad : {S : Type 0} → (leads : S → S → List Asking → ℕ → Type 0) (none : (state : S) → leads state state [] 0) (rules : TaskRules) (now : ℕ) (state : S) (kept : Keeping)
    (told : Option (List ℕ)) (vars : Option (List Pair)) → vars ≡ None → MakesOutcome rules now (still_flow leads state kept told) vars (Ok outcomes.Bad)
makes_bad leads none rules now state kept told vars is = rw is ([], 0, (refl, refl), asks_nothing leads none now state kept told)

-- a task that is to wait
pub makes_later : {S : Type 0} → (leads : S → S → List Asking → ℕ → Type 0) (none : (state : S) → leads state state [] 0) (rules : TaskRules) (now : ℕ) (state : S) (kept : Keeping)
    (told : Option (List ℕ)) (vars : Option (List Pair)) (pairs : List Pair) → vars ≡ Some pairs → is_later now pairs ≡ true
    → MakesOutcome rules now (still_flow leads state kept told) vars (Ok outcomes.Later)
makes_later leads none rules now state kept told vars pairs is later =
    let due : IsOutcomeDue rules now (is_later now pairs) pairs [] outcomes.Later = rw later (refl, refl) in
    rw is ([], 0, due, asks_nothing leads none now state kept told)

-- a task that ran
pub makes_status : {S : Type 0} → (rules : TaskRules) (now : ℕ) (f : RoundFlow S) (vars : Option (List Pair)) (pairs : List Pair) (end : TaskEnd) (outcome : Outcome)
    → vars ≡ Some pairs → is_later now pairs ≡ false
    → outcome ≡ outcomes.Status (counted_status end.status)
    → RunsTask (both_led (f.leads f.before f.now) (Keeps f.kept f.left)) f.allowed f.still rules.naming rules.rules now pairs (Ok end)
    → MakesOutcome rules now f vars (Ok outcome)
makes_status rules now f vars pairs end outcome is due status runs =
    let whole : answered_at now end.asks ++ [] ≡ answered_at now end.asks = append-nil (answered_at now end.asks) in
    let comes : IsOutcomeDue rules now (is_later now pairs) pairs end.asks outcome = rw due (end.status, runs.0, status) in
    let led : both_led (f.leads f.before f.now) (Keeps f.kept f.left) (answered_at now end.asks) runs.1.0 =
    subst (λ (all : List Asking). both_led (f.leads f.before f.now) (Keeps f.kept f.left) all runs.1.0) whole runs.1.1 in
    rw is (end.asks, runs.1.0, comes, record { led = led.0; spent = runs.1.2; kept = led.1 })

-- a task that stopped
pub makes_stop : {S : Type 0} → (rules : TaskRules) (now : ℕ) (f : RoundFlow S) (vars : Option (List Pair)) (pairs : List Pair) (fault : ChainFault) → vars ≡ Some pairs → is_later now pairs ≡ false
    → RunsTask (both_led (f.leads f.before f.now) (Keeps f.kept f.left)) f.allowed f.still rules.naming rules.rules now pairs (Err fault)
    → MakesOutcome rules now f vars (Err fault.end)
makes_stop rules now f vars pairs fault is due runs = by_end fault.end runs
  where
    by_end : (end : ChainEnd) → Stops (both_led (f.leads f.before f.now) (Keeps f.kept f.left)) f.allowed f.still now (course_of_task rules.naming rules.rules now pairs) fault.done end
        → MakesOutcome rules now f vars (Err end)
    by_end (chains.Died whole) stops = (pairs, fault.done, is, stops, due)
    by_end chains.Memory stops = inr (pairs, fault.done, is, stops, due)

-- ---- counts

-- no call was made
pub HasCause-none : (count : ℕ) → HasCause count count false
HasCause-none count = record { later = omega arith; rose = λ failed. absurd (false≢true failed); kept = λ _. refl }

-- calls that did not fail, and then others
pub HasCause-more : (before middle now : ℕ) (failed : Bool) → HasCause before middle false → HasCause middle now failed → HasCause before now failed
HasCause-more before middle now failed first more =
    let same : middle ≡ before = first.kept refl in
    record {
      later = omega (arith, same, more.later);
      rose = λ is. subst (λ (count : ℕ). Rose count now) same (more.rose is);
      kept = λ is. more.kept is ∙ same;
    }

-- no call was made
pub Counted-none : (kept : Keeping) → Counted kept kept false
Counted-none kept = record { appends = omega arith; others = HasCause-none kept.other_faults }

-- calls that did not fail, and then others
pub Counted-more : (before middle now : Keeping) (failed : Bool) → Counted before middle false → Counted middle now failed → Counted before now failed
Counted-more before middle now failed first more = record {
  appends = omega (arith, first.appends, more.appends);
  others = HasCause-more before.other_faults middle.other_faults now.other_faults failed first.others more.others;
}

-- ---- a turn

-- a flow up to another state of its keeper
abbrev pub up_to : {S : Type 0} → RoundFlow S → Keeping → RoundFlow S
up_to f put = record f { left = put }

-- no room for a line
pub turn_untouched : {S : Type 0} → (leads : S → S → List Asking → ℕ → Type 0) (rules : TaskRules) (now : ℕ) (state : S) (kept : Keeping) (told : Option (List ℕ)) (row : Row)
    (before after : List TaskLine) → after ≡ before → TakesTurn rules now (still_flow leads state kept told) row before after (Err rows.Memory)
turn_untouched leads rules now state kept told row before after same = (same, inl (record { desk = refl; keeper = refl; life = refl }))

-- a task that stopped
pub turn_stops : {S : Type 0} → (rules : TaskRules) (now : ℕ) (f : RoundFlow S) (row : Row) (before after : List TaskLine) (end : ChainEnd) (fault : RowFault)
    → after ≡ before → fault ≡ fault_of_end end → MakesOutcome rules now f (row_vars row.bytes) (Err end) → TakesTurn rules now f row before after (Err fault)
turn_stops rules now f row before after (chains.Died whole) fault same is makes = rw is (same, makes)
turn_stops rules now f row before after chains.Memory fault same is makes = rw is (same, makes)

-- what came of a row, and its row was cleared
pub turn_done : {S : Type 0} → (rules : TaskRules) (now : ℕ) (f : RoundFlow S) (put : Keeping) (row : Row) (before after : List TaskLine) (outcome : Outcome) (gone : Bool)
    → after ≡ before ++ record { number = row.number; outcome = outcome; gone = gone } ∷ []
    → MakesOutcome rules now (up_to f put) (row_vars row.bytes) (Ok outcome) → ClearsRow put f.left row.number (is_done outcome) (Ok gone)
    → TakesTurn rules now f row before after (Ok tt)
turn_done rules now f put row before after outcome gone pushed makes clears = record {
  turn = record { row = row; asked = makes.0; outcome = outcome; gone = gone; writes = makes.1 };
  put = put;
  of_row = refl;
  lines = pushed;
  outcome = makes.2;
  asks = makes.3;
  clears = clears;
}

-- a task that is done ran
ran : {S : Type 0} → (rules : TaskRules) (now : ℕ) (f : RoundFlow S) (vars : Option (List Pair)) (asked : List Asked) (writes : ℕ) (outcome : Outcome)
    → IsOutcomeOf rules now vars asked outcome → is_done outcome ≡ true → AsksLead now f asked writes → StopsTask rules now f vars chains.Memory
ran rules now f None asked writes outcome comes done asks = absurd (false≢true (let e = rw comes.0 at done in e))
ran rules now f (Some pairs) asked writes outcome comes done asks = by_due (is_later now pairs) refl comes
  where
    by_due : (later : Bool) → is_later now pairs ≡ later → IsOutcomeDue rules now later pairs asked outcome → StopsTask rules now f (Some pairs) chains.Memory
    by_due true is due = absurd (false≢true (let e = rw due.0 at done in e))
    by_due false is due =
        let whole : answered_at now asked ≡ answered_at now asked ++ [] = sym (append-nil (answered_at now asked)) in
        let led : both_led (f.leads f.before f.now) (Keeps f.kept f.left) (answered_at now asked ++ []) writes =
        subst (λ (all : List Asking). both_led (f.leads f.before f.now) (Keeps f.kept f.left) all writes) whole (asks.led, asks.kept) in
        (pairs, asked, refl, inl (ended due.0, due.1, (writes, led, asks.spent)), is)

-- what came of a row, and its row was not cleared
pub turn_not_cleared : {S : Type 0} → (rules : TaskRules) (now : ℕ) (f : RoundFlow S) (put : Keeping) (row : Row) (before after : List TaskLine) (outcome : Outcome) (fault : RowFault)
    → after ≡ before → MakesOutcome rules now (up_to f put) (row_vars row.bytes) (Ok outcome) → ClearsRow put f.left row.number (is_done outcome) (Err fault)
    → TakesTurn rules now f row before after (Err fault)
turn_not_cleared rules now f put row before after outcome rows.KeeperFault same makes clears = (
  same,
  record {
    asked = makes.0;
    outcome = outcome;
    writes = makes.1;
    put = put;
    is_outcome = makes.2;
    done = clears.0;
    asks = makes.3;
    failed = clears.1;
  },
)
turn_not_cleared rules now f put row before after outcome (rows.Died whole) same makes clears = absurd clears
turn_not_cleared rules now f put row before after outcome rows.Memory same makes clears =
    let asks : AsksLead now f makes.0 makes.1 = subst (λ (k : Keeping). AsksLead now (up_to f k) makes.0 makes.1) (sym clears.1) makes.3 in
    (same, inr (ran rules now f (row_vars row.bytes) makes.0 makes.1 outcome makes.2 clears.0 asks))
