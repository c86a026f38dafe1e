-- The rows of a round, one after the other.
use Rattle.std.proofs.Common.{◌≡◌, ℕ, ◌<◌, ◌≤◌, ◌%◌, ◌==◌, Bool, true, false, List, [], ◌∷◌, ◌++◌, map, Option, None, Some, IfSome, ◌⊎◌, unwrap_or, Result, Ok, Err, inl, inr, refl, sym, ap, ◌∙◌, subst, arith, append_assoc}
use Rattle.std.specs.List.{AllByRecursion}
use Rattle.std.specs.List.Sorted.{IsStrictlyIncreasing}
use Rattle.std.proofs.lemmas.Bool.{eq-eqb, eqb-true}
use Rattle.std.proofs.lemmas.List.{map-append}
use Rattle.uw_outside.specs.Lives.{Spends}
use Rattle.uw_keeper.specs.declared.keeper.Row.{Row}
use Rattle.uw_keeper.specs.Keeping.{Keeping}
use Rattle.uw_keeper.specs.Rows.{AreRows, last_number, last_of_rows}
use Rattle.uw_keeper.proofs.RowsLemmas.{Above-from_rows, last_of_rows-number}
use Rattle.uw_model.specs.Asks.{Asking, answered_at, of_desk}
use Rattle.uw_chain.specs.Spooling.{Keeps, of_spool}
use Rattle.uw_spool.specs.declared.report.TaskLine.{TaskLine}
use Rattle.uw_spool.specs.declared.report.RoundFault.TheVariants as faults
use Rattle.uw_spool.specs.declared.turns.RowFault.{RowFault}
use Rattle.uw_spool.specs.declared.turns.RowFault.TheVariants as rows
use Rattle.uw_spool.specs.Rounds.{Clears, HasTurns, IsNextRow, IsOutcomeOf, Round, RoundFlow, Rounds, TaskRules, TaskTurn, TasksLead, is_done, line_of_turn, own_rows}
use Rattle.uw_spool.specs.RoundSteps.{AsksLead, EndsRows, FailsNext, FailsRow, GivesRow, IsBehind, IsUntouched, LastRow, Passes, PassesRow, SoFar, fault_behind, rows_above}
use Rattle.uw_spool.specs.Tasks.{row_vars}
use Rattle.uw_spool.proofs.RowsBehind.{all-append, all-weaker, rising-push, rows_above-all, stands-next, stands-none, stands-over, stands-pass, stands-start, stands-turn}

-- ---- options

-- what follows from what holds of a value, if there is one
if_some : {X : Type 0} → (P Q : X → Type 0) (o : Option X) → ((x : X) → P x → Q x) → IfSome o P → IfSome o Q
if_some P Q None follows h = tt
if_some P Q (Some x) follows h = follows x h

-- what follows from two facts of a value, if there is one
if_both : {X : Type 0} → (P Q R : X → Type 0) (o : Option X) → ((x : X) → P x → Q x → R x) → IfSome o P → IfSome o Q → IfSome o R
if_both P Q R None follows one other = tt
if_both P Q R (Some x) follows one other = follows x one other

-- ---- what was done

-- what was done from one state of the desk, the keeper and the life to another
abbrev pub flow : {S : Type 0} → (S → S → List Asking → ℕ → Type 0) → S → S → Keeping → Keeping → Option (List ℕ) → Option (List ℕ) → RoundFlow S
flow leads before now kept left allowed still = record { leads = leads; before = before; now = now; kept = kept; left = left; allowed = allowed; still = still }

-- ---- the rows that were passed

-- turns and one more
pub TasksLead-push : {S : Type 0} → (leads : S → S → List Asking → ℕ → Type 0) (rules : TaskRules) (now : ℕ) (state : S) (kept : Keeping) (allowed : Option (List ℕ)) (turns : List TaskTurn)
    (t : TaskTurn) (middle : S) (held put cleared : Keeping) (rest : Option (List ℕ)) (after : S) (still : Option (List ℕ))
    → TasksLead leads rules now state kept allowed turns middle held rest
    → IsOutcomeOf rules now (row_vars t.row.bytes) t.asked t.outcome → leads middle after (of_desk (answered_at now t.asked)) t.writes → Spends rest still t.writes
    → Keeps held put (of_spool (answered_at now t.asked)) → Clears put cleared t.row.number (is_done t.outcome) t.gone
    → TasksLead leads rules now state kept allowed (turns ++ t ∷ []) after cleared still
TasksLead-push {S = S} leads rules now state kept allowed [] t middle held put cleared rest after still passed comes led spent keeps clears =
    let Leading : S → Type 0 = λ from. leads from after (of_desk (answered_at now t.asked)) t.writes in
    let Spending : Option (List ℕ) → Type 0 = λ a. Spends a still t.writes in
    let Keeping : Keeping → Type 0 = λ k. Keeps k put (of_spool (answered_at now t.asked)) in
    (comes, (after, put, cleared, still, subst Leading passed.0 led, subst Spending passed.2 spent, subst Keeping passed.1 keeps, clears, (refl, refl, refl)))
TasksLead-push leads rules now state kept allowed (u ∷ turns) t middle held put cleared rest after still passed comes led spent keeps clears =
    let p = passed.1 in
    (passed.0, (p.0, p.1, p.2, p.3, p.4, p.5, p.6, p.7, TasksLead-push leads rules now p.0 p.2 p.3 turns t middle held put cleared rest after still p.8 comes led spent keeps clears))

abbrev number_in : TaskTurn → ℕ
number_in t = t.row.number

abbrev row_in : TaskTurn → Row
row_in t = t.row

all-map : {X : Type 0} → (P : ℕ → Type 0) (f : X → ℕ) (xs : List X) → AllByRecursion (λ (x : X). P (f x)) xs → AllByRecursion P (map f xs)
all-map P f [] all = tt
all-map P f (x ∷ xs) all = (all.0, all-map P f xs all.1)

-- a number that is above those of turns stands behind them
rising-next : (turns : List TaskTurn) (number next : ℕ) → number < next → IsStrictlyIncreasing (map number_in turns) → AllByRecursion (λ (t : TaskTurn). t.row.number ≤ number) turns
    → IsStrictlyIncreasing (map number_in turns ++ next ∷ [])
rising-next turns number next up rising passed =
    rising-push (map number_in turns) next rising
    (all-map (λ n. n < next) number_in turns
    (all-weaker (λ (t : TaskTurn). t.row.number ≤ number) (λ (t : TaskTurn). t.row.number < next) turns (λ t below. omega (arith, below, up)) passed))

-- the numbers of lines are those of the rows in their turns
line-numbers : (turns : List TaskTurn) → map (λ (line : TaskLine). line.number) (map line_of_turn turns) ≡ map number_in turns
line-numbers [] = refl
line-numbers (t ∷ turns) = ap (λ rest. t.row.number ∷ rest) (line-numbers turns)

-- a row of the spooler that is given behind the rows that were passed is the next one behind their report
next_row : {S : Type 0} → (round : Round) (f : RoundFlow S) (last number : ℕ) (lines : List TaskLine) (row : Row) → SoFar round f last number lines → number < row.number
    → row.number % round.spoolers ≡ round.spooler → IsNextRow round lines row
next_row round f last number lines row s up own = record {
  own = own;
  behind = subst (λ (numbers : List ℕ). IsStrictlyIncreasing (numbers ++ row.number ∷ []))
      (sym (ap (map (λ (line : TaskLine). line.number)) s.reported ∙ line-numbers s.turns))
      (rising-next s.turns number row.number up s.rising s.passed);
}

-- no row was passed
pub so_far_start : {S : Type 0} → (leads : S → S → List Asking → ℕ → Type 0) (round : Round) (state : S) (kept : Keeping) (told : Option (List ℕ)) (last : ℕ)
    → SoFar round (flow leads state state kept kept told told) last 0 []
so_far_start leads round state kept told last = record {
  turns = [];
  reported = refl;
  rising = λ k within. absurd (omega (arith, within));
  passed = tt;
  own = tt;
  led = (refl, refl, refl);
  told = behind kept.rows;
}
  where
    behind : (held : Option (List Row)) → IfSome held (λ start. AreRows start → last_number start ≡ last → IsBehind round start last 0 held [])
    behind None = tt
    behind (Some start) = λ are is. record {
      stands = stands-start start last (Some start) are refl;
      are_turns = ap (own_rows round) (sym (rows_above-all 0 start (Above-from_rows start are)));
    }

-- a row of another spooler is none of its own
own-other : (round : Round) (row : Row) (kept : List Row) → (row.number % round.spoolers == round.spooler) ≡ false → own_rows round (row ∷ kept) ≡ own_rows round kept
own-other round row kept other = rw other refl

-- a row of the spooler is its own
own-first : (round : Round) (row : Row) (kept : List Row) → (row.number % round.spoolers == round.spooler) ≡ true → own_rows round (row ∷ kept) ≡ row ∷ own_rows round kept
own-first round row kept own = rw own refl

-- a row of another spooler was passed
so_far_other : {S : Type 0} → (leads : S → S → List Asking → ℕ → Type 0) (round : Round) (start middle after : S) (kept held left : Keeping) (a0 a1 a2 : Option (List ℕ)) (last number : ℕ)
    (lines now : List TaskLine) (row : Row) → SoFar round (flow leads start middle kept held a0 a1) last number lines
    → GivesRow held.rows number last (Some row) → (row.number % round.spoolers == round.spooler) ≡ false
    → IsUntouched (flow leads middle after held left a1 a2) → now ≡ lines
    → SoFar round (flow leads start after kept left a0 a2) last row.number now
so_far_other leads round start middle after kept held left a0 a1 a2 last number lines now row s gives other same as_were = record {
  turns = s.turns;
  reported = as_were ∙ s.reported;
  rising = s.rising;
  passed = all-weaker (λ (t : TaskTurn). t.row.number ≤ number) (λ (t : TaskTurn). t.row.number ≤ row.number) s.turns (λ t below. omega (arith, below, gives.0)) s.passed;
  own = s.own;
  led = led;
  told = if_some
      (λ first. AreRows first → last_number first ≡ last → IsBehind round first last number held.rows s.turns)
      (λ first. AreRows first → last_number first ≡ last → IsBehind round first last row.number left.rows s.turns)
      kept.rows
      (λ first b are is. behind first are is (b are is))
      s.told;
}
  where
    led : TasksLead leads round.rules round.now start kept a0 s.turns after left a2
    led =
        let one = subst (λ x. TasksLead leads round.rules round.now start kept a0 s.turns x held a1) (sym same.desk) s.led in
        let two = subst (λ (x : Keeping). TasksLead leads round.rules round.now start kept a0 s.turns after x a1) (sym same.keeper) one in
        subst (λ (x : Option (List ℕ)). TasksLead leads round.rules round.now start kept a0 s.turns after left x) (sym same.life) two

    behind : (first : List Row) → AreRows first → last_number first ≡ last → IsBehind round first last number held.rows s.turns → IsBehind round first last row.number left.rows s.turns
    behind first are is b =
        let next = stands-next first last number held.rows row are is b.stands gives in
        record {
          stands = stands-pass first last number held.rows left.rows row gives.0 next b.stands (ap (λ (k : Keeping). k.rows) same.keeper);
          are_turns = b.are_turns ∙ ap (λ (l : List Row). map row_in s.turns ++ l) (ap (own_rows round) next ∙ own-other round row (rows_above row.number first) other);
        }

-- a row of the spooler had its turn
so_far_turn : {S : Type 0} → (leads : S → S → List Asking → ℕ → Type 0) (round : Round) (start middle after : S) (kept held put left : Keeping) (a0 a1 a2 : Option (List ℕ)) (last number : ℕ)
    (lines now : List TaskLine) (t : TaskTurn) → SoFar round (flow leads start middle kept held a0 a1) last number lines
    → GivesRow held.rows number last (Some t.row) → (t.row.number % round.spoolers == round.spooler) ≡ true
    → now ≡ lines ++ line_of_turn t ∷ [] → IsOutcomeOf round.rules round.now (row_vars t.row.bytes) t.asked t.outcome
    → AsksLead round.now (flow leads middle after held put a1 a2) t.asked t.writes → Clears put left t.row.number (is_done t.outcome) t.gone
    → SoFar round (flow leads start after kept left a0 a2) last t.row.number now
so_far_turn leads round start middle after kept held put left a0 a1 a2 last number lines now t s gives own pushed comes asks clears = record {
  turns = s.turns ++ t ∷ [];
  reported = pushed ∙ ap (λ (l : List TaskLine). l ++ line_of_turn t ∷ []) s.reported ∙ sym (map-append line_of_turn s.turns (t ∷ []));
  rising = subst IsStrictlyIncreasing (sym (map-append number_in s.turns (t ∷ [])))
      (rising-next s.turns number t.row.number gives.0 s.rising s.passed);
  passed = all-append (λ (u : TaskTurn). u.row.number ≤ t.row.number) s.turns (t ∷ [])
      (all-weaker (λ (u : TaskTurn). u.row.number ≤ number) (λ (u : TaskTurn). u.row.number ≤ t.row.number) s.turns (λ u below. omega (arith, below, gives.0)) s.passed)
      (omega arith, tt);
  own = all-append (λ (u : TaskTurn). u.row.number % round.spoolers ≡ round.spooler) s.turns (t ∷ []) s.own (eqb-true (t.row.number % round.spoolers) round.spooler own, tt);
  led = TasksLead-push leads round.rules round.now start kept a0 s.turns t middle held put left a1 after a2 s.led comes asks.led asks.spent asks.kept clears;
  told = if_some
      (λ first. AreRows first → last_number first ≡ last → IsBehind round first last number held.rows s.turns)
      (λ first. AreRows first → last_number first ≡ last → IsBehind round first last t.row.number left.rows (s.turns ++ t ∷ []))
      kept.rows
      (λ first b are is. behind first are is (b are is))
      s.told;
}
  where
    behind : (first : List Row) → AreRows first → last_number first ≡ last → IsBehind round first last number held.rows s.turns
        → IsBehind round first last t.row.number left.rows (s.turns ++ t ∷ [])
    behind first are is b =
        let next = stands-next first last number held.rows t.row are is b.stands gives in
        let later = own_rows round (rows_above t.row.number first) in
        record {
          stands = stands-turn first last number held.rows (of_spool (answered_at round.now t.asked)) put left t.row (is_done t.outcome) t.gone are is gives.0 gives.1 next b.stands asks.kept.rows clears;
          are_turns = b.are_turns
              ∙ ap (λ (l : List Row). map row_in s.turns ++ l) (ap (own_rows round) next ∙ own-first round t.row (rows_above t.row.number first) own)
              ∙ sym (append_assoc (map row_in s.turns) (t.row ∷ []) later)
              ∙ ap (λ (l : List Row). l ++ later) (sym (map-append row_in s.turns (t ∷ [])));
        }

-- one row more was passed
pub so_far_pass : {S : Type 0} → (leads : S → S → List Asking → ℕ → Type 0) (round : Round) (start middle after : S) (kept held left : Keeping) (a0 a1 a2 : Option (List ℕ)) (last number next : ℕ)
    (lines now : List TaskLine) → SoFar round (flow leads start middle kept held a0 a1) last number lines
    → Passes round (flow leads middle after held left a1 a2) number last lines now (Ok (Some next))
    → SoFar round (flow leads start after kept left a0 a2) last next now
so_far_pass leads round start middle after kept held left a0 a1 a2 last number next lines now s p = rw p.1 (by_own (row.number % round.spoolers == round.spooler) refl p.3)
  where
    row : Row
    row = p.0

    by_own : (own : Bool) → (row.number % round.spoolers == round.spooler) ≡ own → PassesRow round (flow leads middle after held left a1 a2) row lines now own
        → SoFar round (flow leads start after kept left a0 a2) last row.number now
    by_own true own d =
        let t = d.turn in
        let gives : GivesRow held.rows number last (Some t.row) = subst (λ (r : Row). GivesRow held.rows number last (Some r)) (sym d.of_row) p.2 in
        let is_own : (t.row.number % round.spoolers == round.spooler) ≡ true = subst (λ (r : Row). (r.number % round.spoolers == round.spooler) ≡ true) (sym d.of_row) own in
        let comes : IsOutcomeOf round.rules round.now (row_vars t.row.bytes) t.asked t.outcome =
        subst (λ (r : Row). IsOutcomeOf round.rules round.now (row_vars r.bytes) t.asked t.outcome) (sym d.of_row) d.outcome in
        let clears : Clears d.put left t.row.number (is_done t.outcome) t.gone = subst (λ (r : Row). Clears d.put left r.number (is_done t.outcome) t.gone) (sym d.of_row) d.clears in
        let all = so_far_turn leads round start middle after kept held d.put left a0 a1 a2 last number lines now t s gives is_own d.lines comes d.asks clears in
        subst (λ (r : Row). SoFar round (flow leads start after kept left a0 a2) last r.number now) d.of_row all
    by_own false other d = so_far_other leads round start middle after kept held left a0 a1 a2 last number lines now row s p.2 other d.0 d.1

-- ---- why a round ends

-- the spooler's rows that are left above a number
abbrev own_left : Round → ℕ → Option (List Row) → List Row
own_left round number told = own_rows round (rows_above number (unwrap_or told []))

-- the turns of the rows that were passed, in front of those that are left
has_turns : {S : Type 0} → (round : Round) (f : RoundFlow S) (after : S) (left : Keeping) (still : Option (List ℕ)) (last number : ℕ) (lines : List TaskLine) (more : List Row)
    → (s : SoFar round f last number lines) → IfSome f.kept.rows (λ start. last_number start ≡ last)
    → IfSome f.kept.rows (λ start. AreRows start → last_number start ≡ last → IsBehind round start last number f.left.rows s.turns → own_rows round (rows_above number start) ≡ more)
    → HasTurns round (record f { now = after; left = left; still = still }) lines more f.now f.left f.still
has_turns round f after left still last number lines more s ends rest = record {
  turns = s.turns;
  lines = s.reported;
  own = (
    s.rising,
    s.own,
    if_both
        (λ start. last_number start ≡ last)
        (λ start. AreRows start → own_rows round start ≡ map row_in s.turns ++ more)
        (λ start. AreRows start → own_rows round start ≡ map row_in s.turns ++ more)
        f.kept.rows
        (λ start is all are. all are)
        ends
        (if_both
        (λ start. (last_number start ≡ last) × (AreRows start → last_number start ≡ last → IsBehind round start last number f.left.rows s.turns))
        (λ start. AreRows start → last_number start ≡ last → IsBehind round start last number f.left.rows s.turns → own_rows round (rows_above number start) ≡ more)
        (λ start. AreRows start → own_rows round start ≡ map row_in s.turns ++ more)
        f.kept.rows
        (λ start h left_is are. let b = h.1 are h.0 in b.are_turns ∙ ap (λ (l : List Row). map row_in s.turns ++ l) (left_is are h.0 b))
        (if_both
        (λ start. last_number start ≡ last)
        (λ start. AreRows start → last_number start ≡ last → IsBehind round start last number f.left.rows s.turns)
        (λ start. (last_number start ≡ last) × (AreRows start → last_number start ≡ last → IsBehind round start last number f.left.rows s.turns))
        f.kept.rows
        (λ start is b. (is, b))
        ends s.told)
        rest),
  );
  led = s.led;
}

-- all that is left is left
any_left : {S : Type 0} → (round : Round) (f : RoundFlow S) (last number : ℕ) (lines : List TaskLine) (s : SoFar round f last number lines)
    → IfSome f.kept.rows (λ start. AreRows start → last_number start ≡ last → IsBehind round start last number f.left.rows s.turns
    → own_rows round (rows_above number start) ≡ own_left round number f.kept.rows)
any_left round f last number lines s = by_rows f.kept.rows
  where
    by_rows : (told : Option (List Row)) → IfSome told (λ start. AreRows start → last_number start ≡ last → IsBehind round start last number f.left.rows s.turns
        → own_rows round (rows_above number start) ≡ own_left round number told)
    by_rows None = tt
    by_rows (Some start) = λ are is b. refl

-- of which the row that was given is the first
first_left : {S : Type 0} → (round : Round) (f : RoundFlow S) (last number : ℕ) (lines : List TaskLine) (row : Row) (s : SoFar round f last number lines)
    → GivesRow f.left.rows number last (Some row) → (row.number % round.spoolers == round.spooler) ≡ true
    → IfSome f.kept.rows (λ start. AreRows start → last_number start ≡ last → IsBehind round start last number f.left.rows s.turns
    → own_rows round (rows_above number start) ≡ row ∷ own_left round row.number f.kept.rows)
first_left round f last number lines row s gives own = by_rows f.kept.rows
  where
    by_rows : (told : Option (List Row)) → IfSome told (λ start. AreRows start → last_number start ≡ last → IsBehind round start last number f.left.rows s.turns
        → own_rows round (rows_above number start) ≡ row ∷ own_left round row.number told)
    by_rows None = tt
    by_rows (Some start) = λ are is b. ap (own_rows round) (stands-next start last number f.left.rows row are is b.stands gives) ∙ own-first round row (rows_above row.number start) own

-- none is left where no further row was given
none_left : {S : Type 0} → (round : Round) (f : RoundFlow S) (last number : ℕ) (lines : List TaskLine) (s : SoFar round f last number lines)
    → GivesRow f.left.rows number last None
    → IfSome f.kept.rows (λ start. AreRows start → last_number start ≡ last → IsBehind round start last number f.left.rows s.turns → own_rows round (rows_above number start) ≡ [])
none_left round f last number lines s gives = by_rows f.kept.rows
  where
    by_rows : (told : Option (List Row)) → IfSome told (λ start. AreRows start → last_number start ≡ last → IsBehind round start last number f.left.rows s.turns
        → own_rows round (rows_above number start) ≡ [])
    by_rows None = tt
    by_rows (Some start) = λ are is b. ap (own_rows round) (stands-none start last number f.left.rows are is b.stands gives)

-- none is left behind the last number
over_left : {S : Type 0} → (round : Round) (f : RoundFlow S) (last number : ℕ) (lines : List TaskLine) (s : SoFar round f last number lines) → last ≤ number
    → IfSome f.kept.rows (λ start. AreRows start → last_number start ≡ last → IsBehind round start last number f.left.rows s.turns → own_rows round (rows_above number start) ≡ [])
over_left round f last number lines s over = by_rows f.kept.rows
  where
    by_rows : (told : Option (List Row)) → IfSome told (λ start. AreRows start → last_number start ≡ last → IsBehind round start last number f.left.rows s.turns
        → own_rows round (rows_above number start) ≡ [])
    by_rows None = tt
    by_rows (Some start) = λ are is b. ap (own_rows round) (stands-over start number are (omega (arith, is, over)))

-- turns that led to a state led to the same one
moved : {S : Type 0} → (round : Round) (f : RoundFlow S) (lines now : List TaskLine) (more : List Row) (state state' : S) (kept kept' : Keeping) (told told' : Option (List ℕ))
    → HasTurns round f lines more state kept told → now ≡ lines → state' ≡ state → kept' ≡ kept → told' ≡ told → HasTurns round f now more state' kept' told'
moved round f lines now more state state' kept kept' told told' h e0 e1 e2 e3 =
    let one = subst (λ (l : List TaskLine). HasTurns round f l more state kept told) (sym e0) h in
    let two = subst (λ x. HasTurns round f now more x kept told) (sym e1) one in
    let three = subst (λ (k : Keeping). HasTurns round f now more state' k told) (sym e2) two in
    subst (λ (a : Option (List ℕ)). HasTurns round f now more state' kept' a) (sym e3) three

-- no row is left up to the last number
pub ends_none : {S : Type 0} → (leads : S → S → List Asking → ℕ → Type 0) (round : Round) (start middle after : S) (kept held left : Keeping) (a0 a1 a2 : Option (List ℕ)) (last number : ℕ)
    (lines now : List TaskLine) → IfSome kept.rows (λ first. last_number first ≡ last) → SoFar round (flow leads start middle kept held a0 a1) last number lines
    → Passes round (flow leads middle after held left a1 a2) number last lines now (Ok None)
    → EndsRows round (flow leads start after kept left a0 a2) now (Ok tt)
ends_none leads round start middle after kept held left a0 a1 a2 last number lines now ends s p =
    let f = flow leads start middle kept held a0 a1 in
    moved round (flow leads start after kept left a0 a2) lines now [] middle after held left a1 a2
    (has_turns round f after left a2 last number lines [] s ends (none_left round f last number lines s p.2)) p.1 p.0.desk p.0.keeper p.0.life

-- the last number was passed
pub ends_over : {S : Type 0} → (leads : S → S → List Asking → ℕ → Type 0) (round : Round) (start after : S) (kept left : Keeping) (a0 a2 : Option (List ℕ)) (last number : ℕ)
    (lines : List TaskLine) → IfSome kept.rows (λ first. last_number first ≡ last) → last ≤ number → SoFar round (flow leads start after kept left a0 a2) last number lines
    → EndsRows round (flow leads start after kept left a0 a2) lines (Ok tt)
ends_over leads round start after kept left a0 a2 last number lines ends over s =
    let f = flow leads start after kept left a0 a2 in
    has_turns round f after left a2 last number lines [] s ends (over_left round f last number lines s over)

-- a row was not passed
pub ends_fault : {S : Type 0} → (leads : S → S → List Asking → ℕ → Type 0) (round : Round) (start middle after : S) (kept held left : Keeping) (a0 a1 a2 : Option (List ℕ)) (last number : ℕ)
    (lines now : List TaskLine) (fault : RowFault) → IfSome kept.rows (λ first. last_number first ≡ last) → SoFar round (flow leads start middle kept held a0 a1) last number lines
    → Passes round (flow leads middle after held left a1 a2) number last lines now (Err fault)
    → EndsRows round (flow leads start after kept left a0 a2) now (Err fault)
ends_fault {S = S} leads round start middle after kept held left a0 a1 a2 last number lines now fault ends s p = by_fault fault p.1
  where
    f : RoundFlow S
    f = flow leads start middle kept held a0 a1

    whole : RoundFlow S
    whole = flow leads start after kept left a0 a2

    any : HasTurns round (flow leads start after kept left a0 a2) lines (own_left round number kept.rows) middle held a1
    any = has_turns round (flow leads start middle kept held a0 a1) after left a2 last number lines (own_left round number kept.rows) s ends
        (any_left round (flow leads start middle kept held a0 a1) last number lines s)

    first : (fault : RowFault) (r : FailsRow round (flow leads middle after held left a1 a2) number last fault)
        → HasTurns round (flow leads start after kept left a0 a2) now (r.row ∷ own_left round r.row.number kept.rows) middle held a1
    first fault r =
        let own = eq-eqb (r.row.number % round.spoolers) round.spooler r.own in
        let h = has_turns round (flow leads start middle kept held a0 a1) after left a2 last number lines (r.row ∷ own_left round r.row.number kept.rows) s ends
        (first_left round (flow leads start middle kept held a0 a1) last number lines r.row s r.gives own) in
        moved round (flow leads start after kept left a0 a2) lines now (r.row ∷ own_left round r.row.number kept.rows) middle middle held held a1 a1 h p.0 refl refl refl

    next : (fault : RowFault) (r : FailsRow round (flow leads middle after held left a1 a2) number last fault) → IsNextRow round now r.row
    next fault r =
        subst (λ (l : List TaskLine). IsNextRow round l r.row) (sym p.0) (next_row round (flow leads start middle kept held a0 a1) last number lines r.row s r.gives.0 r.own)

    by_fault : (fault : RowFault) → FailsNext (flow leads middle after held left a1 a2) fault ⊎ FailsRow round (flow leads middle after held left a1 a2) number last fault
        → EndsRows round (flow leads start after kept left a0 a2) now (Err fault)
    by_fault rows.KeeperFault (inl n) =
        inl (own_left round number kept.rows, held, moved round (flow leads start after kept left a0 a2) lines now (own_left round number kept.rows) middle after held held a1 a2 any p.0 n.0 refl n.1, n.2)
    by_fault rows.KeeperFault (inr r) =
        let c = r.fails in
        inr (r.row, own_left round r.row.number kept.rows, middle, held, c.put, a1, c.asked, c.outcome, c.writes, first rows.KeeperFault r, c.is_outcome, c.done, c.asks.led, c.asks.spent, c.asks.kept, c.failed, next rows.KeeperFault r)
    by_fault (rows.Died whole) (inl n) = absurd n
    by_fault (rows.Died whole) (inr r) =
        let c = r.fails in
        (r.row, c.0, own_left round r.row.number kept.rows, middle, held, a1, c.1, first (rows.Died whole) r, c.2, c.3, c.4, next (rows.Died whole) r)
    by_fault rows.Memory (inl n) =
        inl (own_left round number kept.rows, moved round (flow leads start after kept left a0 a2) lines now (own_left round number kept.rows) middle after held left a1 a2 any p.0 n.desk n.keeper n.life)
    by_fault rows.Memory (inr r) = elim r.fails [
      | inl n ↦ inl (own_left round number kept.rows, moved round (flow leads start after kept left a0 a2) lines now (own_left round number kept.rows) middle after held left a1 a2 any p.0 n.desk n.keeper n.life)
      | inr c ↦ inr (r.row, c.0, own_left round r.row.number kept.rows, middle, held, a1, c.1, first rows.Memory r, c.2, c.3, c.4, next rows.Memory r)
    ]

-- ---- a round

-- no turn was made
no_turns : {S : Type 0} → (round : Round) (f : RoundFlow S) (more : List Row) → IfSome f.kept.rows (λ kept. own_rows round kept ≡ more) → HasTurns round f [] more f.before f.kept f.allowed
no_turns round f more left = record {
  turns = [];
  lines = refl;
  own = (
    λ k within. absurd (omega (arith, within)),
    tt,
    if_some (λ kept. own_rows round kept ≡ more) (λ kept. AreRows kept → own_rows round kept ≡ more) f.kept.rows (λ kept is are. is) left,
  );
  led = (refl, refl, refl);
}

-- before the first turn all are left
all_left : (round : Round) (told : Option (List Row)) → IfSome told (λ kept. own_rows round kept ≡ own_rows round (unwrap_or told []))
all_left round None = tt
all_left round (Some kept) = refl

-- a keeper without rows
no_rows : (kept : List Row) → None ≡ last_of_rows kept → kept ≡ []
no_rows [] is = refl
no_rows (row ∷ kept) is = absurd cc

-- a keeper has no row
pub rows_none : {S : Type 0} → (leads : S → S → List Asking → ℕ → Type 0) (round : Round) (state : S) (kept left : Keeping) (told : Option (List ℕ)) → LastRow kept left (Ok None)
    → EndsRows round (flow leads state state kept left told told) [] (Ok tt)
rows_none leads round state kept left told h =
    moved round (flow leads state state kept left told told) [] [] [] state state kept left told told
    (no_turns round (flow leads state state kept left told told) []
    (if_some (λ held. None ≡ last_of_rows held) (λ held. own_rows round held ≡ []) kept.rows (λ held is. ap (own_rows round) (no_rows held is)) h.1))
    refl refl h.0 refl

-- the last row was not told
pub rows_fault : {S : Type 0} → (leads : S → S → List Asking → ℕ → Type 0) (round : Round) (state : S) (kept left : Keeping) (told : Option (List ℕ)) (fault : RowFault)
    → LastRow kept left (Err fault) → EndsRows round (flow leads state state kept left told told) [] (Err fault)
rows_fault leads round state kept left told rows.KeeperFault h =
    let f = flow leads state state kept left told told in
    inl (own_rows round (unwrap_or kept.rows []), kept, no_turns round f (own_rows round (unwrap_or kept.rows [])) (all_left round kept.rows), h)
rows_fault leads round state kept left told (rows.Died whole) h = absurd h
rows_fault leads round state kept left told rows.Memory h =
    let f = flow leads state state kept left told told in
    let more = own_rows round (unwrap_or kept.rows []) in
    inl (more, moved round f [] [] more state state kept left told told (no_turns round f more (all_left round kept.rows)) refl refl h refl)

-- the last row was told
pub last_told : (kept left : Keeping) (last : ℕ) → LastRow kept left (Ok (Some last)) → IfSome left.rows (λ held. last_number held ≡ last)
last_told kept left last h =
    subst (λ (k : Keeping). IfSome k.rows (λ held. last_number held ≡ last)) (sym h.0)
    (if_some (λ held. Some last ≡ last_of_rows held) (λ held. last_number held ≡ last) kept.rows
    (λ held is. sym (ap (λ (o : Option ℕ). unwrap_or o 0) is ∙ last_of_rows-number held)) h.1)

-- the keeper is as it was when its last row was told
pub rows_all : {S : Type 0} → (leads : S → S → List Asking → ℕ → Type 0) (round : Round) (before now : S) (kept held left : Keeping) (allowed still : Option (List ℕ)) (lines : List TaskLine)
    (result : Result (Unit {0}) RowFault) → held ≡ kept → EndsRows round (flow leads before now held left allowed still) lines result
    → EndsRows round (flow leads before now kept left allowed still) lines result
rows_all leads round before now kept held left allowed still lines result same h =
    subst (λ (k : Keeping). EndsRows round (flow leads before now k left allowed still) lines result) same h

-- a fault behind the rows of a report
pub round_fails : {S : Type 0} → (round : Round) (f : RoundFlow S) (lines : List TaskLine) (fault : RowFault) → EndsRows round f lines (Err fault) → Rounds round f (Err (fault_behind fault lines))
round_fails round f lines rows.KeeperFault h = h
round_fails round f lines (rows.Died whole) h = h
round_fails round f lines rows.Memory h = h

-- no memory before the first row
pub nothing_run : {S : Type 0} → (leads : S → S → List Asking → ℕ → Type 0) (round : Round) (state : S) (kept : Keeping) (told : Option (List ℕ))
    → Rounds round (flow leads state state kept kept told told) (Err (faults.Memory []))
nothing_run leads round state kept told =
    let more = own_rows round (unwrap_or kept.rows []) in
    inl (more, no_turns round (flow leads state state kept kept told told) more (all_left round kept.rows))
