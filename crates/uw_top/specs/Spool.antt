-- The command `spool`: the rounds of all spoolers, and the lines that they report ("Spooler").
use Rattle.std.specs.Prelude.{◌≡◌, ◌⊎◌, ℕ, ◌+◌, ◌<◌, Bool, true, false, List, [], ◌∷◌, ◌++◌, length, take, filter, codes, Option, None, Some, Result, Ok, Err}
use Rattle.std.specs.Fmt.{decimal, signed_decimal}
use Rattle.std.specs.List.{flat_map}
use Rattle.uw_outside.specs.Faults.{HasCause, Rose}
use Rattle.uw_outside.specs.Streams.{Outflow, Gives}
use Rattle.uw_keeper.specs.Keeping.{Keeping}
use Rattle.uw_model.specs.Asks.{Asking}
use Rattle.uw_cachecmd.specs.Replies.{in_twenty_digits}
use Rattle.uw_spool.specs.declared.report.Outcome.{Outcome}
use Rattle.uw_spool.specs.declared.report.Outcome.TheVariants as outcomes
use Rattle.uw_spool.specs.declared.report.RoundFault.{RoundFault}
use Rattle.uw_spool.specs.declared.report.RoundFault.TheVariants as rounds
use Rattle.uw_spool.specs.declared.report.TaskLine.{TaskLine}
use Rattle.uw_spool.specs.Rounds.{Round, RoundFlow, Rounds, TaskRules}
use Rattle.uw_ends.specs.declared.ends.RunFault.{RunFault}
use Rattle.uw_ends.specs.declared.ends.RunFault.TheVariants as faults
use Rattle.uw_session.specs.Exchange.{Site}
use Rattle.uw_top.specs.Pipe.{has_failed_to_write, unbounded}

-- ---- lines

-- what came of a row
abbrev pub outcome_text : Outcome → List ℕ
outcome_text outcomes.Bad = codes "bad"
outcome_text outcomes.Later = codes "later"
outcome_text (outcomes.Status status) = signed_decimal status

-- whether the row went
abbrev pub gone_text : Bool → List ℕ
gone_text true = codes " gone\n"
gone_text false = codes " kept\n"

-- the line of a row: its number in 20 digits, what came of it, and whether it went
abbrev pub task_line_text : TaskLine → List ℕ
task_line_text line = in_twenty_digits line.number ++ 32 ∷ outcome_text line.outcome ++ gone_text line.gone

-- the lines of a report
abbrev pub report_text : List TaskLine → List ℕ
report_text report = flat_map task_line_text report

-- how many rows of a report went
abbrev pub gone_rows : List TaskLine → ℕ
gone_rows report = length (filter (λ (line : TaskLine). line.gone) report)

-- the lines of a spooler's round, and the line behind them: its number, how many rows were reported, and how many of them went
abbrev pub round_text : ℕ → List TaskLine → List ℕ
round_text spooler report =
    report_text report ++ codes "spooler " ++ decimal spooler ++ codes " tasks " ++ decimal (length report) ++ codes " gone " ++ decimal (gone_rows report) ++ codes "\n"

-- the lines of the rounds from a spooler on
abbrev pub rounds_text : ℕ → List (List TaskLine) → List ℕ
rounds_text spooler [] = []
rounds_text spooler (report ∷ reports) = round_text spooler report ++ rounds_text (spooler + 1) reports

-- ---- rounds

-- the rules of a site's tasks
abbrev pub task_rules_of : Site → TaskRules
task_rules_of site = record { naming = site.task_naming; rules = site.task_rules }

-- a round of a site's spooler at a moment
abbrev pub round_of : Site → ℕ → ℕ → Round
round_of site now spooler = record { rules = task_rules_of site; now = now; spooler = spooler; spoolers = site.options.spoolers }

-- a round by a worker that does not die, from one state of the desk and the keeper to another
abbrev pub undying : {S : Type 0} → (S → S → List Asking → ℕ → Type 0) → S → S → Keeping → Keeping → RoundFlow S
undying leads before now kept left = record { leads = leads; before = before; now = now; kept = kept; left = left; allowed = unbounded; still = unbounded }

-- the rounds of spoolers from a number on, each reported so, led from one state of the desk and the keeper to another
abbrev pub RoundsLead : {S : Type 0} → (S → S → List Asking → ℕ → Type 0) → Site → ℕ → ℕ → S → Keeping → List (List TaskLine) → S → Keeping → Type 0
RoundsLead leads site now spooler state kept [] after left = (after ≡ state) × (left ≡ kept)
RoundsLead {S} leads site now spooler state kept (report ∷ reports) after left =
    (middle : S) × (still : Keeping) × Rounds (round_of site now spooler) (undying leads state middle kept still) (Ok report)
    × RoundsLead leads site now (spooler + 1) middle still reports after left

-- ---- the end of a run

-- the text of a round: its lines, or where the keeper failed those that it reports; a round without memory has none
abbrev pub text_of_round : ℕ → Result (List TaskLine) RoundFault → Option (List ℕ)
text_of_round spooler (Ok report) = Some (round_text spooler report)
text_of_round spooler (Err (rounds.KeeperFault report)) = Some (report_text report)
text_of_round spooler (Err (rounds.Died whole report)) = None
text_of_round spooler (Err (rounds.Memory report)) = None

-- how a run of rounds came to its end, behind those that were written whole: what is written of the round behind them, by what it answered
abbrev pub EndsRounds : ℕ → Result (List TaskLine) RoundFault → Outflow → List ℕ → RunFault → Type 0
EndsRounds spooler (Err (rounds.KeeperFault report)) snk part faults.KeeperFault = part ≡ report_text report
EndsRounds spooler result snk part faults.WriteFault =
    Rose snk.faults_before snk.faults_now × ((text : List ℕ) × (n : ℕ) × (text_of_round spooler result ≡ Some text) × (n < length text) × (part ≡ take n text))
EndsRounds spooler result snk part faults.Memory = part ≡ []
EndsRounds spooler result snk part fault = ⊥

-- why a run of rounds ended: all spoolers had theirs; or the next round was the last; or there was no memory for another one
abbrev pub SpoolEndsBy : {S : Type 0} → (S → S → List Asking → ℕ → Type 0) → Site → ℕ → ℕ → S → Keeping → S → Keeping → Outflow → List ℕ → Option RunFault → Type 0
SpoolEndsBy leads site now spooler state kept after left snk part None = (spooler ≡ site.options.spoolers) × (after ≡ state) × (left ≡ kept) × (part ≡ [])
SpoolEndsBy leads site now spooler state kept after left snk part (Some fault) =
    ((spooler < site.options.spoolers)
    × ((result : Result (List TaskLine) RoundFault) × Rounds (round_of site now spooler) (undying leads state after kept left) result × EndsRounds spooler result snk part fault))
    ⊎ ((fault ≡ faults.Memory) × (after ≡ state) × (left ≡ kept) × (part ≡ []))

-- what the command `spool` wrote into its sink and was told by its clock, and how it ended, from one state of the desk and the keeper to another
pub record SpoolRun {S : Type 0} (leads : S → S → List Asking → ℕ → Type 0) (start last : S) (kept left : Keeping) (site : Site) (snk : Outflow) (gave : List ℕ → Type 0)
    (fault : Option RunFault) : Type 0 where
  pub now : ℕ
  -- the reports that were written whole, and the states behind their rounds
  pub reports : List (List TaskLine)
  pub behind : S
  pub still : Keeping
  pub part : List ℕ
  pub told : gave (now ∷ [])
  pub passed : RoundsLead leads site now 0 start kept reports behind still
  pub written : Gives snk.before snk.now (rounds_text 0 reports ++ part)
  -- a failed write is told
  pub writes : HasCause snk.faults_before snk.faults_now (has_failed_to_write fault)
  pub ending : SpoolEndsBy leads site now (length reports) behind still last left snk part fault
