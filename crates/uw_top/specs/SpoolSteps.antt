-- The steps of the command `spool`.
use Rattle.std.specs.Prelude.{◌≡◌, ℕ, ◌<◌, List, ◌++◌, length, take, Option, None, Some, Result, Ok}
use Rattle.uw_outside.specs.Faults.{HasCause, Rose}
use Rattle.uw_outside.specs.Streams.{Outflow, Gives}
use Rattle.uw_keeper.specs.Keeping.{Keeping}
use Rattle.uw_model.specs.Asks.{Asking}
use Rattle.uw_spool.specs.declared.report.RoundFault.{RoundFault}
use Rattle.uw_spool.specs.declared.report.TaskLine.{TaskLine}
use Rattle.uw_spool.specs.Rounds.{Rounds}
use Rattle.uw_ends.specs.declared.ends.RunFault.{RunFault}
use Rattle.uw_ends.specs.declared.ends.RunFault.TheVariants as faults
use Rattle.uw_session.specs.Exchange.{Site}
use Rattle.uw_top.specs.Pipe.{has_failed_to_write}
use Rattle.uw_top.specs.Spool.{EndsRounds, RoundsLead, SpoolEndsBy, round_of, round_text, rounds_text, undying}

-- a text was written whole, or a write failed and so much of it had been written
abbrev pub WritesText : Outflow → List ℕ → Option RunFault → Type 0
WritesText snk text None = Gives snk.before snk.now text
WritesText snk text (Some faults.WriteFault) = Rose snk.faults_before snk.faults_now × ((n : ℕ) × (n < length text) × Gives snk.before snk.now (take n text))
WritesText snk text (Some _) = ⊥

-- what was written behind the whole rounds, of a round that was the last by a fault
abbrev pub WritesLast : ℕ → Result (List TaskLine) RoundFault → Outflow → RunFault → Type 0
WritesLast spooler result snk fault = (part : List ℕ) × EndsRounds spooler result snk part fault × Gives snk.before snk.now part

-- the lines of a round were written, or it was the last
abbrev pub WritesRound : ℕ → List TaskLine → Outflow → Option RunFault → Type 0
WritesRound spooler report snk None = Gives snk.before snk.now (round_text spooler report)
WritesRound spooler report snk (Some fault) = WritesLast spooler (Ok report) snk fault

-- a round of a spooler was run and its lines were written, or it was the last
abbrev pub RunsRound : {S : Type 0} → (S → S → List Asking → ℕ → Type 0) → Site → ℕ → ℕ → S → S → Keeping → Keeping → Outflow → Option RunFault → Type 0
RunsRound leads site now spooler before after kept left snk None =
    (report : List TaskLine) × Rounds (round_of site now spooler) (undying leads before after kept left) (Ok report) × Gives snk.before snk.now (round_text spooler report)
RunsRound leads site now spooler before after kept left snk (Some fault) =
    (result : Result (List TaskLine) RoundFault) × Rounds (round_of site now spooler) (undying leads before after kept left) result × WritesLast spooler result snk fault

-- so many rounds were run, and their lines were written
pub record RoundsSoFar {S : Type 0} (leads : S → S → List Asking → ℕ → Type 0) (site : Site) (now : ℕ) (start held : S) (kept left : Keeping) (before after : Option (List ℕ))
    (count : ℕ) : Type 0 where
  pub reports : List (List TaskLine)
  pub passed : RoundsLead leads site now 0 start kept reports held left
  pub written : Gives before after (rounds_text 0 reports)
  pub many : length reports ≡ count

-- what the rounds of all spoolers at a moment wrote, and how they ended, from one state of the desk and the keeper to another
pub record RoundsRun {S : Type 0} (leads : S → S → List Asking → ℕ → Type 0) (site : Site) (now : ℕ) (start last : S) (kept left : Keeping) (snk : Outflow) (fault : Option RunFault) : Type 0 where
  pub reports : List (List TaskLine)
  pub behind : S
  pub still : Keeping
  pub part : List ℕ
  pub passed : RoundsLead leads site now 0 start kept reports behind still
  pub written : Gives snk.before snk.now (rounds_text 0 reports ++ part)
  pub writes : HasCause snk.faults_before snk.faults_now (has_failed_to_write fault)
  pub ending : SpoolEndsBy leads site now (length reports) behind still last left snk part fault
