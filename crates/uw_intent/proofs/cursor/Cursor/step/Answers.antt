use Rattle.std.proofs.Common.{◌≡◌, ℕ, ◌<◌, List, sym, refl, ◌∙◌, subst, arith}
use Rattle.uw_intent.specs.declared.cursor.Cursor.{Cursor}
use Rattle.uw_intent.specs.CursorSteps.{IsOnRuns, writes_ahead}
use Rattle.uw_intent.proofs.Runs.{word_read}
use Rattle.uw_intent.proofs.cursor.Cursor.step.Goals as goal
use Rattle.uw_intent.proofs.cursor.Cursor.step.Goals.{After-load, then-self-eq0+else-self, else-self-eq0}

-- the cursor stands before a word of a run
record InRun (words : List ℕ) (old cursor : Cursor) : Type 0 where
  runs : IsOnRuns words cursor
  some : 0 < cursor.left
  ahead : writes_ahead cursor words ≡ writes_ahead old words

in_run : (c : After-load) → InRun c.args.ram.now c.args.self.now c.if-self-eq0.self
in_run c =
    elim c.if-self-eq0.branch [
      | then-self-eq0+else-self w ↦
          subst (InRun c.args.ram.now c.args.self.now) (sym w.self-is)
          (record { runs = w.enter_run.ensures.runs; some = w.enter_run.ensures.some; ahead = w.enter_run.ensures.ahead })
      | else-self-eq0 w ↦
          subst (InRun c.args.ram.now c.args.self.now) (sym w.self-is)
          (record { runs = c.requires; some = omega (arith, w.if-self-eq0.false); ahead = refl })
    ]

pub overflow_add-self-2 : goal.overflow_add-self-2
overflow_add-self-2 c =
    let run = in_run (goal.at.overflow_add-self-2 c).After-load in
    let read = word_read c.args.ram.now c.if-self-eq0.self c.load.result run.runs run.some c.load.ensures in
    record { fits = omega (arith, read.2, c.requires.small) }

pub returns-clause-some : goal.returns-clause-some
returns-clause-some c =
    let run = in_run (goal.at.returns-clause-some c).After-load in
    let read = word_read c.args.ram.now c.if-self-eq0.self c.load.result run.runs run.some c.load.ensures in
    sym run.ahead ∙ read.1

pub returns-clause-runs : goal.returns-clause-runs
returns-clause-runs c =
    let run = in_run (goal.at.returns-clause-runs c).After-load in
    let read = word_read c.args.ram.now c.if-self-eq0.self c.load.result run.runs run.some c.load.ensures in
    read.0
