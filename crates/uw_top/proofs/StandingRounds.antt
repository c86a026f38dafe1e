-- Rounds over a desk that stands for lists are rounds over the lists.
use Rattle.std.proofs.Common.{ℕ, ◌+◌, List, [], ◌∷◌, Option, None, Some, Result, Ok, Err, refl, sym, subst, inl, inr}
use Rattle.uw_outside.specs.Streams.{Outflow}
use Rattle.uw_keeper.specs.declared.keeper.Row.{Row}
use Rattle.uw_keeper.specs.Keeping.{Keeping}
use Rattle.uw_model.specs.Asks.{Asking, answered_at, of_desk}
use Rattle.uw_model.specs.Lists.{Lists}
use Rattle.uw_chain.specs.declared.faults.ChainEnd.{ChainEnd}
use Rattle.uw_chain.specs.declared.faults.ChainEnd.TheVariants as chains
use Rattle.uw_chain.specs.Spooling.{Keeps, both_led}
use Rattle.uw_spool.specs.declared.report.RoundFault.{RoundFault}
use Rattle.uw_spool.specs.declared.report.RoundFault.TheVariants as rounds
use Rattle.uw_spool.specs.declared.report.TaskLine.{TaskLine}
use Rattle.uw_spool.specs.Rounds.{HasTurns, Round, RoundFlow, Rounds, StopsBehind, FailsBehind, TaskRules, TaskTurn, TasksLead}
use Rattle.uw_ends.specs.declared.ends.RunFault.{RunFault}
use Rattle.uw_session.specs.Exchange.{Site}
use Rattle.uw_top.specs.Pipe.{list_leads}
use Rattle.uw_top.specs.Spool.{RoundsLead, SpoolEndsBy, round_of, undying}
use Rattle.uw_top.specs.SpoolSteps.{RoundsRun}
use Rattle.uw_top.proofs.Standing.{StandsOn, stops_on}

-- a round's flow over the lists that its desk stands for
abbrev over_lists : {D : Type 0} → RoundFlow D → Lists → Lists → RoundFlow Lists
over_lists f lists after =
    record { leads = list_leads; before = lists; now = after; kept = f.kept; left = f.left; allowed = f.allowed; still = f.still }

module _ {D : Type 0} (leads : D → D → List Asking → ℕ → Type 0) (stands : D → Lists → Type 0) (on : StandsOn leads list_leads stands) where
  -- asks of a desk
  pub desk_on : (a b : D) (lists : Lists) (asked : List Asking) (writes : ℕ) → stands a lists → leads a b asked writes
      → (after : Lists) × stands b after × list_leads lists after asked writes
  desk_on a b lists asked writes held led = let o = on a b asked writes lists led held in (o.0, o.2, o.1)

  -- turns of tasks
  tasks_on : (rules : TaskRules) (now : ℕ) (a b : D) (lists : Lists) (kept left : Keeping) (allowed still : Option (List ℕ)) (turns : List TaskTurn) → stands a lists
      → TasksLead leads rules now a kept allowed turns b left still
      → (after : Lists) × stands b after × TasksLead list_leads rules now lists kept allowed turns after left still
  tasks_on rules now a b lists kept left allowed still [] held led =
      (lists, subst (λ (s : D). stands s lists) (sym led.0) held, (refl, led.1, led.2))
  tasks_on rules now a b lists kept left allowed still (t ∷ turns) held led =
      let l = led.1 in
      let first = desk_on a l.0 lists (of_desk (answered_at now t.asked)) t.writes held l.4 in
      let more = tasks_on rules now l.0 b first.0 l.2 left l.3 still turns first.1 l.8 in
      (more.0, more.1, (led.0, (first.0, l.1, l.2, l.3, first.2, l.5, l.6, l.7, more.2)))

module _ {D : Type 0} (round : Round) (f : RoundFlow D) (stands : D → Lists → Type 0) (on : StandsOn f.leads list_leads stands) (lists : Lists) (held : stands f.before lists) where
  -- the turns of a report
  has_turns_on : (report : List TaskLine) (more : List Row) (state : D) (kept : Keeping) (allowed : Option (List ℕ)) → HasTurns round f report more state kept allowed
      → (after : Lists) × stands state after × ((end : Lists) → HasTurns round (over_lists f lists end) report more after kept allowed)
  has_turns_on report more state kept allowed h =
      let o = tasks_on f.leads stands on round.rules round.now f.before state lists f.kept kept f.allowed allowed h.turns held h.led in
      (o.0, o.1, λ end. record { turns = h.turns; lines = h.lines; own = h.own; led = o.2 })

  -- the keeper failed behind them
  fails_on : (report : List TaskLine) → FailsBehind round f report → (after : Lists) × stands f.now after × FailsBehind round (over_lists f lists after) report
  fails_on report (inl (more, kept, turns, failed)) =
      let o = has_turns_on report more f.now kept f.still turns in
      (o.0, o.1, inl (more, kept, o.2 o.0, failed))
  fails_on report (inr (row, more, state, kept, put, allowed, asked, outcome, writes, turns, comes, done, led, spends, keeps, failed, next)) =
      let o = has_turns_on report (row ∷ more) state kept allowed turns in
      let last = desk_on f.leads stands on state f.now o.0 (of_desk (answered_at round.now asked)) writes o.1 led in
      (last.0, last.1, inr (row, more, o.0, kept, put, allowed, asked, outcome, writes, o.2 last.0, comes, done, last.2, spends, keeps, failed, next))

  -- a task stopped behind them
  stops_behind_on : (report : List TaskLine) (end : ChainEnd) → StopsBehind round f report end
      → (after : Lists) × stands f.now after × StopsBehind round (over_lists f lists after) report end
  stops_behind_on report end (row, vars, more, state, kept, allowed, asked, turns, read, stops, due, next) =
      let o = has_turns_on report (row ∷ more) state kept allowed turns in
      let stopped = stops_on (both_led (f.leads state f.now) (Keeps kept f.left)) (λ (after : Lists). both_led (list_leads o.0 after) (Keeps kept f.left))
      (λ (after : Lists). stands f.now after)
      (λ asks writes led. let d = desk_on f.leads stands on state f.now o.0 (of_desk asks) writes o.1 led.0 in (d.0, d.1, (d.2, led.1)))
      allowed f.still round.now _ asked end stops in
      (stopped.0, stopped.1, (row, vars, more, o.0, kept, allowed, asked, o.2 stopped.0, read, stopped.2, due, next))

  -- a round
  pub round_on : (result : Result (List TaskLine) RoundFault) → Rounds round f result → (after : Lists) × stands f.now after × Rounds round (over_lists f lists after) result
  round_on (Ok report) turns = let o = has_turns_on report [] f.now f.left f.still turns in (o.0, o.1, o.2 o.0)
  round_on (Err (rounds.KeeperFault report)) fails = fails_on report fails
  round_on (Err (rounds.Died whole report)) stops = stops_behind_on report (chains.Died whole) stops
  round_on (Err (rounds.Memory report)) (inl (more, turns)) = let o = has_turns_on report more f.now f.left f.still turns in (o.0, o.1, inl (more, o.2 o.0))
  round_on (Err (rounds.Memory report)) (inr stops) = let o = stops_behind_on report chains.Memory stops in (o.0, o.1, inr o.2)

module _ {D : Type 0} (leads : D → D → List Asking → ℕ → Type 0) (stands : D → Lists → Type 0) (on : StandsOn leads list_leads stands) (site : Site) (now : ℕ) where
  -- rounds, one after the other
  rounds_on : (spooler : ℕ) (a b : D) (lists : Lists) (kept left : Keeping) (reports : List (List TaskLine)) → stands a lists
      → RoundsLead leads site now spooler a kept reports b left
      → (after : Lists) × stands b after × RoundsLead list_leads site now spooler lists kept reports after left
  rounds_on spooler a b lists kept left [] held led = (lists, subst (λ (s : D). stands s lists) (sym led.0) held, (refl, led.1))
  rounds_on spooler a b lists kept left (report ∷ reports) held led =
      let first = round_on (round_of site now spooler) (undying leads a led.0 kept led.1) stands on lists held (Ok report) led.2 in
      let more = rounds_on (spooler + 1) led.0 b first.0 led.1 left reports first.1 led.3 in
      (more.0, more.1, (first.0, led.1, first.2, more.2))

  -- the end of the command
  rounds_end_on : (spooler : ℕ) (a b : D) (lists : Lists) (kept left : Keeping) (snk : Outflow) (part : List ℕ) (fault : Option RunFault) → stands a lists
      → SpoolEndsBy leads site now spooler a kept b left snk part fault
      → (after : Lists) × stands b after × SpoolEndsBy list_leads site now spooler lists kept after left snk part fault
  rounds_end_on spooler a b lists kept left snk part None held end = (lists, subst (λ (s : D). stands s lists) (sym end.1) held, (end.0, refl, end.2, end.3))
  rounds_end_on spooler a b lists kept left snk part (Some fault) held (inl (few, (result, round, ends))) =
      let o = round_on (round_of site now spooler) (undying leads a b kept left) stands on lists held result round in
      (o.0, o.1, inl (few, (result, o.2, ends)))
  rounds_end_on spooler a b lists kept left snk part (Some fault) held (inr (memory, same, keeps, none)) =
      (lists, subst (λ (s : D). stands s lists) (sym same) held, inr (memory, refl, keeps, none))

  -- the rounds of all spoolers
  pub rounds_run_on : (a b : D) (lists : Lists) (kept left : Keeping) (snk : Outflow) (fault : Option RunFault) → stands a lists
      → RoundsRun leads site now a b kept left snk fault → (after : Lists) × stands b after × RoundsRun list_leads site now lists after kept left snk fault
  rounds_run_on a b lists kept left snk fault held run =
      let passed = rounds_on 0 a run.behind lists kept run.still run.reports held run.passed in
      let end = rounds_end_on _ run.behind b passed.0 run.still left snk run.part fault passed.1 run.ending in (
        end.0,
        end.1,
        record {
          reports = run.reports;
          behind = passed.0;
          still = run.still;
          part = run.part;
          passed = passed.2;
          written = run.written;
          writes = run.writes;
          ending = end.2;
        },
      )
