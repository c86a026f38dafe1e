-- What tasks do to a keeper, and what asks do to a desk and a keeper.
use Rattle.std.proofs.Common.{◌≡◌, inl, inr, refl, sym, ap, ap₂, ◌∙◌, subst, ℕ, ◌+◌, ◌-◌, ◌^◌, ◌≤◌, min, Bool, true, false, not, List, [], ◌∷◌, ◌++◌, length, Option, None, Some, Result, Ok, Err, IfSome, append_assoc, arith}
use Rattle.std.proofs.lemmas.List.Elements.{filter-append}
use Rattle.uw_base.specs.declared.bytes.Memory.{Memory}
use Rattle.uw_base.specs.declared.variables.Pair.{Pair}
use Rattle.uw_outside.specs.Faults.{HasCause}
use Rattle.uw_outside.specs.Lives.{Spends}
use Rattle.uw_outside.proofs.Lives.{Spends-none}
use Rattle.uw_keeper.specs.declared.keeper.Row.{Row}
use Rattle.uw_keeper.specs.declared.keeper.KeepFault.TheVariants as faults
use Rattle.uw_keeper.specs.Keeping.{Appends, Keeping, keeping}
use Rattle.uw_model.specs.declared.asks.Ask.{Ask}
use Rattle.uw_model.specs.declared.asks.Ask.TheVariants as asks
use Rattle.uw_model.specs.declared.asks.AskAnswer.{AskAnswer}
use Rattle.uw_model.specs.declared.asks.AskAnswer.TheVariants as ask_answers
use Rattle.uw_model.specs.declared.asks.Asked.{Asked}
use Rattle.uw_model.specs.declared.asks.SpoolAnswer.{SpoolAnswer}
use Rattle.uw_model.specs.declared.asks.SpoolAnswer.TheVariants as spools
use Rattle.uw_model.specs.Asks.{AskEnd, Asking, DeskParts, answered, died_absent, died_whole, no_memory, IsOfPart, IsUnanswered, Leads, Led, counted_answer, is_of_desk, of_desk}
use Rattle.uw_chain.specs.declared.faults.ChainEnd.TheVariants as chains
use Rattle.uw_chain.specs.declared.faults.ChainEnd.{ChainEnd}
use Rattle.uw_chain.specs.Runs.{AsksOnce}
use Rattle.uw_chain.specs.RoutingSteps.{PutsAside}
use Rattle.uw_chain.specs.Spooling.{AnswersTaskIfAny, Keeps, LeadsRows, LeadsTold, PutsTask, both_led, failed_tasks, failed_once, kept_by, of_spool, row_bytes}

-- ---- no task, and tasks after others

-- no task leaves the rows
told_none : (told : Option (List Row)) → LeadsTold told [] told
told_none None = tt
told_none (Some rows) = refl

-- a keeper that was asked nothing
pub kept_none : (before : Keeping) → Keeps before before []
kept_none before = record {
  rows = told_none before.rows;
  failed = omega arith;
  later = omega arith;
  same = λ none. refl;
  others = refl;
}

rows_more : (rows middle now : List Row) (early late : List Asking) → LeadsRows rows early middle → LeadsRows middle late now → LeadsRows rows (early ++ late) now
rows_more rows middle now [] late first more = subst (λ (from : List Row). LeadsRows from late now) first more
rows_more rows middle now (a ∷ early) late first more = (first.0, first.1, rows_more first.0 middle now early late first.2 more)

told_more : (told middle now : Option (List Row)) (early late : List Asking) → LeadsTold told early middle → LeadsTold middle late now → LeadsTold told (early ++ late) now
told_more None None None early late first more = tt
told_more None None (Some now) early late first more = absurd more
told_more None (Some middle) now early late first more = absurd first
told_more (Some rows) None now early late first more = absurd first
told_more (Some rows) (Some middle) None early late first more = absurd more
told_more (Some rows) (Some middle) (Some now) early late first more = rows_more rows middle now early late first more

failed-append : (early late : List Asking) → failed_tasks (early ++ late) ≡ failed_tasks early + failed_tasks late
failed-append [] late = omega arith
failed-append (a ∷ early) late = let rest = failed-append early late in omega (arith, rest)

-- counts that stop at a last value add up
counts_more : (before middle now first more last : ℕ) → min (before + first) last ≤ middle → min (middle + more) last ≤ now → min (before + (first + more)) last ≤ now
counts_more before middle now first more last early late = omega (arith, early, late)

-- tasks, and then others
pub kept_more : (before middle now : Keeping) (early late : List Asking) → Keeps before middle early → Keeps middle now late → Keeps before now (early ++ late)
kept_more before middle now early late first more = record {
  rows = told_more before.rows middle.rows now.rows early late first.rows more.rows;
  failed =
      subst (λ (count : ℕ). min (before.append_faults + count) (2 ^ 64 - 1) ≤ now.append_faults) (sym (failed-append early late))
      (counts_more before.append_faults middle.append_faults now.append_faults (failed_tasks early) (failed_tasks late) (2 ^ 64 - 1) first.failed more.failed);
  later = omega (arith, first.later, more.later);
  same = λ none.
      let sum = failed-append early late in more.same (omega (arith, none, sum)) ∙ first.same (omega (arith, none, sum));
  others = more.others ∙ first.others;
}

-- ---- a desk and a keeper

-- what leads a desk and a keeper on
abbrev pub site : {D P : Type 0} → (D → D → List Asking → ℕ → Type 0) → (P → Option (List Row)) → (P → ℕ) → (P → ℕ) → D × P → D × P → List Asking → ℕ → Type 0
site leads rows appends others before now = both_led (leads before.0 now.0) (kept_by rows appends others before.1 now.1)

-- no ask
pub site_none : {D P : Type 0} → (leads : D → D → List Asking → ℕ → Type 0) (rows : P → Option (List Row)) (appends others : P → ℕ)
    → ((desk : D) → leads desk desk [] 0) → (state : D × P) → site leads rows appends others state state [] 0
site_none leads rows appends others none state = (none state.0, kept_none (keeping rows appends others state.1))

-- asks, and then others
pub site_more : {D P : Type 0} → (leads : D → D → List Asking → ℕ → Type 0) (rows : P → Option (List Row)) (appends others : P → ℕ)
    → ((a b c : D) (early late : List Asking) (first more : ℕ) → leads a b early first → leads b c late more → leads a c (early ++ late) (first + more))
    → (a b c : D × P) (early late : List Asking) (first more : ℕ) → site leads rows appends others a b early first → site leads rows appends others b c late more
    → site leads rows appends others a c (early ++ late) (first + more)
site_more leads rows appends others adds a b c early late first more h other = (
  subst (λ (asked : List Asking). leads a.0 c.0 asked (first + more)) (sym (filter-append (λ (x : Asking). is_of_desk x.ask) early late))
      (adds a.0 b.0 c.0 (of_desk early) (of_desk late) first more h.0 other.0),
  subst (Keeps (keeping rows appends others a.1) (keeping rows appends others c.1)) (sym (filter-append (λ (x : Asking). not (is_of_desk x.ask)) early late))
      (kept_more (keeping rows appends others a.1) (keeping rows appends others b.1) (keeping rows appends others c.1) (of_spool early) (of_spool late) h.1 other.1),
)

-- ---- one ask of a desk

-- an ask of a cache or an area that a desk has is one of a desk
pub part_of_desk : (parts : DeskParts) (ask : Ask) → IsOfPart parts ask → is_of_desk ask ≡ true
part_of_desk parts (asks.Cache cache call) known = refl
part_of_desk parts (asks.Area area op) known = refl
part_of_desk parts (asks.Spool vars body) known = absurd known

desk_leads : (led : List Asking → ℕ → Type 0) (kept : List Asking → Type 0) (before now : Option (List ℕ)) (moment : ℕ) (ask : Ask) (end : AskEnd)
    → is_of_desk ask ≡ true → kept [] → Leads led before now moment ask end → Leads (both_led led kept) before now moment ask end
desk_leads led kept before now moment (asks.Cache cache call) end of none h = (h.0, (h.1, none), h.2)
desk_leads led kept before now moment (asks.Area area op) end of none h = (h.0, (h.1, none), h.2)
desk_leads led kept before now moment (asks.Spool vars body) end of none h = absurd (cc)

-- an ask of a desk leaves the keeper
pub desk_asked : {T : Type 0} → (led : List Asking → ℕ → Type 0) (kept : List Asking → Type 0) (before now : Option (List ℕ)) (moment : ℕ) (ask : Ask)
    (list after : List Asked) (result : Result T ChainEnd) → is_of_desk ask ≡ true → kept [] → AsksOnce led before now moment ask list after result
    → AsksOnce (both_led led kept) before now moment ask list after result
desk_asked led kept before now moment ask list after (Ok done) of none h = (h.0, h.1, desk_leads led kept before now moment ask (answered h.0) of none h.2)
desk_asked led kept before now moment ask list after (Err (chains.Died true)) of none h =
    (h.0, h.1, (h.2.0, desk_leads led kept before now moment ask (died_whole h.2.0) of none h.2.1), h.3)
desk_asked led kept before now moment ask list after (Err (chains.Died false)) of none h =
    (h.0, h.1, desk_leads led kept before now moment ask died_absent of none h.2, h.3)
desk_asked led kept before now moment ask list after (Err chains.Memory) of none h = (
  h.0,
  elim h.1 [
    | inl unmade ↦ inl (unmade.0, (unmade.1, none), unmade.2)
    | inr one ↦ inr (desk_leads led kept before now moment ask no_memory of none one)
  ],
)

-- ---- one task

-- the ask of a task, at a moment
abbrev asking_task : ℕ → List Pair → List ℕ → SpoolAnswer → Asking
asking_task moment vars body answer = record { moment = moment; ask = asks.Spool vars body; end = answered (ask_answers.Spool answer) }

-- its moment counts for nothing
told_moment : (told now : Option (List Row)) (moment : ℕ) (vars : List Pair) (body : List ℕ) (answer : SpoolAnswer)
    → LeadsTold told (asking_task 0 vars body answer ∷ []) now → LeadsTold told (asking_task moment vars body answer ∷ []) now
told_moment None None moment vars body answer h = h
told_moment None (Some now) moment vars body answer h = h
told_moment (Some rows) None moment vars body answer h = h
told_moment (Some rows) (Some now) moment vars body answer h = h

kept_moment : (before now : Keeping) (moment : ℕ) (vars : List Pair) (body : List ℕ) (answer : SpoolAnswer)
    → Keeps before now (asking_task 0 vars body answer ∷ []) → Keeps before now (asking_task moment vars body answer ∷ [])
kept_moment before now moment vars body answer h = record {
  rows = told_moment before.rows now.rows moment vars body answer h.rows;
  failed = h.failed;
  later = h.later;
  same = h.same;
  others = h.others;
}

-- a task that was asked for leaves the desk
pub task_asked : (led : List Asking → ℕ → Type 0) (before now : Keeping) (told : Option (List ℕ)) (moment : ℕ) (vars : List Pair) (body : List ℕ)
    (list after : List Asked) (done : Unit {0}) → led [] 0 → PutsAside before now vars body list after (Ok done)
    → AsksOnce {T = Unit {0}} (both_led led (Keeps before now)) told told moment (asks.Spool vars body) list after (Ok done)
task_asked led before now told moment vars body list after done none h =
    (ask_answers.Spool h.0, h.1, (0, (none, kept_moment before now moment vars body h.0 h.2), Spends-none told))

-- no memory leaves the desk and the keeper
pub task_unasked : (led : List Asking → ℕ → Type 0) (before now : Keeping) (told : Option (List ℕ)) (moment : ℕ) (vars : List Pair) (body : List ℕ)
    (list after : List Asked) (memory : Memory) → led [] 0 → PutsAside before now vars body list after (Err memory)
    → AsksOnce {T = Unit {0}} (both_led led (Keeps before now)) told told moment (asks.Spool vars body) list after (Err chains.Memory)
task_unasked led before now told moment vars body list after memory none h =
    let kept : Keeps before now [] = subst (λ (k : Keeping). Keeps before k []) (sym h.1) (kept_none before) in
    (h.0, inl (0, (none, kept), Spends-none told))

-- no append of another failed
pub task_later : (before now : Keeping) (vars : List Pair) (body : List ℕ) (list after : List Asked) (result : Result (Unit {0}) Memory)
    → PutsAside before now vars body list after result → (before.append_faults ≤ now.append_faults) × (now.other_faults ≡ before.other_faults)
task_later before now vars body list after (Ok done) h = (h.2.later, h.2.others)
task_later before now vars body list after (Err memory) h =
    subst (λ (k : Keeping). (before.append_faults ≤ k.append_faults) × (k.other_faults ≡ before.other_faults)) (sym h.1) (omega arith, refl)

-- ---- one row

told_put : (told now : Option (List Row)) (number : ℕ) (vars : List Pair) (body bytes : List ℕ) → bytes ≡ row_bytes vars body → Appends told now bytes (Ok number)
    → LeadsTold told (asking_task 0 vars body (spools.Put number) ∷ []) now
told_put None now number vars body bytes row h = subst (λ (t : Option (List Row)). LeadsTold None (asking_task 0 vars body (spools.Put number) ∷ []) t) (sym h.0) tt
told_put (Some rows) now number vars body bytes row h =
    let behind : List ℕ → List Row = λ l. rows ++ record { number = number; bytes = l } ∷ [] in
    subst (λ (t : Option (List Row)). LeadsTold (Some rows) (asking_task 0 vars body (spools.Put number) ∷ []) t) (sym (h.2 ∙ ap (λ (l : List ℕ). Some (behind l)) row))
    (behind (row_bytes vars body), (h.0, h.1, refl), refl)

-- a row was put behind the others
pub kept_put : (before now : Keeping) (number : ℕ) (vars : List Pair) (body bytes : List ℕ) → bytes ≡ row_bytes vars body → Appends before.rows now.rows bytes (Ok number)
    → HasCause before.append_faults now.append_faults false → now.other_faults ≡ before.other_faults
    → PutsTask before now vars body (Ok (spools.Put number))
kept_put before now number vars body bytes row appended cause others =
    let same = cause.kept refl in
    record {
      rows = told_put before.rows now.rows number vars body bytes row appended;
      failed = omega (arith, same);
      later = cause.later;
      same = λ none. same;
      others = others;
    }

told_full : (told now : Option (List Row)) (vars : List Pair) (body bytes : List ℕ) → Appends told now bytes (Err faults.NoNumber)
    → LeadsTold told (asking_task 0 vars body spools.NoNumber ∷ []) now
told_full None now vars body bytes h = subst (λ (t : Option (List Row)). LeadsTold None (asking_task 0 vars body spools.NoNumber ∷ []) t) (sym h.0) tt
told_full (Some rows) now vars body bytes h =
    subst (λ (t : Option (List Row)). LeadsTold (Some rows) (asking_task 0 vars body spools.NoNumber ∷ []) t) (sym h.0) (rows, (h.1, refl), refl)

-- the last row has the last number
pub kept_full : (before now : Keeping) (vars : List Pair) (body bytes : List ℕ) → Appends before.rows now.rows bytes (Err faults.NoNumber)
    → HasCause before.append_faults now.append_faults false → now.other_faults ≡ before.other_faults → PutsTask before now vars body (Ok spools.NoNumber)
kept_full before now vars body bytes appended cause others =
    let same = cause.kept refl in
    record {
      rows = told_full before.rows now.rows vars body bytes appended;
      failed = omega (arith, same);
      later = cause.later;
      same = λ none. same;
      others = others;
    }

told_failed : (told now : Option (List Row)) (vars : List Pair) (body : List ℕ) → now ≡ told → LeadsTold told (asking_task 0 vars body spools.Failed ∷ []) now
told_failed None now vars body h = subst (λ (t : Option (List Row)). LeadsTold None (asking_task 0 vars body spools.Failed ∷ []) t) (sym h) tt
told_failed (Some rows) now vars body h =
    subst (λ (t : Option (List Row)). LeadsTold (Some rows) (asking_task 0 vars body spools.Failed ∷ []) t) (sym h) (rows, refl, refl)

-- the keeper failed
pub kept_failed : (before now : Keeping) (vars : List Pair) (body : List ℕ) → now.rows ≡ before.rows → HasCause before.append_faults now.append_faults true
    → now.other_faults ≡ before.other_faults → PutsTask before now vars body (Ok spools.Failed)
kept_failed before now vars body same cause others =
    let rose = cause.rose refl in
    record {
      rows = told_failed before.rows now.rows vars body same;
      failed = omega (arith, rose);
      later = cause.later;
      same = λ none. absurd (omega (arith, none));
      others = others;
    }

-- nothing was kept
pub kept_same : (before now : Keeping) → now.rows ≡ before.rows → HasCause before.append_faults now.append_faults false → now.other_faults ≡ before.other_faults → now ≡ before
kept_same before now rows cause others =
    let same = cause.kept refl in
    rw (← rows, ← same, ← others) refl
