-- Over plain lists, and rows that a keeper tells, the asks and the replies of a run are a function of its packets.
use Rattle.std.proofs.Common.{◌≡◌, refl, sym, ap, ap₂, ◌∙◌, subst, ℕ, ◌+◌, List, [], ◌∷◌, ◌++◌, map, Option, None, Some, IsSome, cond, ltb, arith}
use Rattle.std.proofs.lemmas.Bool.{le-ltb, lt-ltb}
use Rattle.std.specs.List.{AllByRecursion}
use Rattle.uw_model.specs.declared.asks.Asked.{Asked}
use Rattle.uw_model.specs.declared.asks.Ask.{Ask}
use Rattle.uw_model.specs.declared.asks.Ask.TheVariants as asks
use Rattle.uw_model.specs.declared.asks.AskAnswer.{AskAnswer}
use Rattle.uw_model.specs.declared.asks.AskAnswer.TheVariants as ask_answers
use Rattle.uw_model.specs.declared.asks.SpoolAnswer.{SpoolAnswer}
use Rattle.uw_model.specs.declared.asks.SpoolAnswer.TheVariants as spools
use Rattle.uw_model.specs.Asks.{Asking, answered_at, of_desk}
use Rattle.uw_model.specs.Lists.{Lists, LeadsLists, answer_of, lists_after}
use Rattle.uw_keeper.specs.declared.keeper.Row.{Row}
use Rattle.uw_keeper.specs.Keeping.{Keeping, most_number}
use Rattle.uw_keeper.specs.Rows.{last_number}
use Rattle.uw_base.specs.declared.variables.Pair.{Pair}
use Rattle.uw_chain.specs.Courses.{Course, Unfolds, asking, ended}
use Rattle.uw_chain.specs.Spooling.{AnswersTask, LeadsRows, LeadsTold, failed_once, failed_tasks, of_spool, row_bytes}
use Rattle.uw_session.specs.Exchange.{Exchange, Site, course_of_site}
use Rattle.uw_top.specs.Pipe.{EndsCourse, IsTurn, Turn, TurnEnd, TurnsLead, asks_of_turn, both_lead, death_of, died_in, frame_of_end, frames_of, list_leads, replied_by}

-- ---- one ask

-- the answer to a task over rows, where the keeper does not fail
abbrev task_answer : List Row → SpoolAnswer
task_answer rows = cond (ltb (last_number rows) most_number) (spools.Put (last_number rows + 1)) spools.NoNumber

-- the rows behind it
abbrev rows_behind : List Row → List Pair → List ℕ → List Row
rows_behind rows vars body = cond (ltb (last_number rows) most_number) (rows ++ record { number = last_number rows + 1; bytes = row_bytes vars body } ∷ []) rows

-- the answer of an ask over lists and rows
abbrev answer_told : Lists → List Row → ℕ → Ask → AskAnswer
answer_told lists rows moment (asks.Cache cache call) = answer_of lists moment (asks.Cache cache call)
answer_told lists rows moment (asks.Area area op) = answer_of lists moment (asks.Area area op)
answer_told lists rows moment (asks.Spool vars body) = ask_answers.Spool (task_answer rows)

-- the rows behind an ask
abbrev rows_told : List Row → Ask → List Row
rows_told rows (asks.Cache cache call) = rows
rows_told rows (asks.Area area op) = rows
rows_told rows (asks.Spool vars body) = rows_behind rows vars body

-- asks led lists and rows on
abbrev LeadsBoth : Lists → Lists → List Row → List Row → List Asking → Type 0
LeadsBoth lists now rows held asked = LeadsLists lists (of_desk asked) now × LeadsRows rows (of_spool asked) held

-- what led lists and rows on behind an ask that had the defined answer
abbrev LeadsBehind : ℕ → Lists → Lists → List Row → List Row → Ask → AskAnswer → List Asked → Type 0
LeadsBehind moment lists now rows held ask answer asked =
    (answer ≡ answer_told lists rows moment ask)
    × LeadsBoth (lists_after lists moment ask) now (rows_told rows ask) held (answered_at moment asked ++ [])

-- a task that did not fail has the defined answer and leaves the defined rows
task_told : (rows middle : List Row) (vars : List Pair) (body : List ℕ) (answer : AskAnswer) → AnswersTask rows (asks.Spool vars body) answer middle
    → failed_once (Some answer) ≡ 0 → (answer ≡ ask_answers.Spool (task_answer rows)) × (middle ≡ rows_behind rows vars body)
task_told rows middle vars body (ask_answers.Cache answer) h ok = absurd h
task_told rows middle vars body (ask_answers.Area answer) h ok = absurd h
task_told rows middle vars body (ask_answers.Spool (spools.Put number)) h ok =
    let Behind : ℕ → Type 0 = λ n. middle ≡ rows ++ record { number = n; bytes = row_bytes vars body } ∷ [] in
    rw (lt-ltb (last_number rows) most_number h.0) (ap (λ (n : ℕ). ask_answers.Spool (spools.Put n)) h.1, subst Behind h.1 h.2)
task_told rows middle vars body (ask_answers.Spool spools.NoNumber) h ok =
    rw (le-ltb (last_number rows) most_number (omega (arith, h.0))) (refl, h.1)
task_told rows middle vars body (ask_answers.Spool spools.Failed) h ok = absurd (omega (arith, ok))

-- an ask and others led lists and rows on: it has the defined answer, and the others led on from the defined lists and rows
led_first : (moment : ℕ) (lists now : Lists) (rows held : List Row) (ask : Ask) (answer : AskAnswer) (asked : List Asked)
    → LeadsBoth lists now rows held (answered_at moment (record { ask = ask; answer = answer } ∷ asked) ++ []) → failed_once (Some answer) ≡ 0
    → LeadsBehind moment lists now rows held ask answer asked
led_first moment lists now rows held (asks.Cache cache call) answer asked led ok = (led.0.0, (led.0.1, led.1))
led_first moment lists now rows held (asks.Area area op) answer asked led ok = (led.0.0, (led.0.1, led.1))
led_first moment lists now rows held (asks.Spool vars body) answer asked led ok =
    let Leading : List Row → Type 0 = λ from. LeadsRows from (of_spool (answered_at moment asked ++ [])) held in
    let task = task_told rows led.1.0 vars body answer led.1.1 ok in
    (task.0, (led.0, subst Leading task.1 led.1.2))

-- ---- the asks of one course

same_asked : (one other : Asked) → one.ask ≡ other.ask → one.answer ≡ other.answer → one ≡ other
same_asked one other asks answers = ap₂ (λ ask answer. record { ask = ask; answer = answer }) asks answers

-- one course over the same lists and rows: the same asks, the same end, and the same lists and rows behind them
same_course : {X : Type 0} → (moment : ℕ) (asked others : List Asked) (course : Course X) (lists middle last : Lists) (rows held kept : List Row) (reply answer : X)
    → Unfolds course asked (ended reply) → Unfolds course others (ended answer)
    → LeadsBoth lists middle rows held (answered_at moment asked ++ []) → LeadsBoth lists last rows kept (answered_at moment others ++ [])
    → failed_tasks (answered_at moment asked) ≡ 0 → failed_tasks (answered_at moment others) ≡ 0
    → (asked ≡ others) × (reply ≡ answer) × (middle ≡ last) × (held ≡ kept)
same_course moment [] [] course lists middle last rows held kept reply answer one other led more ok well = (refl, cc, led.0 ∙ sym more.0, led.1 ∙ sym more.1)
same_course moment [] (y ∷ others) (ended result) lists middle last rows held kept reply answer one other led more ok well = absurd other
same_course moment [] (y ∷ others) (asking ask next) lists middle last rows held kept reply answer one other led more ok well = absurd (cc)
same_course moment (x ∷ asked) [] (ended result) lists middle last rows held kept reply answer one other led more ok well = absurd one
same_course moment (x ∷ asked) [] (asking ask next) lists middle last rows held kept reply answer one other led more ok well = absurd (cc)
same_course moment (x ∷ asked) (y ∷ others) (ended result) lists middle last rows held kept reply answer one other led more ok well = absurd one
same_course moment (x ∷ asked) (y ∷ others) (asking ask next) lists middle last rows held kept reply answer one other led more ok well =
    let asks : y.ask ≡ x.ask = other.0 ∙ sym one.0 in
    let first = led_first moment lists middle rows held x.ask x.answer asked led (omega (arith, ok)) in
    let second = led_first moment lists last rows kept y.ask y.answer others more (omega (arith, well)) in
    let answers : y.answer ≡ x.answer = second.0 ∙ ap (answer_told lists rows moment) asks ∙ sym first.0 in
    let moved : Unfolds (next x.answer) others (ended answer) = subst (λ a. Unfolds (next a) others (ended answer)) answers other.1 in
    let behind : LeadsBoth (lists_after lists moment x.ask) last (rows_told rows x.ask) kept (answered_at moment others ++ []) =
    subst (λ a. LeadsBoth (lists_after lists moment a) last (rows_told rows a) kept (answered_at moment others ++ [])) asks second.1 in
    let rest = same_course moment asked others (next x.answer) (lists_after lists moment x.ask) middle last (rows_told rows x.ask) held kept reply answer
    one.1 moved first.1 behind (omega (arith, ok)) (omega (arith, well)) in
    (ap₂ (λ a l. a ∷ l) (same_asked x y (sym asks) (sym answers)) rest.0, rest.1, rest.2, rest.3)

-- ---- one turn

-- a turn of which the worker did not die was replied to
replied_to : (course : Course (List ℕ)) (moment : ℕ) (asked : List Asked) (end : TurnEnd) → EndsCourse course moment asked end → death_of end ≡ None
    → (reply : List ℕ) × (end ≡ replied_by reply) × Unfolds course asked (ended reply)
replied_to course moment asked (replied_by reply) ends alive = (reply, refl, ends)
replied_to course moment asked (died_in ask) ends alive = let died = subst (λ d. IsSome d) alive ends.1 in absurd (cc died)

-- no task of a turn failed
abbrev NoneFailed : Turn → Type 0
NoneFailed t = failed_tasks (answered_at t.packet.moment t.asked) ≡ 0

-- a packet over the same lists and rows: the same asks, the same end, and the same lists and rows behind it
same_turn : (site : Site) (lists middle last : Lists) (rows held kept : List Row) (t u : Turn) → IsTurn site t → IsTurn site u → death_of t.end ≡ None → death_of u.end ≡ None
    → LeadsBoth lists middle rows held (asks_of_turn t) → LeadsBoth lists last rows kept (asks_of_turn u) → NoneFailed t → NoneFailed u → t.packet ≡ u.packet
    → (t.asked ≡ u.asked) × (t.end ≡ u.end) × (middle ≡ last) × (held ≡ kept)
same_turn site lists middle last rows held kept t u one other alive living led more ok well packets =
    let Course_of : Exchange → Type 0 = λ x. EndsCourse (course_of_site site x) x.moment u.asked u.end in
    let first = replied_to (course_of_site site t.packet) t.packet.moment t.asked t.end one.course alive in
    let second = replied_to (course_of_site site t.packet) t.packet.moment u.asked u.end (subst Course_of (sym packets) other.course) living in
    let Led : TurnEnd → Type 0 = λ e. LeadsBoth lists middle rows held (asks_of_turn (record { packet = t.packet; asked = t.asked; end = e; writes = t.writes })) in
    let Moved : Exchange → Type 0 = λ x. LeadsBoth lists last rows kept (asks_of_turn (record { packet = x; asked = u.asked; end = u.end; writes = u.writes })) in
    let More : TurnEnd → Type 0 = λ e. LeadsBoth lists last rows kept (asks_of_turn (record { packet = t.packet; asked = u.asked; end = e; writes = u.writes })) in
    let same = same_course t.packet.moment t.asked u.asked (course_of_site site t.packet) lists middle last rows held kept first.0 second.0 first.2 second.2
    (subst Led first.1 led) (subst More second.1 (subst Moved (sym packets) more)) ok
    (subst (λ (x : Exchange). failed_tasks (answered_at x.moment u.asked) ≡ 0) (sym packets) well) in
    (same.0, first.1 ∙ ap replied_by same.1 ∙ sym second.1, same.2, same.3)

-- ---- turns

-- tasks led rows on, where the keeper told them before
told_on : (before now : Option (List Row)) (rows : List Row) (asked : List Asking) → LeadsTold before asked now → before ≡ Some rows
    → (held : List Row) × (now ≡ Some held) × LeadsRows rows asked held
told_on None now rows asked led told = absurd (cc)
told_on (Some first) None rows asked led told = absurd led
told_on (Some first) (Some held) rows asked led told =
    let same : first ≡ rows = cc in
    (held, refl, subst (λ (from : List Row). LeadsRows from asked held) same led)

pub same_replies : (site : Site) (turns others : List Turn) (start begin after last : Lists × Keeping) (rows : List Row) (allowed more left rest : Option (List ℕ))
    → start.0 ≡ begin.0 → start.1.rows ≡ Some rows → begin.1.rows ≡ Some rows
    → TurnsLead (both_lead list_leads) site start allowed turns after left → TurnsLead (both_lead list_leads) site begin more others last rest
    → AllByRecursion (λ (t : Turn). death_of t.end ≡ None) turns → AllByRecursion (λ (t : Turn). death_of t.end ≡ None) others
    → AllByRecursion (λ (t : Turn). failed_tasks (answered_at t.packet.moment t.asked) ≡ 0) turns
    → AllByRecursion (λ (t : Turn). failed_tasks (answered_at t.packet.moment t.asked) ≡ 0) others
    → map (λ (t : Turn). t.packet) turns ≡ map (λ (t : Turn). t.packet) others
    → (map (λ (t : Turn). t.asked) turns ≡ map (λ (t : Turn). t.asked) others) × (frames_of turns ≡ frames_of others) × (after.0 ≡ last.0) × (after.1.rows ≡ last.1.rows)
same_replies site [] [] start begin after last rows allowed more left rest same told again one other alive living ok well packets =
    let List_of : Lists × Keeping → Lists = λ s. s.0 in
    let Rows_of : Lists × Keeping → Option (List Row) = λ s. s.1.rows in
    (refl, refl, ap List_of one.0 ∙ same ∙ sym (ap List_of other.0), ap Rows_of one.0 ∙ told ∙ sym again ∙ sym (ap Rows_of other.0))
same_replies site [] (u ∷ others) start begin after last rows allowed more left rest same told again one other alive living ok well packets = absurd (cc)
same_replies site (t ∷ turns) [] start begin after last rows allowed more left rest same told again one other alive living ok well packets = absurd (cc)
same_replies site (t ∷ turns) (u ∷ others) start begin after last rows allowed more left rest same told again one other alive living ok well packets =
    let packet : t.packet ≡ u.packet = cc in
    let behind : map (λ (x : Turn). x.packet) turns ≡ map (λ (x : Turn). x.packet) others = cc in
    let first = told_on start.1.rows one.1.0.1.rows rows (of_spool (asks_of_turn t)) one.1.2.1.rows told in
    let second = told_on begin.1.rows other.1.0.1.rows rows (of_spool (asks_of_turn u)) other.1.2.1.rows again in
    let Leading : Lists → Type 0 = λ from. LeadsLists from (of_desk (asks_of_turn u)) other.1.0.0 in
    let turn = same_turn site start.0 one.1.0.0 other.1.0.0 rows first.0 second.0 t u one.0 other.0 alive.0 living.0
    (one.1.2.0, first.2) (subst Leading (sym same) other.1.2.0, second.2) ok.0 well.0 packet in
    let later = same_replies site turns others one.1.0 other.1.0 after last first.0 one.1.1 other.1.1 left rest turn.2 first.1 (second.1 ∙ ap Some (sym turn.3))
    one.1.4 other.1.4 alive.1 living.1 ok.1 well.1 behind in
    (ap₂ (λ a l. a ∷ l) turn.0 later.0, ap₂ (λ e l. frame_of_end e ++ l) turn.1 later.1, later.2, later.3)
