-- A request, or a task, on its way through the rules ("InternalRouting", "Spooler").
use Rattle.std.specs.Prelude.{ℕ, ℤ, ◌+◌, nat_lt, false, if◌then◌else◌, List, [], ◌∷◌, Option, None, Some}
use Rattle.uw_base.specs.declared.variables.Pair.{Pair}
use Rattle.uw_model.specs.declared.asks.AskAnswer.{AskAnswer}
use Rattle.uw_model.specs.declared.asks.Asked.{Asked}
use Rattle.uw_rules.specs.declared.grammar.ActionName.{ActionName}
use Rattle.uw_rules.specs.declared.grammar.Table.{Table}
use Rattle.uw_rules.specs.Grammar.{ArgumentShape, action_of}
use Rattle.uw_rules.specs.Compiled.{action_meant}
use Rattle.uw_rules.specs.WrittenRules.{Phrase, WrittenRule, unparted, label, rule}
use Rattle.uw_chain.specs.declared.request.Request.{Request}
use Rattle.uw_chain.specs.declared.outcome.Finish.{Finish}
use Rattle.uw_chain.specs.declared.outcome.Ending.TheVariants as endings
use Rattle.uw_chain.specs.declared.outcome.RouteEnd.{RouteEnd}
use Rattle.uw_chain.specs.declared.outcome.Outcome.{Outcome}
use Rattle.uw_chain.specs.declared.outcome.Outcome.TheVariants as outcomes
use Rattle.uw_chain.specs.declared.verdict.Verdict.{Verdict}
use Rattle.uw_chain.specs.declared.verdict.Verdict.TheVariants as verdicts
use Rattle.uw_chain.specs.Courses.{Course, Next, Unfolds, and_then, ended, next_after}
use Rattle.uw_chain.specs.Endings.{end_of_request, status_of_task}
use Rattle.uw_chain.specs.Tests.{course_of_test}
use Rattle.uw_chain.specs.Actions.{course_of_action}

-- how rules as they are written are meant: the caches have these names, and the labels stand at these places
pub record Naming : Type 0 where
  pub names : List (List ℕ)
  pub labels : List ℕ → Option ℕ

-- the course of an action by its row in the grammar; one that is not there does nothing
abbrev pub course_of_phrase : Naming → ℕ → List (List ℕ) → Request → Option (ActionName × ArgumentShape) → Option (List ℕ) → Course Outcome
course_of_phrase naming moment captures request None argument = ended (outcomes.GoesOn request)
course_of_phrase naming moment captures request (Some known) argument =
    course_of_action moment captures request (action_meant naming.names naming.labels known.0 argument)

-- behind its test, a rule acts, or it is passed over, or the request ends
abbrev pub course_of_verdict : Naming → ℕ → Request → Table → Phrase → Verdict → Course Outcome
course_of_verdict naming moment request table action (verdicts.Met captures) =
    course_of_phrase naming moment captures request (action_of table action.name) action.argument
course_of_verdict naming moment request table action verdicts.Missed = ended (outcomes.GoesOn request)
course_of_verdict naming moment request table action verdicts.Overlong = ended (outcomes.Ends endings.Failing request)

-- the course of a rule; a label does nothing
unfoldable pub course_of_rule : Naming → ℕ → Request → WrittenRule → Course Outcome
course_of_rule naming moment request unparted = ended (outcomes.GoesOn request)
course_of_rule naming moment request (label text) = ended (outcomes.GoesOn request)
course_of_rule naming moment request (rule table test action) =
    and_then (course_of_test naming.names request.vars moment test) (course_of_verdict naming moment request table action)

-- behind a rule: the rules after it, which may be passed over up to one of a number
abbrev pub after_rule : (ℕ → Request → Course Finish) → Outcome → Course Finish
after_rule rest (outcomes.GoesOn request) = rest 0 request
after_rule rest (outcomes.Jumps number request) = rest number request
after_rule rest (outcomes.Ends ending request) = ended (record { ending = ending; request = request })

-- the course of the rules from a number on, of which those before another number are passed over
abbrev pub course_of_rules : Naming → ℕ → ℕ → ℕ → List WrittenRule → Request → Course Finish
course_of_rules naming moment here until [] request = ended (record { ending = endings.OfTable; request = request })
course_of_rules naming moment here until (first ∷ rules) request =
    if nat_lt here until then course_of_rules naming moment (here + 1) until rules request
    else and_then (course_of_rule naming moment request first) (after_rule (λ number changed. course_of_rules naming moment (here + 1) number rules changed))

-- a request before the first rule
abbrev pub request_of : List Pair → Request
request_of vars = record { vars = vars; headers = []; body = []; sent = false }

-- the course of a request through a table of rules
abbrev pub course_of_request : Naming → List WrittenRule → ℕ → List Pair → Course RouteEnd
course_of_request naming rules moment vars =
    and_then (course_of_rules naming moment 0 0 rules (request_of vars)) (λ (finish : Finish). ended (end_of_request finish.ending finish.request))

-- the course of a task through a table of rules, up to its status
abbrev pub course_of_task : Naming → List WrittenRule → ℕ → List Pair → Course ℤ
course_of_task naming rules moment vars =
    and_then (course_of_rules naming moment 0 0 rules (request_of vars)) (λ (finish : Finish). ended (status_of_task finish.ending))

-- what comes next of a request after these answers
abbrev pub next_of_rules : Naming → List WrittenRule → ℕ → List Pair → List AskAnswer → Next RouteEnd
next_of_rules naming rules moment vars answers = next_after (course_of_request naming rules moment vars) answers

-- a whole run of the rules: these are its asks, each the next one after the answers before it, and after all of them it ends so
abbrev pub RoutingRun : Naming → List WrittenRule → ℕ → List Pair → List Asked → RouteEnd → Type 0
RoutingRun naming rules moment vars asked ending = Unfolds (course_of_request naming rules moment vars) asked (ended ending)

-- what comes next of a task after these answers
abbrev pub task_next : Naming → List WrittenRule → ℕ → List Pair → List AskAnswer → Next ℤ
task_next naming rules moment vars answers = next_after (course_of_task naming rules moment vars) answers

-- a whole run of the rules of a task: these are its asks, each the next one after the answers before it, and after all of them it has this status
abbrev pub TaskRun : Naming → List WrittenRule → ℕ → List Pair → List Asked → ℤ → Type 0
TaskRun naming rules moment vars asked status = Unfolds (course_of_task naming rules moment vars) asked (ended status)
