-- How the code follows a course: the asks that it made, and why it stopped (own rule).
use Rattle.std.specs.Prelude.{◌≡◌, ◌⊎◌, ℕ, Bool, true, false, List, [], ◌∷◌, ◌++◌, Option, Result, Ok, Err}
use Rattle.uw_outside.specs.Lives.{IsSpent}
use Rattle.uw_base.specs.declared.variables.Pair.{Pair}
use Rattle.uw_model.specs.declared.asks.Ask.{Ask}
use Rattle.uw_model.specs.declared.asks.AskAnswer.{AskAnswer}
use Rattle.uw_model.specs.declared.asks.Asked.{Asked}
use Rattle.uw_model.specs.Asks.{Asking, answered, died_absent, died_whole, no_memory, IsUnanswered, Leads, Led, is_of_desk}
use Rattle.uw_rules.specs.WrittenRules.{WrittenRule}
use Rattle.uw_chain.specs.declared.faults.ChainEnd.{ChainEnd}
use Rattle.uw_chain.specs.declared.faults.ChainEnd.TheVariants as chains
use Rattle.uw_chain.specs.declared.faults.ChainFault.{ChainFault}
use Rattle.uw_chain.specs.declared.faults.Routed.{Routed}
use Rattle.uw_chain.specs.declared.faults.TaskEnd.{TaskEnd}
use Rattle.uw_chain.specs.declared.outcome.RouteEnd.{RouteEnd}
use Rattle.uw_chain.specs.Courses.{Course, Unfolds, asking, ended}
use Rattle.uw_chain.specs.Routing.{Naming, course_of_request, course_of_task}

-- a course was followed to its end by these asks, which led the desk on
abbrev pub Follows : {X : Type 0} → (List Asking → ℕ → Type 0) → Option (List ℕ) → Option (List ℕ) → ℕ → Course X → List Asked → X → Type 0
Follows led before now moment course asked result = Unfolds course asked (ended result) × Led led before now moment asked []

-- these asks of a course led the desk on, and the next one after them ended so, without an answer that anybody was told
abbrev pub BreaksOff : {X : Type 0} → (List Asking → ℕ → Type 0) → Option (List ℕ) → Option (List ℕ) → ℕ → Course X → List Asked → (Ask → Asking) → Type 0
BreaksOff {X} led before now moment course asked last =
    (ask : Ask) × (more : AskAnswer → Course X) × Unfolds course asked (asking ask more) × Led led before now moment asked (last ask ∷ [])

-- the next ask after them, in which the worker died, was one of a desk
abbrev pub DiesIn : {X : Type 0} → (List Asking → ℕ → Type 0) → Option (List ℕ) → Option (List ℕ) → ℕ → Course X → List Asked → (Ask → Asking) → Type 0
DiesIn {X} led before now moment course asked last =
    (ask : Ask) × (more : AskAnswer → Course X) × Unfolds course asked (asking ask more) × Led led before now moment asked (last ask ∷ []) × (is_of_desk ask ≡ true)

-- why a course was not followed to its end, behind these asks: the worker died in the next one, which a desk was asked, and whose answer nobody was told where it
-- counts; or there was no memory, for the next ask or for something else
abbrev pub Stops : {X : Type 0} → (List Asking → ℕ → Type 0) → Option (List ℕ) → Option (List ℕ) → ℕ → Course X → List Asked → ChainEnd → Type 0
Stops led before now moment course asked (chains.Died true) =
    IsSpent now × ((answer : AskAnswer) × DiesIn led before now moment course asked (λ ask. record { moment = moment; ask = ask; end = died_whole answer }))
Stops led before now moment course asked (chains.Died false) =
    IsSpent now × DiesIn led before now moment course asked (λ ask. record { moment = moment; ask = ask; end = died_absent })
Stops {X} led before now moment course asked chains.Memory =
    ((rest : Course X) × Unfolds course asked rest × Led led before now moment asked [])
    ⊎ BreaksOff led before now moment course asked (λ ask. record { moment = moment; ask = ask; end = no_memory })

-- an ask was answered, and stands with its answer at the end of a list; or why it was not: a death is one of a desk's ask
abbrev pub AsksOnce : {T : Type 0} → (List Asking → ℕ → Type 0) → Option (List ℕ) → Option (List ℕ) → ℕ → Ask → List Asked → List Asked → Result T ChainEnd → Type 0
AsksOnce led before now moment ask list after (Ok done) =
    (answer : AskAnswer) × (after ≡ list ++ record { ask = ask; answer = answer } ∷ []) × Leads led before now moment ask (answered answer)
AsksOnce led before now moment ask list after (Err (chains.Died true)) =
    (after ≡ list) × IsSpent now × ((answer : AskAnswer) × Leads led before now moment ask (died_whole answer)) × (is_of_desk ask ≡ true)
AsksOnce led before now moment ask list after (Err (chains.Died false)) = (after ≡ list) × IsSpent now × Leads led before now moment ask died_absent × (is_of_desk ask ≡ true)
AsksOnce led before now moment ask list after (Err chains.Memory) = (after ≡ list) × IsUnanswered led before now moment ask

-- the worker died
abbrev pub has_died_following : {X : Type 0} → Result X ChainEnd → Bool
has_died_following (Ok result) = false
has_died_following (Err (chains.Died whole)) = true
has_died_following (Err chains.Memory) = false

-- a request was routed: its asks and its end are a run of the rules, and the asks led the desk on; or why it was not
abbrev pub Routes : (List Asking → ℕ → Type 0) → Option (List ℕ) → Option (List ℕ) → Naming → List WrittenRule → ℕ → List Pair → Result Routed ChainFault → Type 0
Routes led before now naming rules moment vars (Ok routed) =
    Follows led before now moment (course_of_request naming rules moment vars) routed.asks (record { reply = routed.reply; head_only = routed.head_only })
Routes led before now naming rules moment vars (Err fault) = Stops led before now moment (course_of_request naming rules moment vars) fault.done fault.end

-- the worker died
abbrev pub is_death : ChainEnd → Bool
is_death (chains.Died whole) = true
is_death chains.Memory = false

-- the worker died in a request
abbrev pub has_died_routing : Result Routed ChainFault → Bool
has_died_routing (Ok routed) = false
has_died_routing (Err fault) = is_death fault.end

-- a task was run: its asks and its status are a run of the rules, and the asks led the desk and the keeper on; or why it was not
abbrev pub RunsTask : (List Asking → ℕ → Type 0) → Option (List ℕ) → Option (List ℕ) → Naming → List WrittenRule → ℕ → List Pair → Result TaskEnd ChainFault → Type 0
RunsTask led before now naming rules moment vars (Ok end) = Follows led before now moment (course_of_task naming rules moment vars) end.asks end.status
RunsTask led before now naming rules moment vars (Err fault) = Stops led before now moment (course_of_task naming rules moment vars) fault.done fault.end

-- the worker died in a task
abbrev pub has_died_in_task : Result TaskEnd ChainFault → Bool
has_died_in_task (Ok end) = false
has_died_in_task (Err fault) = is_death fault.end
