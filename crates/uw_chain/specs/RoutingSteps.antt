-- What the parts of routing do.
use Rattle.std.specs.Prelude.{◌≡◌, ℕ, Bool, true, false, List, [], ◌∷◌, ◌++◌, Option, None, Some, Result, Ok, Err, length, ◌==◌}
use Rattle.std.specs.Str.{bytes_eq}
use Rattle.uw_base.specs.declared.bytes.Memory.{Memory}
use Rattle.uw_base.specs.declared.variables.Pair.{Pair}
use Rattle.uw_keeper.specs.Keeping.{Keeping}
use Rattle.uw_model.specs.declared.asks.Ask.{Ask}
use Rattle.uw_model.specs.declared.asks.Ask.TheVariants as spool_asks
use Rattle.uw_model.specs.declared.asks.AskAnswer.{AskAnswer}
use Rattle.uw_model.specs.declared.asks.AskAnswer.TheVariants as ask_answers
use Rattle.uw_model.specs.declared.asks.SpoolAnswer.{SpoolAnswer}
use Rattle.uw_model.specs.declared.desk.DeskFault.{DeskFault}
use Rattle.uw_model.specs.declared.desk.DeskFault.TheVariants as desks
use Rattle.uw_rules.specs.declared.compiled.Condition.{Condition}
use Rattle.uw_rules.specs.declared.compiled.Condition.TheVariants as asks
use Rattle.uw_chain.specs.declared.faults.ChainEnd.{ChainEnd}
use Rattle.uw_chain.specs.declared.faults.ChainEnd.TheVariants as chains
use Rattle.uw_chain.specs.declared.verdict.Verdict.{Verdict}
use Rattle.uw_chain.specs.declared.verdict.Verdict.TheVariants as verdicts
use Rattle.uw_chain.specs.declared.outcome.Outcome.{Outcome}
use Rattle.uw_chain.specs.declared.outcome.Outcome.TheVariants as outcomes
use Rattle.uw_chain.specs.declared.request.Request.{Request}
use Rattle.uw_chain.specs.declared.judging.Comparison.{Comparison}
use Rattle.uw_chain.specs.declared.judging.Comparison.TheVariants as comparisons
use Rattle.uw_chain.specs.declared.wanting.Want.{Want}
use Rattle.uw_rules.specs.declared.compiled.Action.{Action}
use Rattle.uw_rules.specs.declared.compiled.Action.TheVariants as does
use Rattle.uw_model.specs.Asks.{Asking, answered}
use Rattle.uw_model.specs.declared.asks.Asked.{Asked}
use Rattle.uw_chain.specs.Courses.{Course, asking, ended}
use Rattle.uw_chain.specs.Runs.{Follows, Stops}
use Rattle.uw_chain.specs.declared.outcome.Ending.TheVariants as endings
use Rattle.uw_chain.specs.Tests.{about_text, asking_cache, comparing, filled_within, has_back, has_front, has_within, verdict_of}
use Rattle.uw_chain.specs.Actions.{put_outcome, value_outcome, with_answer}
use Rattle.uw_chain.specs.Spooling.{Keeps}

-- ---- courses

-- a course was followed to its end by asks that were put at the end of a list, or not to its end
abbrev pub RunsTo : {X : Type 0} → (List Asking → ℕ → Type 0) → Option (List ℕ) → Option (List ℕ) → ℕ → Course X → List Asked → List Asked → Result X ChainEnd → Type 0
RunsTo led before now moment course list after (Ok result) = (made : List Asked) × (after ≡ list ++ made) × Follows led before now moment course made result
RunsTo led before now moment course list after (Err end) = (made : List Asked) × (after ≡ list ++ made) × Stops led before now moment course made end

-- the end of a chain that a desk's fault is
abbrev pub end_of_fault : DeskFault → ChainEnd
end_of_fault (desks.Died whole) = chains.Died whole
end_of_fault desks.Memory = chains.Memory

-- ---- conditions

-- two texts, unless one is longer than its limit
abbrev pub both_within : Option (List ℕ) → Option (List ℕ) → Option (List ℕ × List ℕ)
both_within None other = None
both_within (Some text) None = None
both_within (Some text) (Some other) = Some (text, other)

-- what a comparison says of two texts
abbrev pub compares : Comparison → List ℕ → List ℕ → Bool
compares comparisons.Equal = bytes_eq
compares comparisons.Front = has_front
compares comparisons.Back = has_back
compares comparisons.Within = has_within

-- the condition asks a cache
abbrev pub is_ask : Condition → Bool
is_ask (asks.InCache key cache) = true
is_ask _ = false

-- the condition is about a pattern
abbrev pub is_regexp : Condition → Bool
is_regexp (asks.Regexp text pattern) = true
is_regexp _ = false

-- the course of a compiled condition, unless it is about a pattern
abbrev pub course_of_compiled : List Pair → ℕ → Condition → Course Verdict
course_of_compiled vars moment (asks.Equal text other) = comparing (filled_within text vars [] moment) (filled_within other vars [] moment) bytes_eq
course_of_compiled vars moment (asks.StartsWith text other) = comparing (filled_within text vars [] moment) (filled_within other vars [] moment) has_front
course_of_compiled vars moment (asks.EndsWith text other) = comparing (filled_within text vars [] moment) (filled_within other vars [] moment) has_back
course_of_compiled vars moment (asks.Contains text other) = comparing (filled_within text vars [] moment) (filled_within other vars [] moment) has_within
course_of_compiled vars moment (asks.Empty text) = about_text (filled_within text vars [] moment) (λ one. verdict_of (length one == 0))
course_of_compiled vars moment (asks.Regexp text pattern) = ended verdicts.Missed
course_of_compiled vars moment (asks.InCache key cache) = asking_cache (filled_within key vars [] moment) cache

-- ---- tasks

-- a task was put aside or was not, and its ask stands with its answer at the end of a list; or there was no memory, and the list and the keeper are as they were
abbrev pub PutsAside : Keeping → Keeping → List Pair → List ℕ → List Asked → List Asked → Result (Unit {0}) Memory → Type 0
PutsAside before now vars body list after (Ok done) =
    (answer : SpoolAnswer) × (after ≡ list ++ record { ask = spool_asks.Spool vars body; answer = ask_answers.Spool answer } ∷ [])
    × Keeps before now (record { moment = 0; ask = spool_asks.Spool vars body; end = answered (ask_answers.Spool answer) } ∷ [])
PutsAside before now vars body list after (Err memory) = (after ≡ list) × (now ≡ before)

-- ---- actions

-- the action asks something
abbrev pub is_asking : Action → Bool
is_asking (does.Cache key content_type cache) = true
is_asking (does.CacheVar key cache var) = true
is_asking (does.CacheSet write) = true
is_asking (does.CacheUpdate write) = true
is_asking (does.CacheDel key cache var) = true
is_asking (does.CacheMath op key amount expires cache var) = true
is_asking (does.Area area step var) = true
is_asking (does.AreaWrite area at value var) = true
is_asking (does.Spool pairs) = true
is_asking _ = false

-- the action asks a cache for a key alone
abbrev pub has_key : Action → Bool
has_key (does.CacheVar key cache var) = true
has_key (does.CacheDel key cache var) = true
has_key (does.CacheMath op key amount expires cache var) = true
has_key _ = false

-- the template of the key that such an action asks for
abbrev pub key_in : Action → List ℕ
key_in (does.CacheVar key cache var) = key
key_in (does.CacheDel key cache var) = key
key_in (does.CacheMath op key amount expires cache var) = key
key_in _ = []

-- the action writes an entry of a cache
abbrev pub is_write : Action → Bool
is_write (does.CacheSet write) = true
is_write (does.CacheUpdate write) = true
is_write _ = false

-- pairs behind others, unless they are none
abbrev pub behind_pairs : List Pair → Option (List Pair) → Option (List Pair)
behind_pairs front None = None
behind_pairs front (Some pairs) = Some (front ++ pairs)

-- the variable that takes the answer of an action
abbrev pub var_in : Action → Option (List ℕ)
var_in (does.CacheVar key cache var) = Some var
var_in (does.CacheSet write) = write.var
var_in (does.CacheUpdate write) = write.var
var_in (does.CacheDel key cache var) = var
var_in (does.CacheMath op key amount expires cache var) = var
var_in (does.Area area step var) = var
var_in (does.AreaWrite area at value var) = var
var_in _ = None

-- what is done with the answer of an action
abbrev pub used_by : Action → List ℕ → Request → AskAnswer → Outcome
used_by (does.Cache key content_type cache) text request answer = value_outcome text request answer
used_by (does.Spool pairs) text request answer = put_outcome request answer
used_by action text request answer = outcomes.GoesOn (with_answer (var_in action) request answer)

-- the course of an action that asks, if its texts are within their limit, and a task has a block
abbrev pub course_of_want : Request → Action → Option Want → Course Outcome
course_of_want request action None = ended (outcomes.Ends endings.Failing request)
course_of_want request action (Some want) = asking want.ask (λ answer. ended (used_by action want.content_type request answer))
