-- The test of a rule, against its course.
use Rattle.std.proofs.Common.{◌≡◌, refl, sym, ap, ap₂, ◌∙◌, subst, ℕ, Bool, List, [], Option, None, Some, Result, Ok, Err}
use Rattle.std.proofs.lemmas.Bool.{true≢false}
use Rattle.std.specs.Option.{IsSomeAnd}
use Rattle.std.specs.Result.{IsErrAnd}
use Rattle.uw_base.specs.Variables.{value_of}
use Rattle.regex.specs.declared.bytes.regex.Regex.{Regex}
use Rattle.uw_base.specs.declared.variables.Pair.{Pair}
use Rattle.uw_model.specs.declared.asks.Asked.{Asked}
use Rattle.uw_model.specs.declared.calls.Call.TheVariants as calls
use Rattle.uw_model.specs.Asks.{Asking}
use Rattle.uw_rules.specs.declared.grammar.ConditionName.{ConditionName}
use Rattle.uw_rules.specs.declared.grammar.ConditionName.TheVariants as conditions
use Rattle.uw_rules.specs.declared.compiled.Condition.{Condition}
use Rattle.uw_rules.specs.declared.compiled.Condition.TheVariants as asks
use Rattle.uw_rules.specs.Arguments.{second_half}
use Rattle.uw_rules.specs.Compiled.{IsConditionOf, IsTestOf, or_empty}
use Rattle.uw_rules.specs.Grammar.{ArgumentShape, condition_of, subject_variable}
use Rattle.uw_rules.specs.Patterns.{IsPatternOf}
use Rattle.uw_rules.specs.WrittenRules.{WrittenTest, always, holding, matching}
use Rattle.uw_rules.specs.declared.compiled.Test.TheVariants as tests
use Rattle.uw_rules.specs.declared.grammar.Subject.{Subject}
use Rattle.uw_chain.specs.declared.faults.ChainEnd.{ChainEnd}
use Rattle.uw_chain.specs.declared.verdict.Verdict.{Verdict}
use Rattle.uw_chain.specs.declared.verdict.Verdict.TheVariants as verdicts
use Rattle.uw_chain.specs.Courses.{ended, asking}
use Rattle.uw_chain.specs.Actions.{cache_ask}
use Rattle.uw_chain.specs.RoutingSteps.{RunsTo, course_of_compiled, is_regexp}
use Rattle.uw_chain.specs.Runs.{AsksOnce}
use Rattle.uw_chain.specs.Tests.{about_text, asking_cache, course_of_condition, course_of_known, course_of_test, filled_within, is_flag_set, verdict_of, verdict_of_pattern, verdict_when}
use Rattle.uw_chain.proofs.CourseLemmas.{RunsTo-fault, RunsTo-same, RunsTo-then_ended, RunsTo-unanswered}

-- an error that is a given one
pub error_is : {X : Type 0} → (result : Result X ChainEnd) (end : ChainEnd) → IsErrAnd result (λ other. other ≡ end) → result ≡ Err end
error_is (Ok done) end h = absurd h
error_is (Err other) end h = ap Err h

-- ---- a condition that asks a cache

-- its course where its text is longer than the limit
pub cache_overlong : (filled field : Option (List ℕ)) (cache : Option ℕ) → field ≡ filled → field ≡ None → asking_cache filled cache ≡ ended verdicts.Overlong
cache_overlong filled field cache same none = ap (λ (k : Option (List ℕ)). asking_cache k cache) (sym same ∙ none)

-- its course where its text is within the limit
asks_cache : (filled field : Option (List ℕ)) (key : List ℕ) (cache : Option ℕ) → field ≡ filled → field ≡ Some key
    → asking (cache_ask cache (calls.Exists key)) (λ answer. ended (verdict_of (is_flag_set answer))) ≡ asking_cache filled cache
asks_cache filled field key cache same some = ap (λ (k : Option (List ℕ)). asking_cache k cache) (sym some ∙ same)

-- the ask was not answered
pub cache_unanswered : (T : Type 0) (led : List Asking → ℕ → Type 0) (before now : Option (List ℕ)) (moment : ℕ) (filled field : Option (List ℕ)) (key : List ℕ)
    (cache : Option ℕ) (list after : List Asked) (end : ChainEnd) (result : Result Verdict ChainEnd) → field ≡ filled → field ≡ Some key
    → AsksOnce {T = T} led before now moment (cache_ask cache (calls.Exists key)) list after (Err end) → IsErrAnd result (λ other. other ≡ end)
    → RunsTo led before now moment (asking_cache filled cache) list after result
cache_unanswered T led before now moment filled field key cache list after end result same some h is =
    let P : Result Verdict ChainEnd → Type 0 = λ r. RunsTo led before now moment (asking_cache filled cache) list after r in
    subst P (sym (error_is result end is))
    (RunsTo-same led before now moment _ (asking_cache filled cache) list after (Err end) (asks_cache filled field key cache same some)
    (RunsTo-unanswered T led before now moment (cache_ask cache (calls.Exists key)) list after (λ answer. ended (verdict_of (is_flag_set answer))) end h))

-- ---- a compiled condition, and the one that is written

-- a condition about a pattern has the course of the written one
pub regexp_course : (names : List (List ℕ)) (vars : List Pair) (moment : ℕ) (captures : List (List ℕ)) (text : List ℕ) (pattern : Regex) (name : ConditionName)
    (argument : Option (List ℕ)) (verdict : Verdict) → captures ≡ [] → IsConditionOf names (asks.Regexp text pattern) name argument
    → ((written : List ℕ) → IsPatternOf pattern written → about_text (filled_within text vars captures moment) (verdict_of_pattern written) ≡ ended verdict)
    → course_of_condition names vars moment name argument ≡ ended verdict
regexp_course names vars moment captures text pattern conditions.Equal argument verdict none h found = absurd (true≢false (ap is_regexp h))
regexp_course names vars moment captures text pattern conditions.StartsWith argument verdict none h found = absurd (true≢false (ap is_regexp h))
regexp_course names vars moment captures text pattern conditions.EndsWith argument verdict none h found = absurd (true≢false (ap is_regexp h))
regexp_course names vars moment captures text pattern conditions.Contains argument verdict none h found = absurd (true≢false (ap is_regexp h))
regexp_course names vars moment captures text pattern conditions.Empty argument verdict none h found = absurd (true≢false (ap is_regexp h))
regexp_course names vars moment captures text pattern conditions.InCache argument verdict none h found = absurd (true≢false (ap is_regexp h))
regexp_course names vars moment captures text pattern conditions.Regexp argument verdict none h found =
    let written = or_empty (second_half 59 argument) in
    ap₂ (λ (t : List ℕ) (c : List (List ℕ)). about_text (filled_within t vars c moment) (verdict_of_pattern written)) (sym h.0) (sym none) ∙ found written h.1

-- no other condition is the one that is written for a pattern
not_regexp : (names : List (List ℕ)) (condition : Condition) (argument : Option (List ℕ))
    → ((text : List ℕ) (pattern : Regex) → condition ≡ asks.Regexp text pattern → ⊥)
    → IsConditionOf names condition conditions.Regexp argument → ⊥
not_regexp names (asks.Equal text other) argument plain h = h
not_regexp names (asks.StartsWith text other) argument plain h = h
not_regexp names (asks.EndsWith text other) argument plain h = h
not_regexp names (asks.Contains text other) argument plain h = h
not_regexp names (asks.Empty text) argument plain h = h
not_regexp names (asks.InCache key cache) argument plain h = h
not_regexp names (asks.Regexp text pattern) argument plain h = plain text pattern refl

compiled_course : (names : List (List ℕ)) (vars : List Pair) (moment : ℕ) (condition : Condition) (name : ConditionName) (argument : Option (List ℕ))
    → ((text : List ℕ) (pattern : Regex) → condition ≡ asks.Regexp text pattern → ⊥) → IsConditionOf names condition name argument
    → course_of_compiled vars moment condition ≡ course_of_condition names vars moment name argument
compiled_course names vars moment condition conditions.Equal argument plain h = ap (course_of_compiled vars moment) h
compiled_course names vars moment condition conditions.StartsWith argument plain h = ap (course_of_compiled vars moment) h
compiled_course names vars moment condition conditions.EndsWith argument plain h = ap (course_of_compiled vars moment) h
compiled_course names vars moment condition conditions.Contains argument plain h = ap (course_of_compiled vars moment) h
compiled_course names vars moment condition conditions.Empty argument plain h = ap (course_of_compiled vars moment) h
compiled_course names vars moment condition conditions.InCache argument plain h = ap (course_of_compiled vars moment) h
compiled_course names vars moment condition conditions.Regexp argument plain h = absurd (not_regexp names condition argument plain h)

-- each other condition has the course of the written one
pub compiled_judged : (names : List (List ℕ)) (vars : List Pair) (moment : ℕ) (condition : Condition) (name : ConditionName) (argument : Option (List ℕ))
    (verdict : Verdict) → ((text : List ℕ) (pattern : Regex) → condition ≡ asks.Regexp text pattern → ⊥) → IsConditionOf names condition name argument
    → course_of_compiled vars moment condition ≡ ended verdict → course_of_condition names vars moment name argument ≡ ended verdict
compiled_judged names vars moment condition name argument verdict plain is judged =
    sym (compiled_course names vars moment condition name argument plain is) ∙ judged

-- ---- a compiled test, and the one that is written

pub always_course : (names : List (List ℕ)) (vars : List Pair) (moment : ℕ) (written : WrittenTest) → IsTestOf names tests.Always written
    → course_of_test names vars moment written ≡ ended (verdicts.Met [])
always_course names vars moment always is = refl
always_course names vars moment (matching subject text) is = absurd is
always_course names vars moment (holding negated phrase) is = absurd is

-- the subject has this value
pub matching_course : (names : List (List ℕ)) (vars : List Pair) (moment : ℕ) (subject : Subject) (pattern : Regex) (key value : List ℕ)
    (verdict : Verdict) (written : WrittenTest) → IsTestOf names (tests.Matches subject pattern) written → key ≡ subject_variable subject → value ≡ value_of vars key
    → ((text : List ℕ) → IsPatternOf pattern text → verdict ≡ verdict_of_pattern text value) → course_of_test names vars moment written ≡ ended verdict
matching_course names vars moment subject pattern key value verdict always is named at found = absurd is
matching_course names vars moment subject pattern key value verdict (holding negated phrase) is named at found = absurd is
matching_course names vars moment subject pattern key value verdict (matching written text) is named at found =
    ap (λ (s : Subject). ended (verdict_of_pattern text (value_of vars (subject_variable s)))) (sym is.0)
    ∙ ap (λ (v : List ℕ). ended (verdict_of_pattern text v)) (sym (at ∙ ap (value_of vars) named)) ∙ ap ended (sym (found text is.1))

-- how the course of a condition was followed, for each that it may be the compiled one of
abbrev pub RunsAsConditions : (List Asking → ℕ → Type 0) → Option (List ℕ) → Option (List ℕ) → ℕ → List Pair → Condition → List Asked → List Asked → Result Verdict ChainEnd → Type 0
RunsAsConditions led before now moment vars condition list after result =
    (names : List (List ℕ)) (name : ConditionName) (argument : Option (List ℕ)) → IsConditionOf names condition name argument
    → RunsTo led before now moment (course_of_condition names vars moment name argument) list after result

known_runs : (led : List Asking → ℕ → Type 0) (before now : Option (List ℕ)) (moment : ℕ) (names : List (List ℕ)) (vars : List Pair) (condition : Condition)
    (known : Option (ConditionName × ArgumentShape)) (argument : Option (List ℕ)) (list after : List Asked) (result : Result Verdict ChainEnd)
    → IsSomeAnd known (λ row. IsConditionOf names condition row.0 argument) → RunsAsConditions led before now moment vars condition list after result
    → RunsTo led before now moment (course_of_known names vars moment known argument) list after result
known_runs led before now moment names vars condition None argument list after result is runs = absurd is
known_runs led before now moment names vars condition (Some row) argument list after result is runs = runs names row.0 argument is

-- its condition was judged
pub holding_judged : (led : List Asking → ℕ → Type 0) (before now : Option (List ℕ)) (moment : ℕ) (names : List (List ℕ)) (vars : List Pair) (negated : Bool)
    (condition : Condition) (written : WrittenTest) (list after : List Asked) (verdict said : Verdict) → IsTestOf names (tests.Holds negated condition) written
    → RunsAsConditions led before now moment vars condition list after (Ok verdict) → said ≡ verdict_when negated verdict
    → RunsTo led before now moment (course_of_test names vars moment written) list after (Ok said)
holding_judged led before now moment names vars negated condition always list after verdict said is runs when = absurd is
holding_judged led before now moment names vars negated condition (matching subject text) list after verdict said is runs when = absurd is
holding_judged led before now moment names vars negated condition (holding written phrase) list after verdict said is runs when =
    let known = condition_of phrase.name in
    RunsTo-then_ended led before now moment (course_of_known names vars moment known phrase.argument) (λ v. ended (verdict_when written v)) list after verdict said
    (known_runs led before now moment names vars condition known phrase.argument list after (Ok verdict) is.1 runs)
    (ap (λ (n : Bool). ended (verdict_when n verdict)) (sym is.0) ∙ ap ended (sym when))

-- its condition was not
pub holding_unjudged : (led : List Asking → ℕ → Type 0) (before now : Option (List ℕ)) (moment : ℕ) (names : List (List ℕ)) (vars : List Pair) (negated : Bool)
    (condition : Condition) (written : WrittenTest) (list after : List Asked) (end : ChainEnd) (result : Result Verdict ChainEnd)
    → IsTestOf names (tests.Holds negated condition) written → RunsAsConditions led before now moment vars condition list after (Err end)
    → IsErrAnd result (λ other. other ≡ end) → RunsTo led before now moment (course_of_test names vars moment written) list after result
holding_unjudged led before now moment names vars negated condition always list after end result is runs same = absurd is
holding_unjudged led before now moment names vars negated condition (matching subject text) list after end result is runs same = absurd is
holding_unjudged led before now moment names vars negated condition (holding written phrase) list after end result is runs same =
    let known = condition_of phrase.name in
    let P : Result Verdict ChainEnd → Type 0 = λ r. RunsTo led before now moment (course_of_test names vars moment (holding written phrase)) list after r in
    subst P (sym (error_is result end same))
    (RunsTo-fault led before now moment (course_of_known names vars moment known phrase.argument) (λ v. ended (verdict_when written v)) list after end
    (known_runs led before now moment names vars condition known phrase.argument list after (Err end) is.1 runs))
