-- What comes of the action of a rule ("InternalRouting").
use Rattle.std.specs.Prelude.{ℕ, ◌==◌, Bool, true, if◌then◌else◌, List, [], ◌∷◌, ◌++◌, codes, unwrap_or, is_some, Option, None, Some}
use Rattle.std.specs.List.{before_first, after_first, list_any}
use Rattle.std.specs.Fmt.{decimal, signed_decimal}
use Rattle.uw_base.specs.declared.variables.Pair.{Pair}
use Rattle.uw_packet.specs.BlockReads.{vars_block}
use Rattle.uw_model.specs.declared.asks.Ask.{Ask}
use Rattle.uw_model.specs.declared.asks.Ask.TheVariants as asks
use Rattle.uw_model.specs.declared.asks.AskAnswer.{AskAnswer}
use Rattle.uw_model.specs.declared.asks.AskAnswer.TheVariants as ask_answers
use Rattle.uw_model.specs.declared.areas.AreaAnswer.{AreaAnswer}
use Rattle.uw_model.specs.declared.areas.AreaAnswer.TheVariants as area_answers
use Rattle.uw_model.specs.declared.areas.AreaOp.{AreaOp}
use Rattle.uw_model.specs.declared.areas.AreaOp.TheVariants as area_ops
use Rattle.uw_model.specs.declared.asks.SpoolAnswer.TheVariants as spools
use Rattle.uw_model.specs.declared.calls.Call.{Call}
use Rattle.uw_model.specs.declared.calls.Call.TheVariants as calls
use Rattle.uw_model.specs.declared.calls.Answer.{Answer}
use Rattle.uw_model.specs.declared.calls.Answer.TheVariants as answers
use Rattle.uw_cachecmd.specs.Replies.{answer_text}
use Rattle.uw_rules.specs.declared.compiled.Action.{Action}
use Rattle.uw_rules.specs.declared.compiled.Action.TheVariants as does
use Rattle.uw_rules.specs.declared.compiled.CacheWrite.{CacheWrite}
use Rattle.uw_rules.specs.declared.compiled.AreaStep.{AreaStep}
use Rattle.uw_rules.specs.declared.compiled.AreaStep.TheVariants as steps
use Rattle.uw_rules.specs.declared.compiled.TaskPair.{TaskPair}
use Rattle.uw_chain.specs.declared.request.Request.{Request}
use Rattle.uw_chain.specs.declared.outcome.Outcome.{Outcome}
use Rattle.uw_chain.specs.declared.outcome.Outcome.TheVariants as outcomes
use Rattle.uw_chain.specs.Courses.{Course, ended, asking}
use Rattle.uw_chain.specs.declared.outcome.Ending.{Ending}
use Rattle.uw_chain.specs.declared.outcome.Ending.TheVariants as endings
use Rattle.uw_chain.specs.Endings.{status_of_code, with_header, with_cached_value}
use Rattle.uw_chain.specs.Spooling.{task_ask, task_vars}
use Rattle.uw_chain.specs.Tests.{filled_within, if_within}

-- a variable more
abbrev pub with_variable : Request → List ℕ → List ℕ → Request
with_variable request key value = record request { vars = request.vars ++ record { key = key; value = value } ∷ [] }

-- the path up to the first `?` (63), and the query string behind it, if there is one
unfoldable pub rewritten : Request → List ℕ → Request
rewritten request text =
    if list_any (λ byte. byte == 63) text
    then with_variable (with_variable request (codes "PATH_INFO") (before_first (λ byte. byte == 63) text)) (codes "QUERY_STRING") (after_first (λ byte. byte == 63) text)
    else with_variable request (codes "PATH_INFO") text

-- a text more in the body
abbrev pub with_text : Request → List ℕ → Request
with_text request text = record request { body = request.body ++ text; sent = true }

-- a redirect to a place ends the request
abbrev pub redirected : List ℕ → List ℕ → Request → Outcome
redirected status place request = outcomes.Ends (endings.Break (Some status)) (with_header request (codes "Location: " ++ place))

-- the text of an answer as a variable has it
abbrev pub variable_text : Answer → List ℕ
variable_text (answers.Value value) = value
variable_text (answers.Number number) = signed_decimal number
variable_text answers.Missing = []
variable_text other = answer_text other

-- the text of an area's answer as a variable has it
abbrev pub area_text : AreaAnswer → List ℕ
area_text (area_answers.Bytes bytes) = bytes
area_text (area_answers.Number number) = decimal number
area_text area_answers.Done = codes "ok"
area_text (area_answers.OutOfArea at len size) = codes "out of area"

-- the answer of an ask as a variable, if one is named; that of the spool is none
abbrev pub with_answer : Option (List ℕ) → Request → AskAnswer → Request
with_answer None request answer = request
with_answer (Some var) request (ask_answers.Cache answer) = with_variable request var (variable_text answer)
with_answer (Some var) request (ask_answers.Area answer) = with_variable request var (area_text answer)
with_answer (Some var) request (ask_answers.Spool answer) = request

-- a value that a cache has ends the request
abbrev pub value_outcome : List ℕ → Request → AskAnswer → Outcome
value_outcome content_type request (ask_answers.Cache (answers.Value value)) =
    outcomes.Ends (endings.Break (Some (codes "200 OK"))) (with_cached_value content_type value request)
value_outcome content_type request _ = outcomes.GoesOn request

-- one call of a cache; where none is named, of the first one
abbrev pub cache_ask : Option ℕ → Call → Ask
cache_ask cache call = asks.Cache (unwrap_or cache 0) call

-- a call of a cache, whose answer a variable takes
abbrev pub calling : Request → Option ℕ → Option (List ℕ) → Call → Course Outcome
calling request cache var call = asking (cache_ask cache call) (λ answer. ended (outcomes.GoesOn (with_answer var request answer)))

-- an action with a text: what comes of it, or the end where the text is longer than its limit
abbrev pub with_filled : Request → Option (List ℕ) → (List ℕ → Course Outcome) → Course Outcome
with_filled request text use_it = if_within text (ended (outcomes.Ends endings.Failing request)) use_it

-- a write of a key and a value
abbrev pub writing : (List ℕ → List ℕ → ℕ → Call) → CacheWrite → (List ℕ → Option (List ℕ)) → Request → Course Outcome
writing call write fill request =
    with_filled request (fill write.key) (λ key. with_filled request (fill write.value) (λ value. calling request write.cache write.var (call key value write.expires)))

-- the content type of a value: `text/html` where none is given
abbrev pub type_filled : (List ℕ → Option (List ℕ)) → Option (List ℕ) → Option (List ℕ)
type_filled fill None = Some (codes "text/html")
type_filled fill (Some content_type) = fill content_type

-- the operation of an area that a step is
abbrev pub op_of_step : AreaStep → AreaOp
op_of_step (steps.Read at len) = area_ops.Read at len
op_of_step (steps.ReadNum at width) = area_ops.ReadNum at width
op_of_step (steps.WriteNum at width value) = area_ops.WriteNum at width value
op_of_step (steps.IncNum at width by) = area_ops.IncNum at width by
op_of_step (steps.DecNum at width by) = area_ops.DecNum at width by
op_of_step steps.Updates = area_ops.Updates

-- an operation of an area, whose answer a variable takes
abbrev pub asking_area : Request → ℕ → Option (List ℕ) → AreaOp → Course Outcome
asking_area request area var op = asking (asks.Area area op) (λ answer. ended (outcomes.GoesOn (with_answer var request answer)))

-- a pair with its text in front of others, unless a text is longer than its limit
abbrev pub with_pair_filled : List ℕ → Option (List ℕ) → Option (List Pair) → Option (List Pair)
with_pair_filled key None others = None
with_pair_filled key (Some text) None = None
with_pair_filled key (Some text) (Some others) = Some (record { key = key; value = text } ∷ others)

-- the pairs of a task with their texts, unless one is longer than its limit
abbrev pub filled_pairs : (List ℕ → Option (List ℕ)) → List TaskPair → Option (List Pair)
filled_pairs fill [] = Some []
filled_pairs fill (pair ∷ pairs) = with_pair_filled pair.key (fill pair.value) (filled_pairs fill pairs)

-- a task that was put aside lets the rules go on; any other answer ends them
abbrev pub put_outcome : Request → AskAnswer → Outcome
put_outcome request (ask_answers.Spool (spools.Put number)) = outcomes.GoesOn request
put_outcome request answer = outcomes.Ends endings.Failing request

-- the task of these pairs is put aside, unless its variables have no block, or a text is longer than its limit
abbrev pub putting_aside : Request → Option (List Pair) → Course Outcome
putting_aside request None = ended (outcomes.Ends endings.Failing request)
putting_aside request (Some pairs) =
    if is_some (vars_block (task_vars pairs)) then asking (task_ask pairs) (λ answer. ended (put_outcome request answer)) else ended (outcomes.Ends endings.Failing request)

-- the course of an action, whose texts are filled so
abbrev pub course_of_filled : (List ℕ → Option (List ℕ)) → Request → Action → Course Outcome
course_of_filled fill request does.Continue = ended (outcomes.Ends endings.OfTable request)
course_of_filled fill request (does.Break status) = ended (outcomes.Ends (endings.Break status) request)
course_of_filled fill request (does.Return code) = ended (outcomes.Ends (endings.Page code) request)
course_of_filled fill request (does.Goto rule) = ended (outcomes.Jumps rule request)
course_of_filled fill request (does.Redirect to) = with_filled request (fill to) (λ place. ended (redirected (status_of_code 302) place request))
course_of_filled fill request (does.RedirectPermanent to) = with_filled request (fill to) (λ place. ended (redirected (status_of_code 301) place request))
course_of_filled fill request (does.Rewrite to) = with_filled request (fill to) (λ text. ended (outcomes.GoesOn (rewritten request text)))
course_of_filled fill request (does.AddVar key value) = with_filled request (fill value) (λ text. ended (outcomes.GoesOn (with_variable request key text)))
course_of_filled fill request (does.AddHeader line) = with_filled request (fill line) (λ text. ended (outcomes.GoesOn (with_header request text)))
course_of_filled fill request (does.Send text) = with_filled request (fill text) (λ more. ended (outcomes.GoesOn (with_text request more)))
course_of_filled fill request (does.Cache key content_type cache) =
    with_filled request (fill key) (λ name. with_filled request (type_filled fill content_type) (λ type.
    asking (cache_ask cache (calls.Get name)) (λ answer. ended (value_outcome type request answer))))
course_of_filled fill request (does.CacheVar key cache var) = with_filled request (fill key) (λ name. calling request cache (Some var) (calls.Get name))
course_of_filled fill request (does.CacheSet write) = writing calls.Set write fill request
course_of_filled fill request (does.CacheUpdate write) = writing calls.Update write fill request
course_of_filled fill request (does.CacheDel key cache var) = with_filled request (fill key) (λ name. calling request cache var (calls.Del name))
course_of_filled fill request (does.CacheMath op key amount expires cache var) =
    with_filled request (fill key) (λ name. calling request cache var (calls.Math op name amount expires))
course_of_filled fill request (does.Area area step var) = asking_area request area var (op_of_step step)
course_of_filled fill request (does.AreaWrite area at value var) = with_filled request (fill value) (λ text. asking_area request area var (area_ops.Write at text))
course_of_filled fill request (does.Spool pairs) = putting_aside request (filled_pairs fill pairs)
course_of_filled fill request (does.SpoolEnd status) = ended (outcomes.Ends (endings.Task status) request)

-- the course of an action at a moment, with the captures of its rule's pattern
abbrev pub course_of_action : ℕ → List (List ℕ) → Request → Action → Course Outcome
course_of_action moment captures request action = course_of_filled (λ text. filled_within text request.vars captures moment) request action
