-- What the actions of rules come to.
use Rattle.std.proofs.Common.{◌≡◌, ◌↔◌, ◌≤◌, refl, sym, ap, subst, ◌∙◌, ℕ, length, Bool, true, false, List, [], ◌∷◌, ◌++◌, Option, None, Some, IfSome, Ok, Err, inl, IsTrue, nat_le}
use Rattle.std.specs.Prelude.{codes, ◌==◌, option_map, unwrap_or}
use Rattle.std.proofs.lemmas.Option.{none-some}
use Rattle.std.specs.List.{before_first, after_first, list_any}
use Rattle.std.proofs.lemmas.Bool.{false≢true, leb-true, le-leb}
use Rattle.uw_base.specs.declared.variables.Pair.{Pair}
use Rattle.uw_model.specs.declared.asks.Ask.{Ask}
use Rattle.uw_model.specs.declared.asks.AskAnswer.{AskAnswer}
use Rattle.uw_model.specs.declared.asks.Asked.{Asked}
use Rattle.uw_model.specs.Asks.{Asking}
use Rattle.uw_subst.specs.Templates.{filled}
use Rattle.uw_subst.specs.Answers.{most_filled}
use Rattle.uw_chain.specs.declared.faults.ChainEnd.TheVariants as chains
use Rattle.uw_chain.specs.declared.outcome.Outcome.{Outcome}
use Rattle.uw_chain.specs.declared.outcome.Outcome.TheVariants as outcomes
use Rattle.uw_chain.specs.declared.outcome.Ending.TheVariants as endings
use Rattle.uw_chain.specs.declared.request.Request.{Request}
use Rattle.uw_chain.specs.Actions.{redirected, rewritten, with_filled, with_text}
use Rattle.uw_chain.specs.Courses.{Course, asking, ended}
use Rattle.uw_chain.specs.Endings.{end_with, end_with_page, with_header, with_cached_value}
use Rattle.uw_chain.specs.Runs.{AsksOnce}
use Rattle.uw_chain.specs.RoutingSteps.{RunsTo}
use Rattle.uw_chain.specs.Tests.{filled_within}
use Rattle.uw_chain.proofs.CourseLemmas.{Led-one}

-- a value behind the body, from its parts
pub has_value : (content_type value line body : List ℕ) (request headed : Request)
    → headed ≡ with_header request line → line ≡ codes "Content-Type: " ++ content_type → body ≡ headed.body ++ value
    → record headed { body = body } ≡ with_cached_value content_type value request
has_value content_type value line body request headed with_line is_line is_body = rw (is_body, with_line, is_line) refl

-- the page of a status, from its parts
pub ends_with_page : (status line body : List ℕ) (request headed : Request) → request.sent ≡ false
    → headed ≡ with_header request line → line ≡ codes "Content-Type: text/plain" → body ≡ status ++ 10 ∷ []
    → end_with status false (record headed { body = body }) ≡ end_with_page status request
unfolding end_with_page
ends_with_page status line body request headed unsent with_line is_line is_body = rw (unsent, is_body, with_line, is_line) refl

-- a redirect, from its header line; or the end where its text is longer than its limit
pub is_redirected : (status line ending : List ℕ) (text : Option (List ℕ)) (request headed : Request)
    → option_map (λ place. codes "Location: " ++ place) text ≡ Some line → headed ≡ with_header request line → ending ≡ status
    → with_filled request text (λ to. ended (redirected status to request)) ≡ ended (outcomes.Ends (endings.Break (Some ending)) headed)
is_redirected status line ending None request headed is_line with_line is_ending = absurd (none-some line is_line)
is_redirected status line ending (Some place) request headed is_line with_line is_ending =
    let same : codes "Location: " ++ place ≡ line = ap (λ (text : Option (List ℕ)). unwrap_or text []) is_line in
    rw (is_ending, with_line, same) refl

pub not_redirected : (status : List ℕ) (text : Option (List ℕ)) (request : Request) → None ≡ option_map (λ place. codes "Location: " ++ place) text
    → with_filled request text (λ to. ended (redirected status to request)) ≡ ended (outcomes.Ends endings.Failing request)
not_redirected status None request none = refl
not_redirected status (Some place) request none = absurd (none-some (codes "Location: " ++ place) none)

-- a path without a query
pub rewritten_plain : (place path : List ℕ) (text : Option (List ℕ)) (request : Request) (vars : List Pair)
    → text ≡ Some place → list_any (λ byte. byte == 63) place ≡ false → path ≡ place
    → vars ≡ request.vars ++ record { key = codes "PATH_INFO"; value = path } ∷ []
    → with_filled request text (λ to. ended (outcomes.GoesOn (rewritten request to))) ≡ ended (outcomes.GoesOn (record request { vars = vars }))
unfolding rewritten
rewritten_plain place path text request vars is_text none is_path is_vars = rw (is_text, none, is_vars, is_path) refl

-- a path with a query
pub rewritten_query : (place path query : List ℕ) (text : Option (List ℕ)) (request : Request) (first vars : List Pair)
    → text ≡ Some place → list_any (λ byte. byte == 63) place ≡ true
    → path ≡ before_first (λ byte. byte == 63) place → query ≡ after_first (λ byte. byte == 63) place
    → first ≡ request.vars ++ record { key = codes "PATH_INFO"; value = path } ∷ []
    → vars ≡ first ++ record { key = codes "QUERY_STRING"; value = query } ∷ []
    → with_filled request text (λ to. ended (outcomes.GoesOn (rewritten request to))) ≡ ended (outcomes.GoesOn (record request { vars = vars }))
unfolding rewritten
rewritten_query place path query text request first vars is_text some is_path is_query is_first is_vars =
    rw (is_text, some, is_vars, is_first, is_path, is_query) refl

-- a text that is within its limit
pub filled_short : (text : List ℕ) (vars : List Pair) (captures : List (List ℕ)) (moment : ℕ) (fits : Bool)
    → (IsTrue fits ↔ (length (filled text vars captures moment) ≤ most_filled)) → fits ≡ true
    → filled_within text vars captures moment ≡ Some (filled text vars captures moment)
unfolding filled_within
filled_short text vars captures moment fits says is = rw (le-leb (length (filled text vars captures moment)) most_filled (says.0 is)) refl

-- a text that is longer than its limit
pub filled_long : (text : List ℕ) (vars : List Pair) (captures : List (List ℕ)) (moment : ℕ) (fits : Bool)
    → (IsTrue fits ↔ (length (filled text vars captures moment) ≤ most_filled)) → fits ≡ false
    → filled_within text vars captures moment ≡ None
unfolding filled_within
filled_long text vars captures moment fits says is =
    let size = length (filled text vars captures moment) in
    let long : nat_le size most_filled ≡ false = at (nat_le size most_filled) refl in
    rw long refl
  where
    at : (test : Bool) → nat_le (length (filled text vars captures moment)) most_filled ≡ test → nat_le (length (filled text vars captures moment)) most_filled ≡ false
    at false e = e
    at true e = absurd (false≢true (sym is ∙ says.1 (leb-true (length (filled text vars captures moment)) most_filled e)))

-- a text that is longer than its limit ends the rules
pub sent_long : (text : Option (List ℕ)) (request : Request) (body : List ℕ) (use_it : List ℕ → Course Outcome)
    → text ≡ None → body ≡ request.body → with_filled request text use_it ≡ ended (outcomes.Ends endings.Failing (record request { body = body }))
sent_long text request body use_it is_text is_body = rw (is_text, is_body) refl

-- a text that is within its limit has no more bytes than that
pub filled_few : (template : List ℕ) (vars : List Pair) (captures : List (List ℕ)) (moment : ℕ) (text : List ℕ)
    → filled_within template vars captures moment ≡ Some text → length text ≤ most_filled
unfolding filled_within
filled_few template vars captures moment text is = at (nat_le (length (filled template vars captures moment)) most_filled) refl
  where
    at : (test : Bool) → nat_le (length (filled template vars captures moment)) most_filled ≡ test → length text ≤ most_filled
    at true e =
        let same : Some (filled template vars captures moment) ≡ Some text = rw e at is in
        let text_is : filled template vars captures moment ≡ text = cc in
        subst (λ (l : List ℕ). length l ≤ most_filled) text_is (leb-true (length (filled template vars captures moment)) most_filled e)
    at false e = let none : None ≡ Some text = rw e at is in absurd (cc)

-- likewise a text that was filled, if there is one
pub few_filled : (template : List ℕ) (vars : List Pair) (captures : List (List ℕ)) (moment : ℕ) (text : Option (List ℕ))
    → text ≡ filled_within template vars captures moment → IfSome text (λ one. length one ≤ most_filled)
few_filled template vars captures moment None is = tt
few_filled template vars captures moment (Some text) is = filled_few template vars captures moment text (sym is)

-- a text more in the body
pub sent_more : (more body : List ℕ) (text : Option (List ℕ)) (request : Request)
    → text ≡ Some more → body ≡ request.body ++ more
    → with_filled request text (λ one. ended (outcomes.GoesOn (with_text request one)))
    ≡ ended (outcomes.GoesOn (record request { body = body; sent = true }))
sent_more more body text request is_text is_body = rw (is_text, is_body) refl

-- no memory behind an ask that was answered
pub RunsTo-answered_memory : {T X : Type 0} → (led : List Asking → ℕ → Type 0) (before now : Option (List ℕ)) (moment : ℕ) (ask : Ask) (list after : List Asked) (done : T)
    (next : AskAnswer → Course X) → AsksOnce led before now moment ask list after (Ok done)
    → RunsTo led before now moment (asking ask next) list after (Err chains.Memory)
RunsTo-answered_memory led before now moment ask list after done next h =
    (record { ask = ask; answer = h.0 } ∷ [], h.1, inl (next h.0, (refl, refl), Led-one led before now moment ask h.0 h.2))
