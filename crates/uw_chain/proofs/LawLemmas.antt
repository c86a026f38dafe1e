-- Laws of courses, of actions and of jumps.
use Rattle.std.proofs.Common.{◌≡◌, ◌⊎◌, inl, inr, refl, sym, ap, ap₂, ◌∙◌, subst, ℕ, zero, suc, ◌+◌, ◌<◌, ◌≤◌, true, nat_lt, List, [], ◌∷◌, ◌++◌, length, map, Option, None, Some, arith}
use Rattle.std.specs.List.{Contains}
use Rattle.std.proofs.lemmas.Bool.Decides.{nat_tests}
use Rattle.uw_base.specs.declared.variables.Pair.{Pair}
use Rattle.uw_model.specs.declared.asks.Asked.{Asked}
use Rattle.uw_rules.specs.declared.compiled.Action.{Action}
use Rattle.uw_rules.specs.declared.compiled.Action.TheVariants as does
use Rattle.uw_rules.specs.declared.compiled.TaskPair.{TaskPair}
use Rattle.uw_rules.specs.WrittenRules.{WrittenRule}
use Rattle.uw_chain.specs.declared.request.Request.{Request}
use Rattle.uw_chain.specs.declared.outcome.Outcome.{Outcome}
use Rattle.uw_chain.specs.declared.outcome.Outcome.TheVariants as outcomes
use Rattle.uw_chain.specs.ActionTexts.{texts_of_action}
use Rattle.uw_chain.specs.Actions.{course_of_filled, filled_pairs, putting_aside, with_filled, with_pair_filled}
use Rattle.uw_chain.specs.Courses.{Course, Unfolds, ask_next, asking, end_next, ended, next_after}
use Rattle.uw_chain.specs.declared.outcome.Ending.TheVariants as endings
use Rattle.uw_chain.specs.Routing.{Naming, course_of_rules}

-- ---- a run by its next asks

-- each ask of a course is the next one after the answers before it
pub next_asked : {X : Type 0} → (course : Course X) (early late : List Asked) (one : Asked) (rest : Course X) → Unfolds course (early ++ one ∷ late) rest
    → next_after course (map (λ (asked : Asked). asked.answer) early) ≡ ask_next one.ask
next_asked (ended result) [] late one rest h = absurd h
next_asked (ended result) (first ∷ early) late one rest h = absurd h
next_asked (asking ask more) [] late one rest h = ap ask_next (sym h.0)
next_asked (asking ask more) (first ∷ early) late one rest h = next_asked (more first.answer) early late one rest h.1

-- after all answers comes the end
pub next_ended : {X : Type 0} → (course : Course X) (all : List Asked) (result : X) → Unfolds course all (ended result)
    → next_after course (map (λ (asked : Asked). asked.answer) all) ≡ end_next result
next_ended course [] result h = ap (λ way. next_after way []) h
next_ended (ended other) (first ∷ all) result h = absurd h
next_ended (asking ask more) (first ∷ all) result h = next_ended (more first.answer) all result h.1

-- asks of which each is the next one, and behind which comes the end, are those of a course
pub reached_next : {X : Type 0} → (course : Course X) (all : List Asked) (result : X)
    → ((early late : List Asked) (one : Asked) → all ≡ early ++ one ∷ late → next_after course (map (λ (asked : Asked). asked.answer) early) ≡ ask_next one.ask)
    → next_after course (map (λ (asked : Asked). asked.answer) all) ≡ end_next result → Unfolds course all (ended result)
reached_next (ended other) [] result each end = cc
reached_next (asking ask more) [] result each end = absurd (cc)
reached_next (ended other) (first ∷ all) result each end =
    let none : end_next other ≡ ask_next first.ask = each [] all first refl in
    absurd (cc)
reached_next (asking ask more) (first ∷ all) result each end =
    let next : ask_next ask ≡ ask_next first.ask = each [] all first refl in
    let same : first.ask ≡ ask = cc in
    (same, reached_next (more first.answer) all result (λ early late one is. each (first ∷ early) late one (ap (λ l. first ∷ l) is)) end)

-- ---- a run by its answers

same_asked : (one other : Asked) → one.ask ≡ other.ask → one.answer ≡ other.answer → one ≡ other
same_asked one other asks answers = ap₂ (λ ask answer. record { ask = ask; answer = answer }) asks answers

-- the same answers make the same asks and the same end
pub told_by_answers : {X : Type 0} → (course : Course X) (all others : List Asked) (result last : X) → Unfolds course all (ended result)
    → Unfolds course others (ended last) → map (λ (asked : Asked). asked.answer) all ≡ map (λ (asked : Asked). asked.answer) others
    → (all ≡ others) × (result ≡ last)
told_by_answers course [] [] result last h other same = (refl, cc)
told_by_answers course [] (second ∷ others) result last h other same = absurd (cc)
told_by_answers course (first ∷ all) [] result last h other same = absurd (cc)
told_by_answers (ended end) (first ∷ all) (second ∷ others) result last h other same = absurd h
told_by_answers (asking ask more) (first ∷ all) (second ∷ others) result last h other same =
    let answer : first.answer ≡ second.answer = cc in
    let answers : map (λ (asked : Asked). asked.answer) all ≡ map (λ (asked : Asked). asked.answer) others = cc in
    let asks : first.ask ≡ second.ask = h.0 ∙ sym other.0 in
    let moved : Unfolds (more first.answer) others (ended last) = subst (λ one. Unfolds (more one) others (ended last)) (sym answer) other.1 in
    let rest = told_by_answers (more first.answer) all others result last h.1 moved answers in
    (ap₂ (λ one l. one ∷ l) (same_asked first second asks answer) rest.0, rest.1)

-- ---- texts that are longer than their limit

abbrev overlong : Request → Course Outcome
overlong request = ended (outcomes.Ends endings.Failing request)

-- no text is one of an empty list
none_of_none : (text : List ℕ) → Contains [] text → ⊥
none_of_none text (place, below, is) = omega arith

-- the text is the one of a list of one
is_lone : (one text : List ℕ) → Contains (one ∷ []) text → one ≡ text
is_lone one text (zero, below, is) = is
is_lone one text (suc place, below, is) = absurd (omega arith)

-- the text is one of a list of two
is_either : (one two text : List ℕ) → Contains (one ∷ two ∷ []) text → (one ≡ text) ⊎ (two ≡ text)
is_either one two text (zero, below, is) = inl is
is_either one two text (suc zero, below, is) = inr is
is_either one two text (suc (suc place), below, is) = absurd (omega arith)

-- a text that has none ends the request
no_text : (fill : List ℕ → Option (List ℕ)) (request : Request) (template text : List ℕ) (use_it : List ℕ → Course Outcome) → template ≡ text → fill text ≡ None
    → with_filled request (fill template) use_it ≡ overlong request
no_text fill request template text use_it same none = ap (λ filling. with_filled request filling use_it) (ap fill same ∙ none)

-- likewise where another text is filled first
no_later_text : (request : Request) (first : Option (List ℕ)) (use_it : List ℕ → Course Outcome) → ((one : List ℕ) → use_it one ≡ overlong request)
    → with_filled request first use_it ≡ overlong request
no_later_text request None use_it h = refl
no_later_text request (Some one) use_it h = h one

-- likewise where it is one of two
no_text_of_two : (fill : List ℕ → Option (List ℕ)) (request : Request) (one two text : List ℕ) (use_both : List ℕ → List ℕ → Course Outcome)
    → Contains (one ∷ two ∷ []) text → fill text ≡ None → with_filled request (fill one) (λ key. with_filled request (fill two) (use_both key)) ≡ overlong request
no_text_of_two fill request one two text use_both of none = elim (is_either one two text of) [
  | inl same ↦ no_text fill request one text (λ key. with_filled request (fill two) (use_both key)) same none
  | inr same ↦ no_later_text request (fill one) (λ key. with_filled request (fill two) (use_both key)) (λ key. no_text fill request two text (use_both key) same none)
]

-- pairs of which one has no text
no_first_pair : (key : List ℕ) (text : Option (List ℕ)) (others : Option (List Pair)) → text ≡ None → with_pair_filled key text others ≡ None
no_first_pair key None others none = refl
no_first_pair key (Some text) others none = absurd (cc)

no_later_pair : (key : List ℕ) (text : Option (List ℕ)) (others : Option (List Pair)) → others ≡ None → with_pair_filled key text others ≡ None
no_later_pair key None others none = refl
no_later_pair key (Some text) None none = refl
no_later_pair key (Some text) (Some others) none = absurd (cc)

no_pairs : (fill : List ℕ → Option (List ℕ)) (pairs : List TaskPair) (text : List ℕ) → Contains (map (λ (pair : TaskPair). pair.value) pairs) text → fill text ≡ None
    → filled_pairs fill pairs ≡ None
no_pairs fill [] text of none = absurd (none_of_none text of)
no_pairs fill (pair ∷ pairs) text (zero, below, is) none =
    no_first_pair pair.key (fill pair.value) (filled_pairs fill pairs) (ap fill is ∙ none)
no_pairs fill (pair ∷ pairs) text (suc place, below, is) none =
    no_later_pair pair.key (fill pair.value) (filled_pairs fill pairs) (no_pairs fill pairs text (place, omega arith, is) none)

pub overlong_action : (fill : List ℕ → Option (List ℕ)) (request : Request) (action : Action) (text : List ℕ) → Contains (texts_of_action action) text
    → fill text ≡ None → course_of_filled fill request action ≡ ended (outcomes.Ends endings.Failing request)
overlong_action fill request does.Continue text of none = absurd (none_of_none text of)
overlong_action fill request (does.Break status) text of none = absurd (none_of_none text of)
overlong_action fill request (does.Return code) text of none = absurd (none_of_none text of)
overlong_action fill request (does.Goto rule) text of none = absurd (none_of_none text of)
overlong_action fill request (does.Redirect to) text of none = no_text fill request to text _ (is_lone to text of) none
overlong_action fill request (does.RedirectPermanent to) text of none = no_text fill request to text _ (is_lone to text of) none
overlong_action fill request (does.Rewrite to) text of none = no_text fill request to text _ (is_lone to text of) none
overlong_action fill request (does.AddVar key value) text of none = no_text fill request value text _ (is_lone value text of) none
overlong_action fill request (does.AddHeader line) text of none = no_text fill request line text _ (is_lone line text of) none
overlong_action fill request (does.Send more) text of none = no_text fill request more text _ (is_lone more text of) none
overlong_action fill request (does.Cache key None cache) text of none = no_text fill request key text _ (is_lone key text of) none
overlong_action fill request (does.Cache key (Some content_type) cache) text of none = no_text_of_two fill request key content_type text _ of none
overlong_action fill request (does.CacheVar key cache var) text of none = no_text fill request key text _ (is_lone key text of) none
overlong_action fill request (does.CacheSet write) text of none = no_text_of_two fill request write.key write.value text _ of none
overlong_action fill request (does.CacheUpdate write) text of none = no_text_of_two fill request write.key write.value text _ of none
overlong_action fill request (does.CacheDel key cache var) text of none = no_text fill request key text _ (is_lone key text of) none
overlong_action fill request (does.CacheMath op key amount expires cache var) text of none = no_text fill request key text _ (is_lone key text of) none
overlong_action fill request (does.Area area step var) text of none = absurd (none_of_none text of)
overlong_action fill request (does.AreaWrite area at value var) text of none = no_text fill request value text _ (is_lone value text of) none
overlong_action fill request (does.Spool pairs) text of none = ap (putting_aside request) (no_pairs fill pairs text of none)
overlong_action fill request (does.SpoolEnd status) text of none = absurd (none_of_none text of)

-- ---- rules that are passed over

one_passed : (naming : Naming) (moment here until : ℕ) (first : WrittenRule) (rules : List WrittenRule) (request : Request) → here < until
    → course_of_rules naming moment here until (first ∷ rules) request ≡ course_of_rules naming moment (here + 1) until rules request
one_passed naming moment here until first rules request below =
    let yes : nat_lt here until ≡ true = grind (arith, nat_tests) in
    simp yes

pub passed_over : (naming : Naming) (moment here until : ℕ) (skipped rules : List WrittenRule) (request : Request) → here + length skipped ≤ until
    → course_of_rules naming moment here until (skipped ++ rules) request ≡ course_of_rules naming moment (here + length skipped) until rules request
passed_over naming moment here until [] rules request fits =
    let none : here + 0 ≡ here = omega arith in
    ap (λ at. course_of_rules naming moment at until rules request) (sym none)
passed_over naming moment here until (first ∷ skipped) rules request fits =
    let below : here < until = omega arith in
    let more : here + 1 + length skipped ≤ until = omega arith in
    let place : here + 1 + length skipped ≡ here + suc (length skipped) = omega arith in
    one_passed naming moment here until first (skipped ++ rules) request below
    ∙ passed_over naming moment (here + 1) until skipped rules request more
    ∙ ap (λ at. course_of_rules naming moment at until rules request) place
