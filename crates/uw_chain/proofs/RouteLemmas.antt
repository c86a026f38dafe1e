-- Rules, one after the other.
use Rattle.std.proofs.Common.{◌≡◌, refl, sym, ap, ◌∙◌, subst, ℕ, zero, suc, ◌+◌, ◌-◌, ◌<◌, ◌≤◌, max, nat_lt, Bool, true, false, List, [], ◌∷◌, ◌++◌, length, get_or, set, drop, Option, None, Some, Result, Ok, Err, inl, arith}
use Rattle.std.specs.Prelude.{IsSomeAnd}
use Rattle.std.proofs.lemmas.Bool.{false≢true, ltb-false, ltb-true, le-ltb}
use Rattle.std.proofs.lemmas.List.{drop_all}
use Rattle.std.proofs.Math.Seq.{drop-nil}
use Rattle.uw_outside.specs.Faults.{HasCause}
use Rattle.uw_model.specs.declared.asks.Asked.{Asked}
use Rattle.uw_model.specs.Asks.{Asking}
use Rattle.uw_rules.specs.declared.compiled.Action.{Action}
use Rattle.uw_rules.specs.declared.compiled.Rule.{Rule}
use Rattle.uw_rules.specs.declared.compiled.Rule.TheVariants as compiled
use Rattle.uw_rules.specs.declared.compiled.Test.{Test}
use Rattle.uw_rules.specs.declared.grammar.ActionName.{ActionName}
use Rattle.uw_rules.specs.PartNumbers.{AskPartsBelow, RuleAsksBelow}
use Rattle.uw_rules.specs.declared.grammar.Table.{Table}
use Rattle.uw_model.specs.Asks.{DeskParts}
use Rattle.uw_rules.specs.Compiled.{IsActionOf, IsRuleOf, IsTestOf, action_meant}
use Rattle.uw_rules.specs.Grammar.{ArgumentShape, action_of}
use Rattle.uw_rules.specs.Tables.{AreRulesOf}
use Rattle.uw_rules.specs.WrittenRules.{Phrase, WrittenRule, WrittenTest, unparted, label, rule}
use Rattle.uw_chain.specs.declared.faults.ChainEnd.{ChainEnd}
use Rattle.uw_chain.specs.declared.faults.ChainEnd.TheVariants as chains
use Rattle.uw_chain.specs.declared.outcome.Outcome.{Outcome}
use Rattle.uw_chain.specs.declared.outcome.Outcome.TheVariants as outcomes
use Rattle.uw_chain.specs.declared.outcome.Ending.{Ending}
use Rattle.uw_chain.specs.declared.outcome.Ending.TheVariants as endings
use Rattle.uw_chain.specs.declared.outcome.Finish.{Finish}
use Rattle.uw_chain.specs.declared.request.Request.{Request}
use Rattle.uw_chain.specs.declared.searches.Slot.{Slot}
use Rattle.uw_chain.specs.declared.verdict.Verdict.{Verdict}
use Rattle.uw_chain.specs.declared.verdict.Verdict.TheVariants as verdicts
use Rattle.uw_chain.specs.Actions.{course_of_action}
use Rattle.uw_chain.specs.Courses.{Course, and_then, ended}
use Rattle.uw_chain.specs.KeptSearches.{FitSlots, FitsRule}
use Rattle.uw_chain.specs.Routing.{Naming, after_rule, course_of_phrase, course_of_rule, course_of_rules, course_of_verdict}
use Rattle.uw_chain.specs.Runs.{Stops}
use Rattle.uw_chain.specs.RoutingSteps.{RunsTo}
use Rattle.uw_chain.specs.Tests.{course_of_test}
use Rattle.uw_chain.proofs.CourseLemmas.{Led-none, RunsTo-ended, RunsTo-fault, RunsTo-same, RunsTo-then, RunsTo-then_ended}

-- ---- what holds of rules one by one

-- the rule at a number is the written one there
rule_at : (names : List (List ℕ)) (labels : List ℕ → Option ℕ) (rules : List Rule) (written : List WrittenRule) (at : ℕ) (one : Rule)
    → AreRulesOf names labels rules written → at < length rules → one ≡ get_or rules at one
    → (said : WrittenRule) × IsRuleOf names labels one said × (drop at written ≡ said ∷ drop (at + 1) written)
rule_at names labels [] [] at one are below is = absurd (omega arith)
rule_at names labels [] (said ∷ written) at one are below is = absurd are
rule_at names labels (first ∷ rules) [] at one are below is = absurd are
rule_at names labels (first ∷ rules) (said ∷ written) zero one are below is = (said, subst (λ (r : Rule). IsRuleOf names labels r said) (sym is) are.0, refl)
rule_at names labels (first ∷ rules) (said ∷ written) (suc at) one are below is =
    let further : suc at + 1 ≡ suc (at + 1) = omega arith in
    let later = rule_at names labels rules written at one are.1 (omega arith) is in
    (later.0, later.1, rw further later.2)

-- there are as many written rules
as_many : (names : List (List ℕ)) (labels : List ℕ → Option ℕ) (rules : List Rule) (written : List WrittenRule) → AreRulesOf names labels rules written
    → length written ≡ length rules
as_many names labels [] [] are = refl
as_many names labels [] (said ∷ written) are = absurd are
as_many names labels (first ∷ rules) [] are = absurd are
as_many names labels (first ∷ rules) (said ∷ written) are = ap suc (as_many names labels rules written are.1)

-- there are as many searches
pub slots_length : (rules : List Rule) (slots : List Slot) → FitSlots rules slots → length slots ≡ length rules
slots_length [] [] fits = refl
slots_length [] (slot ∷ slots) fits = absurd fits
slots_length (first ∷ rules) [] fits = absurd fits
slots_length (first ∷ rules) (slot ∷ slots) fits = ap suc (slots_length rules slots fits.1)

-- the search at a number is that of the rule there
pub slot_at : (rules : List Rule) (slots : List Slot) (at : ℕ) (one : Rule) (slot : Slot) → FitSlots rules slots → at < length rules → one ≡ get_or rules at one
    → FitsRule one (get_or slots at slot)
slot_at [] slots at one slot fits below is = absurd (omega arith)
slot_at (first ∷ rules) [] at one slot fits below is = absurd fits
slot_at (first ∷ rules) (kept ∷ slots) zero one slot fits below is = subst (λ (r : Rule). FitsRule r kept) (sym is) fits.0
slot_at (first ∷ rules) (kept ∷ slots) (suc at) one slot fits below is = slot_at rules slots at one slot fits.1 (omega arith) is

-- another search for the rule at a number
pub slot_set : (rules : List Rule) (slots : List Slot) (at : ℕ) (one : Rule) (slot : Slot) → FitSlots rules slots → at < length rules → one ≡ get_or rules at one
    → FitsRule one slot → FitSlots rules (set slots at slot)
slot_set [] slots at one slot fits below is fit = absurd (omega arith)
slot_set (first ∷ rules) [] at one slot fits below is fit = absurd fits
slot_set (first ∷ rules) (kept ∷ slots) zero one slot fits below is fit = (subst (λ (r : Rule). FitsRule r slot) is fit, fits.1)
slot_set (first ∷ rules) (kept ∷ slots) (suc at) one slot fits below is fit = (fits.0, slot_set rules slots at one slot fits.1 (omega arith) is fit)

-- the rule at a number asks caches and areas below the counts alone
pub asks_at : (parts : DeskParts) (rules : List Rule) (at : ℕ) (one : Rule) → AskPartsBelow parts rules → at < length rules → one ≡ get_or rules at one
    → RuleAsksBelow parts one
asks_at parts [] at one ask below is = absurd (omega arith)
asks_at parts (first ∷ rules) zero one ask below is = subst (RuleAsksBelow parts) (sym is) ask.0
asks_at parts (first ∷ rules) (suc at) one ask below is = asks_at parts rules at one ask.1 (omega arith) is

-- ---- one rule

-- a label goes on
pub label_goes_on : (naming : Naming) (moment : ℕ) (request : Request) (one : Rule) (said : WrittenRule) → one ≡ compiled.Label
    → IsRuleOf naming.names naming.labels one said → course_of_rule naming moment request said ≡ ended (outcomes.GoesOn request)
unfolding course_of_rule
label_goes_on naming moment request one unparted is of = refl
label_goes_on naming moment request one (label text) is of = refl
label_goes_on naming moment request one (rule table test phrase) is of =
    absurd (subst (λ (r : Rule). IsRuleOf naming.names naming.labels r (rule table test phrase)) is of)

-- a rule that acts is written as a test and an action
acting_rule : (naming : Naming) (one : Rule) (test : Test) (action : Action) (P : WrittenRule → Type 0) → one ≡ compiled.Act test action
    → ((table : Table) (tested : WrittenTest) (phrase : Phrase) → IsTestOf naming.names test tested → IsActionOf naming.names naming.labels table action phrase
    → P (rule table tested phrase))
    → (said : WrittenRule) → IsRuleOf naming.names naming.labels one said → P said
acting_rule naming one test action P is then_so unparted of = absurd (subst (λ (r : Rule). IsRuleOf naming.names naming.labels r unparted) is of)
acting_rule naming one test action P is then_so (label text) of = absurd (subst (λ (r : Rule). IsRuleOf naming.names naming.labels r (label text)) is of)
acting_rule naming one test action P is then_so (rule table tested phrase) of =
    let parts = subst (λ (r : Rule). IsRuleOf naming.names naming.labels r (rule table tested phrase)) is of in
    then_so table tested phrase parts.0 parts.1

-- the course of an action as it is written is that of the compiled one
action_course : (naming : Naming) (moment : ℕ) (captures : List (List ℕ)) (request : Request) (action : Action) (known : Option (ActionName × ArgumentShape))
    (argument : Option (List ℕ)) → IsSomeAnd known (λ row. action ≡ action_meant naming.names naming.labels row.0 argument)
    → course_of_phrase naming moment captures request known argument ≡ course_of_action moment captures request action
action_course naming moment captures request action None argument of = absurd of
action_course naming moment captures request action (Some known) argument of = ap (λ (one : Action). course_of_action moment captures request one) (sym of)

-- its test was followed to its end
abbrev TestRuns : (List Asking → ℕ → Type 0) → Option (List ℕ) → Option (List ℕ) → ℕ → Request → Test → List Asked → List Asked → Result Verdict ChainEnd → Type 0
TestRuns led before now moment request test list after result =
    (names : List (List ℕ)) (tested : WrittenTest) → IsTestOf names test tested
    → RunsTo led before now moment (course_of_test names request.vars moment tested) list after result

-- its test was not followed to its end
pub rule_fault : (led : List Asking → ℕ → Type 0) (before now : Option (List ℕ)) (moment : ℕ) (naming : Naming) (request : Request) (one : Rule) (test : Test)
    (action : Action) (list after : List Asked) (end : ChainEnd) → one ≡ compiled.Act test action → TestRuns led before now moment request test list after (Err end)
    → (said : WrittenRule) → IsRuleOf naming.names naming.labels one said
    → RunsTo led before now moment (course_of_rule naming moment request said) list after (Err end)
unfolding course_of_rule
rule_fault led before now moment naming request one test action list after end is tests =
    acting_rule naming one test action (λ said. RunsTo led before now moment (course_of_rule naming moment request said) list after (Err end)) is
    (λ table tested phrase of acts.
    RunsTo-fault led before now moment (course_of_test naming.names request.vars moment tested) (course_of_verdict naming moment request table phrase) list after end
    (tests naming.names tested of))

-- its test decides what comes of it
pub rule_decided : (led : List Asking → ℕ → Type 0) (before now : Option (List ℕ)) (moment : ℕ) (naming : Naming) (request : Request) (one : Rule) (test : Test)
    (action : Action) (list after : List Asked) (verdict : Verdict) (outcome : Outcome) → one ≡ compiled.Act test action
    → TestRuns led before now moment request test list after (Ok verdict)
    → ((table : Table) (phrase : Phrase) → course_of_verdict naming moment request table phrase verdict ≡ ended outcome)
    → (said : WrittenRule) → IsRuleOf naming.names naming.labels one said
    → RunsTo led before now moment (course_of_rule naming moment request said) list after (Ok outcome)
unfolding course_of_rule
rule_decided led before now moment naming request one test action list after verdict outcome is tests decides =
    acting_rule naming one test action (λ said. RunsTo led before now moment (course_of_rule naming moment request said) list after (Ok outcome)) is
    (λ table tested phrase of acts.
    RunsTo-then_ended led before now moment (course_of_test naming.names request.vars moment tested) (course_of_verdict naming moment request table phrase) list after verdict
    outcome (tests naming.names tested of) (decides table phrase))

-- its test is met, and then it acts
pub rule_acts : (led first_led late_led : List Asking → ℕ → Type 0) (before middle now : Option (List ℕ)) (moment : ℕ) (naming : Naming) (request : Request)
    (one : Rule) (test : Test) (action : Action) (list between after : List Asked) (captures : List (List ℕ)) (result : Result Outcome ChainEnd)
    → ((early late : List Asking) (first more : ℕ) → first_led early first → late_led late more → led (early ++ late) (first + more))
    → one ≡ compiled.Act test action
    → TestRuns first_led before middle moment request test list between (Ok (verdicts.Met captures))
    → RunsTo late_led middle now moment (course_of_action moment captures request action) between after result
    → (said : WrittenRule) → IsRuleOf naming.names naming.labels one said
    → RunsTo led before now moment (course_of_rule naming moment request said) list after result
unfolding course_of_rule
rule_acts led first_led late_led before middle now moment naming request one test action list between after captures result adds is tests acted =
    acting_rule naming one test action (λ said. RunsTo led before now moment (course_of_rule naming moment request said) list after result) is
    (λ table tested phrase of acts.
    RunsTo-then led first_led late_led before middle now moment (course_of_test naming.names request.vars moment tested)
    (course_of_verdict naming moment request table phrase) list between after (verdicts.Met captures) result adds (tests naming.names tested of)
    (RunsTo-same late_led middle now moment (course_of_action moment captures request action)
    (course_of_phrase naming moment captures request (action_of table phrase.name) phrase.argument) between after result
    (sym (action_course naming moment captures request action (action_of table phrase.name) phrase.argument acts)) acted))

-- ---- rules in a row

-- no number is below the first one
none_below : (here : ℕ) → nat_lt here 0 ≡ false
none_below here = le-ltb here 0 (omega arith)

-- a jump passes over a rule before its number, or comes to it
jumped_first : (naming : Naming) (moment here until : ℕ) (first : WrittenRule) (rules : List WrittenRule) (request : Request) (test : Bool)
    → course_of_rules naming moment (here + 1) until rules request
    ≡ course_of_rules naming moment (max (here + 1) until) 0 (drop (until - (here + 1)) rules) request
    → nat_lt here until ≡ test
    → course_of_rules naming moment here until (first ∷ rules) request
    ≡ course_of_rules naming moment (max here until) 0 (drop (until - here) (first ∷ rules)) request
jumped_first naming moment here until first rules request true later e =
    let below : here < until = ltb-true here until e in
    let same : max here until ≡ max (here + 1) until = omega arith in
    let fewer : until - here ≡ suc (until - (here + 1)) = omega arith in
    rw (e, same, fewer) later
jumped_first naming moment here until first rules request false later e =
    let over : until ≤ here = ltb-false here until e in
    let same : max here until ≡ here = omega arith in
    let none : until - here ≡ 0 = omega arith in
    rw (e, same, none, none_below here) refl

-- a jump passes over the rules before its number
jumped : (naming : Naming) (moment here until : ℕ) (rules : List WrittenRule) (request : Request)
    → course_of_rules naming moment here until rules request ≡ course_of_rules naming moment (max here until) 0 (drop (until - here) rules) request
jumped naming moment here until [] request = rw (drop-nil {A = WrittenRule} (until - here)) refl
jumped naming moment here until (first ∷ rules) request =
    jumped_first naming moment here until first rules request (nat_lt here until) (jumped naming moment (here + 1) until rules request) refl

-- rules that are passed over twice
drop_twice : (early late : ℕ) (rules : List WrittenRule) → drop late (drop early rules) ≡ drop (early + late) rules
drop_twice zero late rules = let same : zero + late ≡ late = omega arith in rw same refl
drop_twice (suc early) late [] = rw (drop-nil {A = WrittenRule} late, drop-nil {A = WrittenRule} (suc early + late)) refl
drop_twice (suc early) late (first ∷ rules) = let same : suc early + late ≡ suc (early + late) = omega arith in rw same (drop_twice early late rules)

-- a rule, and then those behind it
rule_first : (naming : Naming) (moment at : ℕ) (said : WrittenRule) (written : List WrittenRule) (request : Request)
    → drop at written ≡ said ∷ drop (at + 1) written
    → and_then (course_of_rule naming moment request said)
    (after_rule (λ number changed. course_of_rules naming moment (at + 1) number (drop (at + 1) written) changed))
    ≡ course_of_rules naming moment at 0 (drop at written) request
rule_first naming moment at said written request e = rw (e, none_below at) refl

-- behind the last rule
rules_over : (naming : Naming) (moment at : ℕ) (written : List WrittenRule) (request : Request) → length written ≤ at
    → course_of_rules naming moment at 0 (drop at written) request ≡ ended (record { ending = endings.OfTable; request = request })
rules_over naming moment at written request over = rw (drop_all at written over) refl

-- ---- how the rules were followed

-- what runs on from here is a run from the start
abbrev pub Passes : {Dsk : Type 0} → (Dsk → Dsk → List Asking → ℕ → Type 0) → Dsk → Dsk → Option (List ℕ) → Option (List ℕ) → ℕ → List Rule → Request → Request → ℕ
    → List Asked → List Asked → Type 0
Passes {Dsk} leads start here before now moment rules first request at list asks =
    (naming : Naming) (written : List WrittenRule) → AreRulesOf naming.names naming.labels rules written
    → (later : Dsk) (told : Option (List ℕ)) (after : List Asked) (result : Result Finish ChainEnd)
    → RunsTo (leads here later) now told moment (course_of_rules naming moment at 0 (drop at written) request) asks after result
    → RunsTo (leads start later) before told moment (course_of_rules naming moment 0 0 written first) list after result

-- what a rule did
abbrev RuleRuns : (List Asking → ℕ → Type 0) → Option (List ℕ) → Option (List ℕ) → ℕ → Rule → Request → List Asked → List Asked → Result Outcome ChainEnd → Type 0
RuleRuns led before now moment one request list after result =
    (naming : Naming) (said : WrittenRule) → IsRuleOf naming.names naming.labels one said
    → RunsTo led before now moment (course_of_rule naming moment request said) list after result

-- one rule more
pub passes_rule : {Dsk : Type 0} → (leads : Dsk → Dsk → List Asking → ℕ → Type 0)
    (adds : (a b c : Dsk) (early late : List Asking) (first more : ℕ) → leads a b early first → leads b c late more → leads a c (early ++ late) (first + more))
    (start here mid : Dsk) (before now next_told : Option (List ℕ)) (moment : ℕ) (rules : List Rule) (first request changed : Request) (at next : ℕ)
    (list asks between : List Asked) (one : Rule) (outcome : Outcome) → at < length rules → one ≡ get_or rules at one
    → RuleRuns (leads here mid) now next_told moment one request asks between (Ok outcome)
    → ((naming : Naming) (written : List WrittenRule)
    → course_of_rules naming moment next 0 (drop next written) changed
    ≡ after_rule (λ number other. course_of_rules naming moment (at + 1) number (drop (at + 1) written) other) outcome)
    → Passes leads start here before now moment rules first request at list asks
    → Passes leads start mid before next_told moment rules first changed next list between
passes_rule leads adds start here mid before now next_told moment rules first request changed at next list asks between one outcome below is runs goes_on passes
    naming written are later told after result further =
    let found = rule_at naming.names naming.labels rules written at one are below is in
    let behind : Outcome → Course Finish = after_rule (λ number other. course_of_rules naming moment (at + 1) number (drop (at + 1) written) other) in
    passes naming written are later told after result
    (RunsTo-same (leads here later) now told moment (and_then (course_of_rule naming moment request found.0) behind)
    (course_of_rules naming moment at 0 (drop at written) request) asks after result (rule_first naming moment at found.0 written request found.2)
    (RunsTo-then (leads here later) (leads here mid) (leads mid later) now next_told told moment (course_of_rule naming moment request found.0) behind
    asks between after outcome result (adds here mid later) (runs naming found.0 found.1)
    (RunsTo-same (leads mid later) next_told told moment (course_of_rules naming moment next 0 (drop next written) changed) (behind outcome) between after result
    (goes_on naming written) further)))

-- a rule that was not followed to its end
pub passes_fault : {Dsk : Type 0} → (leads : Dsk → Dsk → List Asking → ℕ → Type 0) (start here mid : Dsk) (before now told : Option (List ℕ)) (moment : ℕ)
    (rules : List Rule) (first request : Request) (at : ℕ) (list asks after : List Asked) (one : Rule) (end : ChainEnd)
    → at < length rules → one ≡ get_or rules at one
    → RuleRuns (leads here mid) now told moment one request asks after (Err end)
    → Passes leads start here before now moment rules first request at list asks
    → (naming : Naming) (written : List WrittenRule) → AreRulesOf naming.names naming.labels rules written
    → RunsTo (leads start mid) before told moment (course_of_rules naming moment 0 0 written first) list after (Err end)
passes_fault leads start here mid before now told moment rules first request at list asks after one end below is runs passes naming written are =
    let found = rule_at naming.names naming.labels rules written at one are below is in
    let behind : Outcome → Course Finish = after_rule (λ number other. course_of_rules naming moment (at + 1) number (drop (at + 1) written) other) in
    passes naming written are mid told after (Err end)
    (RunsTo-same (leads here mid) now told moment (and_then (course_of_rule naming moment request found.0) behind)
    (course_of_rules naming moment at 0 (drop at written) request) asks after (Err end) (rule_first naming moment at found.0 written request found.2)
    (RunsTo-fault (leads here mid) now told moment (course_of_rule naming moment request found.0) behind asks after end (runs naming found.0 found.1)))

-- a rule that ends the request
pub passes_ends : {Dsk : Type 0} → (leads : Dsk → Dsk → List Asking → ℕ → Type 0) (start here mid : Dsk) (before now told : Option (List ℕ)) (moment : ℕ)
    (rules : List Rule) (first request : Request) (at : ℕ) (list asks after : List Asked) (one : Rule) (ending : Ending) (last : Request)
    → at < length rules → one ≡ get_or rules at one
    → RuleRuns (leads here mid) now told moment one request asks after (Ok (outcomes.Ends ending last))
    → Passes leads start here before now moment rules first request at list asks
    → (naming : Naming) (written : List WrittenRule) → AreRulesOf naming.names naming.labels rules written
    → RunsTo (leads start mid) before told moment (course_of_rules naming moment 0 0 written first) list after (Ok (record { ending = ending; request = last }))
passes_ends leads start here mid before now told moment rules first request at list asks after one ending last below is runs passes naming written are =
    let found = rule_at naming.names naming.labels rules written at one are below is in
    let behind : Outcome → Course Finish = after_rule (λ number other. course_of_rules naming moment (at + 1) number (drop (at + 1) written) other) in
    passes naming written are mid told after (Ok (record { ending = ending; request = last }))
    (RunsTo-same (leads here mid) now told moment (and_then (course_of_rule naming moment request found.0) behind)
    (course_of_rules naming moment at 0 (drop at written) request) asks after (Ok (record { ending = ending; request = last })) (rule_first naming moment at found.0 written request found.2)
    (RunsTo-then_ended (leads here mid) now told moment (course_of_rule naming moment request found.0) behind asks after (outcomes.Ends ending last)
    (record { ending = ending; request = last })
    (runs naming found.0 found.1) refl))

-- behind the last rule the request ends
pub passes_over : {Dsk : Type 0} → (leads : Dsk → Dsk → List Asking → ℕ → Type 0) (none : (desk : Dsk) → leads desk desk [] 0) (start here : Dsk)
    (before now : Option (List ℕ)) (moment : ℕ) (rules : List Rule) (first request : Request) (at : ℕ) (list asks : List Asked)
    → length rules ≤ at
    → Passes leads start here before now moment rules first request at list asks
    → (naming : Naming) (written : List WrittenRule) → AreRulesOf naming.names naming.labels rules written
    → RunsTo (leads start here) before now moment (course_of_rules naming moment 0 0 written first) list asks (Ok (record { ending = endings.OfTable; request = request }))
passes_over leads none start here before now moment rules first request at list asks over passes naming written are =
    let many = as_many naming.names naming.labels rules written are in
    passes naming written are here now asks (Ok (record { ending = endings.OfTable; request = request }))
    (RunsTo-ended (leads here here) now moment (course_of_rules naming moment at 0 (drop at written) request) asks
    (record { ending = endings.OfTable; request = request }) (none here) (rules_over naming moment at written request (omega arith)))

-- a jump goes on at its number, or at the next rule
pub jump_goes_on : (naming : Naming) (moment at number next : ℕ) (written : List WrittenRule) (request : Request) → next ≡ max number (at + 1)
    → course_of_rules naming moment next 0 (drop next written) request ≡ course_of_rules naming moment (at + 1) number (drop (at + 1) written) request
jump_goes_on naming moment at number next written request is =
    let place : max (at + 1) number ≡ next = omega arith in
    let steps : (at + 1) + (number - (at + 1)) ≡ next = omega arith in
    let later : course_of_rules naming moment (max (at + 1) number) 0 (drop (number - (at + 1)) (drop (at + 1) written)) request
    ≡ course_of_rules naming moment next 0 (drop next written) request = rw (place, drop_twice (at + 1) (number - (at + 1)) written, steps) refl in
    sym (jumped naming moment (at + 1) number (drop (at + 1) written) request ∙ later)

-- no memory before the first rule
pub stops_first : {X : Type 0} → (led : List Asking → ℕ → Type 0) (told : Option (List ℕ)) (moment : ℕ) (course : Course X) (done : List Asked) → led [] 0 → done ≡ []
    → Stops led told told moment course done chains.Memory
stops_first led told moment course done none is = rw is (inl (course, refl, Led-none led told moment none))

-- ---- counts

-- nobody died
pub none_died : (before now : ℕ) → now ≡ before → HasCause before now false
none_died before now same = record {
  later = omega arith;
  rose = λ failed. absurd (false≢true failed);
  kept = λ _. same;
}
