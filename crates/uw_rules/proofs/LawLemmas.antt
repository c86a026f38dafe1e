-- Labels and the lines that have them.
use Rattle.std.proofs.Common.{◌≡◌, ℕ, zero, suc, ◌+◌, ◌-◌, ◌<◌, ◌≤◌, Bool, true, false, not, cond, nat_le, nat_lt, List, [], ◌∷◌, length, take, refl, sym, ap, ◌∙◌, subst, arith, Option, Some, None, option_and_then}
use Rattle.std.specs.List.{list_any, position_from, slice_get}
use Rattle.std.specs.Option.{option_map, option_map_or}
use Rattle.std.specs.Str.{bytes_eq}
use Rattle.std.proofs.lemmas.Bool.Decides.{nat_tests}
use Rattle.std.proofs.lemmas.List.{length-map, length-take}
use Rattle.std.proofs.lemmas.Option.{slice_get-map, slice_get_within}
use Rattle.std.proofs.lemmas.Slice.Eq.{bytes_eq-Decides}
use Rattle.uw_rules.specs.declared.kinds.RuleKind.{RuleKind}
use Rattle.uw_rules.specs.declared.kinds.RuleKind.TheVariants as kinds
use Rattle.uw_rules.specs.declared.lines.RuleLine.{RuleLine}
use Rattle.uw_rules.specs.declared.grammar.Table.{Table}
use Rattle.uw_rules.specs.declared.grammar.ActionName.{ActionName}
use Rattle.uw_rules.specs.declared.grammar.ActionName.TheVariants as actions
use Rattle.uw_rules.specs.Arguments.{SiteNames, is_ahead, is_label, is_missed_label, text_places}
use Rattle.uw_rules.specs.Grammar.{ArgumentShape, action_of}
use Rattle.uw_rules.specs.WrittenRules.{Phrase, WrittenTest, WrittenRule, unparted, label, rule, rule_of_line}
use Rattle.uw_rules.specs.Rules.{any_text_of_test, early_refusal, first_of_two, has_bad_pattern, has_bad_template, has_unknown_action, has_unknown_condition, has_unknown_name, is_bad_rule, is_label_of, is_label_twice, late_refusal, misses_label, pattern_refusal, place_of_label, refusal_of_rule, rule_refusal_at, table_of}
use Rattle.uw_rules.specs.Compiled.{cache_named}
use Rattle.uw_rules.specs.CompileSteps.{action_shape}
use Rattle.uw_rules.proofs.CompileLemmas.{action_has_shape}
use Rattle.uw_rules.proofs.RefusalLemmas.{both_false, late, passed}

-- ---- the first element that passes

record Found {X : Type 0} (test : X → Bool) (first : ℕ) (xs : List X) (place : ℕ) : Type 0 where
  at : X
  later : first ≤ place
  is_at : slice_get xs (place - first) ≡ Some at
  passes : test at ≡ true

deeper : {X : Type 0} (test : X → Bool) (first : ℕ) (x : X) (xs : List X) (place : ℕ) → Found test (first + 1) xs place → Found test first (x ∷ xs) place
deeper test first x xs place f =
    let next : place - first ≡ suc (place - (first + 1)) = omega (arith, f.later) in
    record { at = f.at; later = omega (arith, f.later); is_at = ap (slice_get (x ∷ xs)) next ∙ f.is_at; passes = f.passes }

found_step : {X : Type 0} (test : X → Bool) (first : ℕ) (x : X) (xs : List X) (place : ℕ) (b : Bool) → test x ≡ b
    → cond b (Some first) (position_from test (first + 1) xs) ≡ Some place → (position_from test (first + 1) xs ≡ Some place → Found test (first + 1) xs place)
    → Found test first (x ∷ xs) place
found_step test first x xs place true is h rest =
    let same : first ≡ place = cc in
    let none : place - first ≡ 0 = omega (arith, same) in
    record { at = x; later = omega (arith, same); is_at = ap (slice_get (x ∷ xs)) none; passes = is }
found_step test first x xs place false is h rest = deeper test first x xs place (rest h)

found : {X : Type 0} (test : X → Bool) (first : ℕ) (xs : List X) (place : ℕ) → position_from test first xs ≡ Some place → Found test first xs place
found test first [] place h = absurd (cc)
found test first (x ∷ xs) place h = found_step test first x xs place (test x) refl h (found test (first + 1) xs place)

hit_step : {X : Type 0} (test : X → Bool) (first n : ℕ) (xs : List X) (b : Bool) → (m : ℕ) × (position_from test (first + 1) xs ≡ Some m) × (m ≤ first + 1 + n)
    → (m : ℕ) × (cond b (Some first) (position_from test (first + 1) xs) ≡ Some m) × (m ≤ first + suc n)
hit_step test first n xs true h = (first, refl, omega arith)
hit_step test first n xs false h = (h.0, h.1, omega (arith, h.2))

-- where an element passes, the first one is no later
hit : {X : Type 0} (test : X → Bool) (first : ℕ) (xs : List X) (n : ℕ) (x : X) → slice_get xs n ≡ Some x → test x ≡ true
    → (m : ℕ) × (position_from test first xs ≡ Some m) × (m ≤ first + n)
hit test first [] n x at passes = absurd (cc)
hit test first (y ∷ xs) zero x at passes =
    let same : y ≡ x = cc in
    (first, ap (λ (b : Bool). cond b (Some first) (position_from test (first + 1) xs)) (ap test same ∙ passes), omega arith)
hit test first (y ∷ xs) (suc n) x at passes = hit_step test first n xs (test y) (hit test (first + 1) xs n x at passes)

-- ---- the rules of lines

get_take : {X : Type 0} (n k : ℕ) (xs : List X) → k < n → slice_get (take n xs) k ≡ slice_get xs k
get_take zero k xs h = absurd (omega arith)
get_take (suc n) k [] h = refl
get_take (suc n) zero (x ∷ xs) h = refl
get_take (suc n) (suc k) (x ∷ xs) h =
    let low : k < n = omega arith in
    get_take n k xs low

-- the rule of a place among the first lines is that of the place
front_rule : (lines : List RuleLine) (k : ℕ) → k < 4096 → slice_get (table_of (take 4096 lines)) k ≡ slice_get (table_of lines) k
front_rule lines k h =
    slice_get-map rule_of_line (take 4096 lines) k ∙ ap (option_map rule_of_line) (get_take 4096 k lines h) ∙ sym (slice_get-map rule_of_line lines k)

at_rule : (names : SiteNames) (lines : List RuleLine) (here : ℕ) (refused : Bool) (said : WrittenRule) → slice_get (table_of lines) here ≡ Some said
    → rule_refusal_at names lines here refused ≡ refusal_of_rule names (place_of_label lines) here refused said
unfolding rule_refusal_at
at_rule names lines here refused said h =
    ap (option_and_then (refusal_of_rule names (place_of_label lines) here refused)) (sym (slice_get-map rule_of_line lines here) ∙ h)

label_is : (text : List ℕ) (said : WrittenRule) → is_label_of text said ≡ true → said ≡ label text
label_is text unparted h = absurd (cc)
label_is text (label other) h = ap label ((bytes_eq-Decides other text).0 h)
label_is text (rule table test action) h = absurd (cc)

-- ---- labels that are not refused

label_taken : (names : SiteNames) (labels : List ℕ → Option ℕ) (here : ℕ) (text : List ℕ) → nat_le 4096 here ≡ false → is_label text ≡ true
    → option_map_or (λ (first : ℕ). nat_lt first here) (labels text) false ≡ false → refusal_of_rule names labels here false (label text) ≡ None
unfolding is_bad_rule has_unknown_condition has_bad_pattern has_unknown_action has_bad_template is_label_twice misses_label has_unknown_name
label_taken names labels here text few good first =
    let before : early_refusal here (label text) ≡ None =
    ap (λ (b : Bool). cond b (Some kinds.TooManyRules) (cond (not (is_label text)) (Some kinds.BadRule) None)) few
    ∙ ap (λ (b : Bool). cond (not b) (Some kinds.BadRule) None) good in
    let behind : late_refusal names labels here (label text) ≡ None = ap (λ (b : Bool). cond b (Some kinds.LabelTwice) None) first in
    let pattern : pattern_refusal false (label text) ≡ None = refl in
    late names labels here false (label text) before pattern ∙ behind

ahead_of : (here : ℕ) (place : Option ℕ) → is_ahead here place ≡ true → (there : ℕ) × (place ≡ Some there) × (here < there)
ahead_of here None h = absurd (cc)
ahead_of here (Some there) h = (there, refl, grind (arith, nat_tests))

not_behind : (there : ℕ) → nat_lt there there ≡ false
not_behind there = grind (arith, nat_tests)

is_few : (there : ℕ) → there < 4096 → nat_le 4096 there ≡ false
is_few there h = grind (arith, nat_tests)

pub label_ahead : (names : SiteNames) (lines : List RuleLine) (here : ℕ) (text : List ℕ) → is_label text ≡ true → is_ahead here (place_of_label lines text) ≡ true
    → (there : ℕ) × (here < there) × (slice_get (table_of lines) there ≡ Some (label text)) × (rule_refusal_at names lines there false ≡ None)
unfolding place_of_label
label_ahead names lines here text good h =
    let front = table_of (take 4096 lines) in
    let ahead = ahead_of here (place_of_label lines text) h in
    let there = ahead.0 in
    let f = found (is_label_of text) 0 front there ahead.1 in
    let same : there - 0 ≡ there = omega arith in
    let is : slice_get front there ≡ Some (label text) = ap (slice_get front) (sym same) ∙ f.is_at ∙ ap Some (label_is text f.at f.passes) in
    let inside : there < length front = slice_get_within front there (label text) is in
    let low : there < 4096 = omega (arith, length-map (take 4096 lines) rule_of_line, length-take 4096 lines) in
    let at : slice_get (table_of lines) there ≡ Some (label text) = sym (front_rule lines there low) ∙ is in
    let first : option_map_or (λ (first : ℕ). nat_lt first there) (place_of_label lines text) false ≡ false =
    ap (λ (place : Option ℕ). option_map_or (λ (first : ℕ). nat_lt first there) place false) ahead.1 ∙ not_behind there in
    (there, ahead.2, at, at_rule names lines there false (label text) at ∙ label_taken names (place_of_label lines) there text (is_few there low) good first)

-- ---- what is not refused

first_none : (a b : Option RuleKind) → first_of_two a b ≡ None → (a ≡ None) × (b ≡ None)
first_none None b h = (refl, h)
first_none (Some kind) b h = absurd (cc)

pub not_refused : (names : SiteNames) (labels : List ℕ → Option ℕ) (here : ℕ) (said : WrittenRule) → refusal_of_rule names labels here false said ≡ None
    → (early_refusal here said ≡ None) × (late_refusal names labels here said ≡ None)
unfolding refusal_of_rule
not_refused names labels here said h =
    let first = first_none _ _ h in
    (first.0, (first_none _ _ first.1).1)

not_twice : (labels : List ℕ → Option ℕ) (here : ℕ) (text : List ℕ) → is_label_twice labels here (label text) ≡ false
    → option_map_or (λ (first : ℕ). nat_lt first here) (labels text) false ≡ false
unfolding is_label_twice
not_twice labels here text h = h

no_more : (there m : ℕ) (place : Option ℕ) → place ≡ Some m → option_map_or (λ (first : ℕ). nat_lt first there) place false ≡ false → there ≤ m
no_more there m place is h =
    let least : nat_lt m there ≡ false = ap (λ (p : Option ℕ). option_map_or (λ (first : ℕ). nat_lt first there) p false) (sym is) ∙ h in
    grind (arith, nat_tests)

lt_true : (here there : ℕ) → here < there → nat_lt here there ≡ true
lt_true here there h = grind (arith, nat_tests)

le_false : (there : ℕ) → nat_le 4096 there ≡ false → there < 4096
le_false there h = grind (arith, nat_tests)

pub label_later : (names : SiteNames) (lines : List RuleLine) (here there : ℕ) (text : List ℕ) → here < there → slice_get (table_of lines) there ≡ Some (label text)
    → rule_refusal_at names lines there false ≡ None → is_ahead here (place_of_label lines text) ≡ true
unfolding place_of_label
label_later names lines here there text below at free =
    let front = table_of (take 4096 lines) in
    let none = not_refused names (place_of_label lines) there (label text) (sym (at_rule names lines there false (label text) at) ∙ free) in
    let few = passed (nat_le 4096 there) _ _ none.0 in
    let low : there < 4096 = le_false there few.0 in
    let done = passed (has_unknown_action (label text)) _ _ none.1 in
    let good = passed (has_bad_template (label text)) _ _ done.1 in
    let once = passed (is_label_twice (place_of_label lines) there (label text)) _ _ good.1 in
    let self : is_label_of text (label text) ≡ true = (bytes_eq-Decides text text).1 refl in
    let first = hit (is_label_of text) 0 front there (label text) (front_rule lines there low ∙ at) self in
    let least : there ≤ first.0 = no_more there first.0 (place_of_label lines text) first.1 (not_twice (place_of_label lines) there text once.0) in
    let place : here < first.0 = omega (arith, least, below) in
    ap (is_ahead here) first.1 ∙ lt_true here first.0 place

-- ---- a `goto`

not_false : (b : Bool) → not b ≡ false → b ≡ true
not_false true h = refl
not_false false h = absurd (cc)

pub goto_ahead : (names : SiteNames) (lines : List RuleLine) (here : ℕ) (table : Table) (test : WrittenTest) (action : Phrase) (shape : ArgumentShape) (text : List ℕ)
    → slice_get (table_of lines) here ≡ Some (rule table test action) → action_of table action.name ≡ Some (actions.Goto, shape) → action.argument ≡ Some text
    → rule_refusal_at names lines here false ≡ None → is_ahead here (place_of_label lines text) ≡ true
unfolding misses_label
goto_ahead names lines here table test action shape text at known says free =
    let labels = place_of_label lines in
    let said = rule table test action in
    let none = not_refused names labels here said (sym (at_rule names lines here false said at) ∙ free) in
    let done = passed (has_unknown_action said) _ _ none.1 in
    let good = passed (has_bad_template said) _ _ done.1 in
    let once = passed (is_label_twice labels here said) _ _ good.1 in
    let missed = passed (misses_label labels here said) _ _ once.1 in
    let missed_action = (both_false (any_text_of_test (is_missed_label labels here) test) _ missed.0).1 in
    let of_row : list_any (is_missed_label labels here) (text_places shape action.argument) ≡ false =
    subst (λ (row : Option (ActionName × ArgumentShape)). option_map_or (λ (k : ActionName × ArgumentShape). list_any (is_missed_label labels here) (text_places k.1 action.argument)) row false ≡ false)
    known missed_action in
    let of_shape : list_any (is_missed_label labels here) (text_places (action_shape actions.Goto) action.argument) ≡ false =
    subst (λ (s : ArgumentShape). list_any (is_missed_label labels here) (text_places s action.argument) ≡ false)
    (action_has_shape table action.name (actions.Goto, shape) known) of_row in
    let of_text : list_any (is_missed_label labels here) (text_places (action_shape actions.Goto) (Some text)) ≡ false =
    subst (λ (argument : Option (List ℕ)). list_any (is_missed_label labels here) (text_places (action_shape actions.Goto) argument) ≡ false) says of_shape in
    not_false (is_ahead here (labels text)) (both_false _ _ of_text).0

-- ---- caches

pub cache_below : (names : List (List ℕ)) (text : Option (List ℕ)) (number : ℕ) → cache_named names text ≡ Some number → number < length names
unfolding cache_named
cache_below names None number h = absurd (cc)
cache_below names (Some name) number h =
    let f = found (bytes_eq name) 0 names number h in
    let inside : number - 0 < length names = slice_get_within names (number - 0) f.at f.is_at in
    omega arith
