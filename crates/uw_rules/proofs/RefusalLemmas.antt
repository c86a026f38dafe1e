-- The refusals of a rule, one after the other.
use Rattle.std.proofs.Common.{◌≡◌, inl, inr, ℕ, Bool, true, false, not, ◌||◌, cond, List, refl, sym, ap, ◌∙◌, Option, Some, None, IsSomeAnd, Err, nat_le}
use Rattle.std.specs.List.{list_any}
use Rattle.std.specs.Option.{is_some, is_none, option_map_or}
use Rattle.regex.specs.declared.bytes.regex.Regex.{Regex}
use Rattle.uw_rules.specs.declared.kinds.RuleKind.{RuleKind}
use Rattle.uw_rules.specs.declared.kinds.RuleKind.TheVariants as kinds
use Rattle.uw_rules.specs.declared.kinds.Refusal.{Refusal}
use Rattle.uw_rules.specs.declared.kinds.Refusal.TheVariants as refusals
use Rattle.uw_rules.specs.declared.grammar.ConditionName.{ConditionName}
use Rattle.uw_rules.specs.Grammar.{ArgumentShape, action_of, condition_of}
use Rattle.uw_rules.specs.Arguments.{SiteNames, is_bad_argument, is_bad_template, is_unknown_name, text_places}
use Rattle.uw_rules.specs.Patterns.{is_pattern}
use Rattle.uw_rules.specs.WrittenRules.{WrittenTest, WrittenRule, always, matching, holding, unparted, label, rule}
use Rattle.uw_rules.specs.Rules.{early_refusal, first_of_two, has_bad_pattern, has_bad_template, has_pattern, has_unknown_action, has_unknown_condition, has_unknown_name, is_bad_rule, is_bad_test, is_label_twice, misses_label, is_unknown_test, any_text_of_test, late_refusal, pattern_of_rule, pattern_refusal, refusal_of_rule}
use Rattle.uw_rules.specs.CompileSteps.{CanCompile, CanCompileAction, CanCompileCondition, CanCompileTest, IsPatternIn}
use Rattle.uw_rules.specs.TableSteps.{GivesPatternIfAny, GivesRule, IsPatternRefusal}

-- a rule that is refused before its pattern is looked at
pub early : (names : SiteNames) (labels : List ℕ → Option ℕ) (here : ℕ) (refused : Bool) (written : WrittenRule) (kind : RuleKind)
    → early_refusal here written ≡ Some kind → refusal_of_rule names labels here refused written ≡ Some kind
unfolding refusal_of_rule
early names labels here refused written kind h =
    ap (λ (first : Option RuleKind). first_of_two first (first_of_two (pattern_refusal refused written) (late_refusal names labels here written))) h

-- a rule that is refused for its pattern
pub by_pattern : (names : SiteNames) (labels : List ℕ → Option ℕ) (here : ℕ) (refused : Bool) (written : WrittenRule) (kind : RuleKind)
    → early_refusal here written ≡ None → pattern_refusal refused written ≡ Some kind → refusal_of_rule names labels here refused written ≡ Some kind
unfolding refusal_of_rule
by_pattern names labels here refused written kind none h =
    ap (λ (first : Option RuleKind). first_of_two first (first_of_two (pattern_refusal refused written) (late_refusal names labels here written))) none
    ∙ ap (λ (first : Option RuleKind). first_of_two first (late_refusal names labels here written)) h

-- a rule that is refused for neither is refused for what comes behind its pattern, if it is
pub late : (names : SiteNames) (labels : List ℕ → Option ℕ) (here : ℕ) (refused : Bool) (written : WrittenRule)
    → early_refusal here written ≡ None → pattern_refusal refused written ≡ None → refusal_of_rule names labels here refused written ≡ late_refusal names labels here written
unfolding refusal_of_rule
late names labels here refused written none no_pattern =
    ap (λ (first : Option RuleKind). first_of_two first (first_of_two (pattern_refusal refused written) (late_refusal names labels here written))) none
    ∙ ap (λ (first : Option RuleKind). first_of_two first (late_refusal names labels here written)) no_pattern

-- ---- patterns

module _ (written : WrittenRule) where
  seen_bad : (text : Option (List ℕ)) → pattern_of_rule written ≡ text → has_bad_pattern written ≡ option_map_or (λ (t : List ℕ). not (is_pattern t)) text false
  unfolding has_bad_pattern
  seen_bad text h = ap (λ (x : Option (List ℕ)). option_map_or (λ (t : List ℕ). not (is_pattern t)) x false) h

  seen_there : (text : Option (List ℕ)) → pattern_of_rule written ≡ text → has_pattern written ≡ is_some text
  unfolding has_pattern
  seen_there text h = ap is_some h

  bad_step : (bad : Bool) → has_bad_pattern written ≡ bad → pattern_refusal false written ≡ cond bad (Some kinds.BadPattern) None
  bad_step bad h = ap (λ (b : Bool). cond b (Some kinds.BadPattern) None) h

  refused_step : (there : Bool) → has_pattern written ≡ there → there ≡ true → pattern_refusal true written ≡ Some kinds.PatternRefused
  refused_step there h so =
      ap (λ (b : Bool). cond b (Some kinds.PatternRefused) (cond (has_bad_pattern written) (Some kinds.BadPattern) None)) (h ∙ so)

  good_pattern : (text : Option (List ℕ)) (pattern : Option Regex) → IsPatternIn text pattern → option_map_or (λ (t : List ℕ). not (is_pattern t)) text false ≡ false
  good_pattern None None h = refl
  good_pattern None (Some pattern) h = absurd h
  good_pattern (Some text) None h = absurd h
  good_pattern (Some text) (Some pattern) h = ap not h.good

  -- a rule whose pattern was built is not refused for it
  pub no_pattern_refusal : (pattern : Option Regex) → IsPatternIn (pattern_of_rule written) pattern → pattern_refusal false written ≡ None
  no_pattern_refusal pattern h = bad_step false (seen_bad (pattern_of_rule written) refl ∙ good_pattern (pattern_of_rule written) pattern h)

  module _ (names : SiteNames) (labels : List ℕ → Option ℕ) (here before after : ℕ) (none : early_refusal here written ≡ None) where
    one_refusal : (text : List ℕ) (kind : RuleKind) → pattern_of_rule written ≡ Some text → IsPatternRefusal before after text kind
        → GivesRule names labels here before after written (Err (refusals.Refused kind))
    one_refusal text kind h (inl bad) =
        inl
        (by_pattern names labels here false written kind none
        (bad_step true (seen_bad (Some text) h ∙ ap not bad.1) ∙ ap Some (sym bad.0)))
    one_refusal text kind h (inr refused) =
        inr
        (by_pattern names labels here true written kind none (refused_step true (seen_there (Some text) h) refl ∙ ap Some (sym refused.0)), refused.0, refused.1)

    a_refusal : (text : Option (List ℕ)) (kind : RuleKind) → pattern_of_rule written ≡ text
        → IsSomeAnd text (λ (some : List ℕ). IsPatternRefusal before after some kind) → GivesRule names labels here before after written (Err (refusals.Refused kind))
    a_refusal None kind h refused = absurd refused
    a_refusal (Some text) kind h refused = one_refusal text kind h refused

    -- a rule whose pattern is refused
    pub refused_for_pattern : (refusal : Refusal) → GivesPatternIfAny before after (pattern_of_rule written) (Err refusal)
        → GivesRule names labels here before after written (Err refusal)
    refused_for_pattern (refusals.Refused kind) h = a_refusal (pattern_of_rule written) kind refl h
    refused_for_pattern refusals.Memory h = tt

-- ---- what a rule that is not refused has

pub both_false : (a b : Bool) → (a || b) ≡ false → (a ≡ false) × (b ≡ false)
both_false true b h = absurd (cc)
both_false false b h = (refl, h)

pub passed : (b : Bool) (kind : RuleKind) (rest : Option RuleKind) → cond b (Some kind) rest ≡ None → (b ≡ false) × (rest ≡ None)
passed true kind rest h = absurd (cc)
passed false kind rest h = (refl, h)

known_good : {N : Type 0} (names : SiteNames) (row : Option (N × ArgumentShape)) (argument : Option (List ℕ)) → is_none row ≡ false
    → option_map_or (λ (k : N × ArgumentShape). list_any is_bad_template (text_places k.1 argument)) row false ≡ false
    → option_map_or (λ (k : N × ArgumentShape). list_any (is_unknown_name names) (text_places k.1 argument)) row false ≡ false
    → IsSomeAnd row (λ (k : N × ArgumentShape). CanCompileAction names k.1 argument)
known_good names None argument there templates known = absurd (cc)
known_good names (Some k) argument there templates known = record { templates_good = templates; names_known = known }

known_condition : (row : Option (ConditionName × ArgumentShape)) (argument : Option (List ℕ)) → is_none row ≡ false
    → option_map_or (λ (k : ConditionName × ArgumentShape). is_bad_argument k.1 argument) row false ≡ false
    → option_map_or (λ (k : ConditionName × ArgumentShape). list_any is_bad_template (text_places k.1 argument)) row false ≡ false
    → IsSomeAnd row (λ (k : ConditionName × ArgumentShape). CanCompileCondition k argument)
known_condition None argument there good templates = absurd (cc)
known_condition (Some k) argument there good templates = record { argument_good = good; templates_good = templates }

test_can : (test : WrittenTest) → is_bad_test test ≡ false → is_unknown_test test ≡ false → any_text_of_test is_bad_template test ≡ false → CanCompileTest test
test_can always good there templates = tt
test_can (matching subject pattern) good there templates = tt
test_can (holding negated condition) good there templates = known_condition (condition_of condition.name) condition.argument there good templates

rule_can : (names : SiteNames) (written : WrittenRule) → is_bad_rule written ≡ false → has_unknown_condition written ≡ false
    → has_unknown_action written ≡ false → has_bad_template written ≡ false → has_unknown_name names written ≡ false → CanCompile names written
unfolding is_bad_rule has_unknown_condition has_unknown_action has_bad_template has_unknown_name
rule_can names unparted good there done templates known = absurd (cc)
rule_can names (label text) good there done templates known = tt
rule_can names (rule table test action) good there done templates known =
    let texts = both_false (any_text_of_test is_bad_template test) _ templates in
    let parts = both_false (any_text_of_test (is_unknown_name names) test) _ known in (
      test_can test (both_false (is_bad_test test) _ good).0 there texts.0,
      known_good names (action_of table action.name) action.argument done texts.1 parts.1,
    )

-- a rule that is not refused can be compiled
pub can_compile : (names : SiteNames) (labels : List ℕ → Option ℕ) (here : ℕ) (written : WrittenRule) → early_refusal here written ≡ None
    → late_refusal names labels here written ≡ None → CanCompile names written
can_compile names labels here written none last =
    let few = passed (nat_le 4096 here) _ _ none in
    let good = passed (is_bad_rule written) _ _ few.1 in
    let there = passed (has_unknown_condition written) _ _ good.1 in
    let done = passed (has_unknown_action written) _ _ last in
    let templates = passed (has_bad_template written) _ _ done.1 in
    let once = passed (is_label_twice labels here written) _ _ templates.1 in
    let ahead = passed (misses_label labels here written) _ _ once.1 in
    let known = passed (has_unknown_name names written) _ _ ahead.1 in
    rule_can names written good.0 there.0 done.0 templates.0 known.0
