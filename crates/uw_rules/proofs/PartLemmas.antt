-- A rule that is not refused asks caches and areas that there are.
use Rattle.std.proofs.Common.{◌≡◌, ℕ, suc, ◌<◌, ◌==◌, nat_le, true, false, not, List, [], ◌∷◌, length, refl, sym, subst, ◌∙◌, arith, Option, Some, None, IfOk, IsSomeAnd, Result, Ok, Err, option_and_then, unwrap_or}
use Rattle.std.specs.List.{AllByRecursion, list_any, slice_get}
use Rattle.std.specs.Option.{is_none, option_map_or}
use Rattle.std.specs.Str.{bytes_eq}
use Rattle.std.proofs.lemmas.Bool.Decides.{nat_tests}
use Rattle.std.proofs.lemmas.Option.{slice_get_within}
use Rattle.uw_base.specs.Numbers.{decimal_of}
use Rattle.uw_model.specs.Asks.{DeskParts}
use Rattle.uw_rules.specs.declared.compiled.Condition.{Condition}
use Rattle.uw_rules.specs.declared.compiled.Condition.TheVariants as asks
use Rattle.uw_rules.specs.declared.compiled.Test.{Test}
use Rattle.uw_rules.specs.declared.compiled.Test.TheVariants as tests
use Rattle.uw_rules.specs.declared.compiled.Action.{Action}
use Rattle.uw_rules.specs.declared.compiled.Rule.{Rule}
use Rattle.uw_rules.specs.declared.compiled.Rule.TheVariants as compiled
use Rattle.uw_rules.specs.declared.compiled.RuleTable.{RuleTable}
use Rattle.uw_rules.specs.declared.grammar.Table.{Table}
use Rattle.uw_rules.specs.declared.grammar.TextKind.TheVariants as texts
use Rattle.uw_rules.specs.declared.grammar.ActionName.{ActionName}
use Rattle.uw_rules.specs.declared.grammar.ActionName.TheVariants as actions
use Rattle.uw_rules.specs.declared.grammar.ConditionName.{ConditionName}
use Rattle.uw_rules.specs.declared.grammar.ConditionName.TheVariants as conditions
use Rattle.uw_rules.specs.declared.kinds.RulesError.{RulesError}
use Rattle.uw_rules.specs.declared.lines.RuleLine.{RuleLine}
use Rattle.uw_rules.specs.Arguments.{SiteNames, is_bad_argument, is_bad_text, is_unknown_name}
use Rattle.uw_rules.specs.Compiled.{IsConditionOf, IsRuleOf, IsTestOf, action_meant, cache_named, rules_of}
use Rattle.uw_rules.specs.CompileSteps.{KnowsNames, action_shape, condition_shape}
use Rattle.uw_rules.specs.Grammar.{ArgumentShape, action_of, condition_of}
use Rattle.uw_rules.specs.PartNumbers.{ActionAsksBelow, AskPartsBelow, ConditionAsksBelow, IsNumberBelow, RuleAsksBelow, TestAsksBelow}
use Rattle.uw_rules.specs.Rules.{any_place, any_text_of_test, has_bad_template, has_unknown_action, has_unknown_name, is_bad_phrase, is_bad_rule, is_bad_test, is_label_twice, misses_label, place_of_label, refusal_of_rule, table_of}
use Rattle.uw_rules.specs.Tables.{AreRulesOf, NoneRefusedBefore, ReadsRules}
use Rattle.uw_rules.specs.WrittenRules.{WrittenRule, WrittenTest, always, holding, label, matching, rule, rule_of_line, unparted}
use Rattle.uw_rules.proofs.CompileLemmas.{action_has_shape, condition_has_shape}
use Rattle.uw_rules.proofs.LawLemmas.{cache_below, not_refused}
use Rattle.uw_rules.proofs.RefusalLemmas.{both_false, passed}
use Rattle.uw_rules.proofs.TableLemmas.{refusal_here}

-- ---- one name

-- the name of a cache that is not refused: there is a cache
there_is_one : (names : List (List ℕ)) (text : Option (List ℕ))
    → option_map_or (λ (t : List ℕ). not (list_any (λ (name : List ℕ). bytes_eq name t) names)) text (length names == 0) ≡ false → 0 < length names
there_is_one [] None h = absurd (cc)
there_is_one [] (Some text) h = absurd (cc)
there_is_one (name ∷ names) text h = omega arith

number_below : (names : List (List ℕ)) (text : Option (List ℕ)) (number : Option ℕ) → cache_named names text ≡ number → 0 < length names → IsNumberBelow (length names) number
number_below names text None h some = some
number_below names text (Some number) h some = cache_below names text number h

-- so its number is below their count
named_below : (names : List (List ℕ)) (text : Option (List ℕ))
    → option_map_or (λ (t : List ℕ). not (list_any (λ (name : List ℕ). bytes_eq name t) names)) text (length names == 0) ≡ false → IsNumberBelow (length names) (cache_named names text)
named_below names text h = number_below names text (cache_named names text) refl (there_is_one names text h)

-- a number that stands and is not refused is below the count
number_taken : (areas : ℕ) (number : Option ℕ) → is_none number ≡ false → option_map_or (λ (n : ℕ). nat_le areas n) number false ≡ false → unwrap_or number 0 < areas
number_taken areas None stands h = absurd (cc)
number_taken areas (Some number) stands h = grind (arith, nat_tests)

-- so is the number of an area
area_below : (areas : ℕ) (text : Option (List ℕ)) → option_map_or (is_bad_text texts.Area) text true ≡ false
    → option_map_or (λ (n : ℕ). nat_le areas n) (option_and_then decimal_of text) false ≡ false → unwrap_or (option_and_then decimal_of text) 0 < areas
unfolding is_bad_text
area_below areas None good known = absurd (cc)
area_below areas (Some text) good known = number_taken areas (decimal_of text) good known

-- ---- conditions and actions

module _ (names : SiteNames) where
  -- the parts that the names are of
  abbrev parts : DeskParts
  parts = record { caches = length names.caches; areas = names.areas }

  meant_below : (labels : List ℕ → Option ℕ) (name : ActionName) (argument : Option (List ℕ)) → is_bad_argument (action_shape name) argument ≡ false
      → KnowsNames names (action_shape name) argument → ActionAsksBelow parts (action_meant names.caches labels name argument)
  unfolding is_bad_argument
  meant_below labels actions.Continue argument good h = tt
  meant_below labels actions.Break argument good h = tt
  meant_below labels actions.Return argument good h = tt
  meant_below labels actions.Goto argument good h = tt
  meant_below labels actions.Redirect argument good h = tt
  meant_below labels actions.RedirectPermanent argument good h = tt
  meant_below labels actions.Rewrite argument good h = tt
  meant_below labels actions.AddVar argument good h = tt
  meant_below labels actions.AddHeader argument good h = tt
  meant_below labels actions.Send argument good h = tt
  meant_below labels actions.Cache argument good h = named_below names.caches _ (both_false _ _ h).0
  meant_below labels actions.CacheVar argument good h = named_below names.caches _ (both_false _ _ h).0
  meant_below labels actions.CacheSet argument good h = named_below names.caches _ (both_false _ _ h).0
  meant_below labels actions.CacheUpdate argument good h = named_below names.caches _ (both_false _ _ h).0
  meant_below labels actions.CacheDel argument good h = named_below names.caches _ (both_false _ _ h).0
  meant_below labels actions.CacheInc argument good h = named_below names.caches _ (both_false _ _ h).0
  meant_below labels actions.CacheDec argument good h = named_below names.caches _ (both_false _ _ h).0
  meant_below labels actions.CacheMul argument good h = named_below names.caches _ (both_false _ _ h).0
  meant_below labels actions.CacheDiv argument good h = named_below names.caches _ (both_false _ _ h).0
  meant_below labels actions.AreaRead argument good h = area_below names.areas _ (both_false _ _ (both_false _ _ good).1).0 (both_false _ _ h).0
  meant_below labels actions.AreaWrite argument good h = area_below names.areas _ (both_false _ _ (both_false _ _ good).1).0 (both_false _ _ h).0
  meant_below labels actions.AreaNum argument good h = area_below names.areas _ (both_false _ _ (both_false _ _ good).1).0 (both_false _ _ h).0
  meant_below labels actions.AreaSet argument good h = area_below names.areas _ (both_false _ _ (both_false _ _ good).1).0 (both_false _ _ h).0
  meant_below labels actions.AreaInc argument good h = area_below names.areas _ (both_false _ _ (both_false _ _ good).1).0 (both_false _ _ h).0
  meant_below labels actions.AreaDec argument good h = area_below names.areas _ (both_false _ _ (both_false _ _ good).1).0 (both_false _ _ h).0
  meant_below labels actions.AreaUpdates argument good h = area_below names.areas _ (both_false _ _ (both_false _ _ good).1).0 (both_false _ _ h).0
  meant_below labels actions.Spool argument good h = tt
  meant_below labels actions.SpoolEnd argument good h = tt

  condition_below : (condition : Condition) (name : ConditionName) (argument : Option (List ℕ)) → IsConditionOf names.caches condition name argument
      → KnowsNames names (condition_shape name) argument → ConditionAsksBelow parts condition
  condition_below condition conditions.Equal argument is h = subst (ConditionAsksBelow parts) (sym is) tt
  condition_below condition conditions.StartsWith argument is h = subst (ConditionAsksBelow parts) (sym is) tt
  condition_below condition conditions.EndsWith argument is h = subst (ConditionAsksBelow parts) (sym is) tt
  condition_below condition conditions.Contains argument is h = subst (ConditionAsksBelow parts) (sym is) tt
  condition_below condition conditions.Empty argument is h = subst (ConditionAsksBelow parts) (sym is) tt
  condition_below (asks.Regexp text pattern) conditions.Regexp argument is h = tt
  condition_below (asks.InCache key cache) conditions.Regexp argument is h = absurd is
  condition_below _ conditions.Regexp argument is h = tt
  condition_below condition conditions.InCache argument is h =
      subst (ConditionAsksBelow parts) (sym is) (named_below names.caches _ (both_false _ _ h).0)

  -- ---- rules

  -- an action that is the written one, by its row
  action_below : (labels : List ℕ → Option ℕ) (action : Action) (table : Table) (name : List ℕ) (argument : Option (List ℕ)) (row : Option (ActionName × ArgumentShape))
      → action_of table name ≡ row → IsSomeAnd row (λ (known : ActionName × ArgumentShape). action ≡ action_meant names.caches labels known.0 argument)
      → is_bad_phrase row argument ≡ false → any_place (is_unknown_name names) row argument ≡ false → ActionAsksBelow parts action
  action_below labels action table name argument None found is good h = absurd is
  action_below labels action table name argument (Some known) found is good h =
      let shape = action_has_shape table name known found in
      subst (ActionAsksBelow parts) (sym is)
      (meant_below labels known.0 argument (subst (λ (s : ArgumentShape). is_bad_argument s argument ≡ false) shape good)
      (subst (λ (s : ArgumentShape). KnowsNames names s argument) shape h))

  -- a condition that is the written one, by its row
  condition_of_row_below : (condition : Condition) (name : List ℕ) (argument : Option (List ℕ)) (row : Option (ConditionName × ArgumentShape)) → condition_of name ≡ row
      → IsSomeAnd row (λ (known : ConditionName × ArgumentShape). IsConditionOf names.caches condition known.0 argument) → any_place (is_unknown_name names) row argument ≡ false
      → ConditionAsksBelow parts condition
  condition_of_row_below condition name argument None found is h = absurd is
  condition_of_row_below condition name argument (Some known) found is h =
      condition_below condition known.0 argument is (subst (λ (shape : ArgumentShape). KnowsNames names shape argument) (condition_has_shape name known found) h)

  test_below : (test : Test) (written : WrittenTest) → IsTestOf names.caches test written → any_text_of_test (is_unknown_name names) written ≡ false → TestAsksBelow parts test
  test_below tests.Always written is h = tt
  test_below (tests.Matches subject pattern) written is h = tt
  test_below (tests.Holds negated condition) always is h = absurd is
  test_below (tests.Holds negated condition) (matching subject text) is h = absurd is
  test_below (tests.Holds negated condition) (holding written_negated phrase) is h =
      condition_of_row_below condition phrase.name phrase.argument (condition_of phrase.name) refl is.1 h

  -- the names of a rule are known, and its arguments are good
  record IsKnown (written : WrittenRule) : Type 0 where
    names_known : has_unknown_name names written ≡ false
    arguments_good : is_bad_rule written ≡ false

  -- a compiled rule that is a written one of known names
  rule_below : (labels : List ℕ → Option ℕ) (one : Rule) (written : WrittenRule) → IsRuleOf names.caches labels one written → has_unknown_name names written ≡ false
      → is_bad_rule written ≡ false → RuleAsksBelow parts one
  unfolding has_unknown_name is_bad_rule
  rule_below labels compiled.Label written is h good = tt
  rule_below labels (compiled.Act test action) unparted is h good = absurd is
  rule_below labels (compiled.Act test action) (label text) is h good = absurd is
  rule_below labels (compiled.Act test action) (rule table written_test phrase) is h good =
      let known = both_false (any_text_of_test (is_unknown_name names) written_test) _ h in
      let fine = both_false (is_bad_test written_test) _ good in (
        test_below test written_test is.0 known.0,
        action_below labels action table phrase.name phrase.argument (action_of table phrase.name) refl is.1 fine.1 known.1,
      )

  rules_below : (labels : List ℕ → Option ℕ) (rules : List Rule) (written : List WrittenRule) → AreRulesOf names.caches labels rules written
      → AllByRecursion IsKnown written → AskPartsBelow parts rules
  rules_below labels [] written are h = tt
  rules_below labels (one ∷ rules) [] are h = absurd are
  rules_below labels (one ∷ rules) (said ∷ written) are h =
      (rule_below labels one said are.0 h.0.names_known h.0.arguments_good, rules_below labels rules written are.1 h.1)

  -- ---- tables

  -- the names of a rule that is not refused are known, and its arguments are good
  known_names : (labels : List ℕ → Option ℕ) (here : ℕ) (said : WrittenRule) → refusal_of_rule names labels here false said ≡ None → IsKnown said
  known_names labels here said free =
      let none = not_refused names labels here said free in
      let few = passed (nat_le 4096 here) _ _ none.0 in
      let fine = passed (is_bad_rule said) _ _ few.1 in
      let done = passed (has_unknown_action said) _ _ none.1 in
      let good = passed (has_bad_template said) _ _ done.1 in
      let once = passed (is_label_twice labels here said) _ _ good.1 in
      let ahead = passed (misses_label labels here said) _ _ once.1 in
      record { names_known = (passed (has_unknown_name names said) _ _ ahead.1).0; arguments_good = fine.0 }

  each_known : (lines : List RuleLine) → ((here : ℕ) (line : RuleLine) → slice_get lines here ≡ Some line → IsKnown (rule_of_line line))
      → AllByRecursion IsKnown (table_of lines)
  each_known [] h = tt
  each_known (line ∷ lines) h = (h 0 line refl, each_known lines (λ here one at. h (suc here) one at))

  -- rules that are those of lines of which none is refused
  pub asked_below : (labels : List ℕ → Option ℕ) (lines : List RuleLine) (rules : List Rule) → NoneRefusedBefore names lines (length lines)
      → AreRulesOf names.caches labels rules (table_of lines) → AskPartsBelow parts rules
  asked_below labels lines rules free are =
      let known : (here : ℕ) (line : RuleLine) → slice_get lines here ≡ Some line → IsKnown (rule_of_line line) =
      λ here line at. known_names (place_of_label lines) here (rule_of_line line)
      (sym (refusal_here names lines here line false at) ∙ free here (slice_get_within lines here line at)) in
      rules_below labels rules (table_of lines) are (each_known lines known)

  -- the rules of a table that was read
  pub table_below : (lines : List RuleLine) (before after : ℕ) (result : Result RuleTable RulesError) → ReadsRules names lines before after result
      → IfOk result (λ (table : RuleTable). AskPartsBelow parts (rules_of table))
  table_below lines before after (Ok table) reads = asked_below (place_of_label lines) lines (rules_of table) reads.0 reads.1
  table_below lines before after (Err error) reads = tt
