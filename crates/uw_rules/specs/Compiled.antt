-- What a compiled rule is of a written one.
use Rattle.std.specs.Prelude.{◌≡◌, ℕ, List, [], codes, map, Option, unwrap_or, option_and_then, ℤ, pos, IsSomeAnd}
use Rattle.std.specs.List.{position_from}
use Rattle.std.specs.Str.{bytes_eq}
use Rattle.uw_base.specs.Numbers.{decimal_of, signed_of}
use Rattle.uw_model.specs.declared.calls.MathOp.{MathOp}
use Rattle.uw_model.specs.declared.calls.MathOp.TheVariants as ops
use Rattle.uw_model.specs.declared.areas.Width.{Width}
use Rattle.uw_model.specs.declared.areas.Width.TheVariants as widths
use Rattle.uw_rules.specs.declared.grammar.Table.{Table}
use Rattle.uw_rules.specs.declared.grammar.ConditionName.{ConditionName}
use Rattle.uw_rules.specs.declared.grammar.ConditionName.TheVariants as conditions
use Rattle.uw_rules.specs.declared.grammar.ActionName.{ActionName}
use Rattle.uw_rules.specs.declared.grammar.ActionName.TheVariants as actions
use Rattle.uw_rules.specs.declared.compiled.CacheWrite.{CacheWrite}
use Rattle.uw_rules.specs.declared.compiled.AreaStep.{AreaStep}
use Rattle.uw_rules.specs.declared.compiled.AreaStep.TheVariants as steps
use Rattle.uw_rules.specs.declared.compiled.TaskPair.{TaskPair}
use Rattle.uw_rules.specs.declared.compiled.Condition.{Condition}
use Rattle.uw_rules.specs.declared.compiled.Condition.TheVariants as asks
use Rattle.uw_rules.specs.declared.compiled.Test.{Test}
use Rattle.uw_rules.specs.declared.compiled.Test.TheVariants as tests
use Rattle.uw_rules.specs.declared.compiled.Action.{Action}
use Rattle.uw_rules.specs.declared.compiled.Action.TheVariants as does
use Rattle.uw_rules.specs.declared.compiled.Rule.{Rule}
use Rattle.uw_rules.specs.declared.compiled.RuleTable.{RuleTable}
use Rattle.uw_rules.specs.declared.compiled.Rule.TheVariants as compiled
use Rattle.uw_rules.specs.Grammar.{action_of, condition_of}
use Rattle.uw_rules.specs.Arguments.{argument_pairs, code_of, first_half, key_of_pair, second_half, text_of_key, text_of_pair, width_of}
use Rattle.uw_rules.specs.Patterns.{IsPatternOf}
use Rattle.uw_rules.specs.WrittenRules.{Phrase, WrittenTest, WrittenRule, always, matching, holding, label, rule}

-- the rules of a table
abbrev pub rules_of : RuleTable → List Rule
rules_of table = table.rules.items

-- a text, the empty one where it is left out
abbrev pub or_empty : Option (List ℕ) → List ℕ
or_empty text = unwrap_or text []

-- the number of a decimal text, 0 where it is left out
abbrev pub or_zero : Option (List ℕ) → ℕ
or_zero text = unwrap_or (option_and_then decimal_of text) 0

-- the number of a text with a sign, 1 where it is left out
abbrev pub or_one : Option (List ℕ) → ℤ
or_one text = unwrap_or (option_and_then signed_of text) (pos 1)

-- the number under a key, another one where it is left out
abbrev pub number_under : List ℕ → ℕ → Option (List ℕ) → ℕ
number_under key otherwise argument = unwrap_or (option_and_then decimal_of (text_of_key key argument)) otherwise

-- the width under its key
abbrev pub width_under : Option (List ℕ) → Width
width_under argument = unwrap_or (option_and_then width_of (text_of_key (codes "width") argument)) widths.W8

-- the place under its key
abbrev pub place_under : Option (List ℕ) → ℕ
place_under argument = number_under (codes "at") 0 argument

-- an operation of an area that needs no text
abbrev pub area_step : AreaStep → Option (List ℕ) → Action
area_step step argument = does.Area (number_under (codes "area") 0 argument) step (text_of_key (codes "var") argument)

-- the variables of a task, whose values are templates
abbrev pub task_pairs : Option (List ℕ) → List TaskPair
task_pairs argument = map (λ pair. record { key = key_of_pair pair; value = or_empty (text_of_pair pair) }) (argument_pairs argument)

-- the number of the cache that a text names; none where it is left out
unfoldable pub cache_named : List (List ℕ) → Option (List ℕ) → Option ℕ
cache_named names text = option_and_then (λ name. position_from (bytes_eq name) 0 names) text

-- a write of an entry
abbrev pub write_of : List (List ℕ) → Option (List ℕ) → CacheWrite
write_of names argument = record {
  key = or_empty (text_of_key (codes "key") argument);
  value = or_empty (text_of_key (codes "value") argument);
  expires = or_zero (text_of_key (codes "expires") argument);
  cache = cache_named names (text_of_key (codes "name") argument);
  var = text_of_key (codes "var") argument;
}

-- a calculation with an entry
abbrev pub math_of : List (List ℕ) → MathOp → Option (List ℕ) → Action
math_of names op argument =
    does.CacheMath op (or_empty (text_of_key (codes "key") argument)) (or_one (text_of_key (codes "amount") argument)) (or_zero (text_of_key (codes "expires") argument))
    (cache_named names (text_of_key (codes "name") argument)) (text_of_key (codes "var") argument)

-- the compiled action of an action that is not refused, where the caches have these names and the labels stand at these places
abbrev pub action_meant : List (List ℕ) → (List ℕ → Option ℕ) → ActionName → Option (List ℕ) → Action
action_meant names labels actions.Continue argument = does.Continue
action_meant names labels actions.Break argument = does.Break argument
action_meant names labels actions.Return argument = does.Return (unwrap_or (option_and_then code_of argument) 0)
action_meant names labels actions.Goto argument = does.Goto (unwrap_or (option_and_then labels argument) 0)
action_meant names labels actions.Redirect argument = does.Redirect (or_empty argument)
action_meant names labels actions.RedirectPermanent argument = does.RedirectPermanent (or_empty argument)
action_meant names labels actions.Rewrite argument = does.Rewrite (or_empty argument)
action_meant names labels actions.AddVar argument = does.AddVar (or_empty (first_half 61 argument)) (or_empty (second_half 61 argument))
action_meant names labels actions.AddHeader argument = does.AddHeader (or_empty argument)
action_meant names labels actions.Send argument = does.Send (or_empty argument)
action_meant names labels actions.Cache argument =
    does.Cache (or_empty (text_of_key (codes "key") argument)) (text_of_key (codes "content_type") argument) (cache_named names (text_of_key (codes "name") argument))
action_meant names labels actions.CacheVar argument =
    does.CacheVar (or_empty (text_of_key (codes "key") argument)) (cache_named names (text_of_key (codes "name") argument)) (or_empty (text_of_key (codes "var") argument))
action_meant names labels actions.CacheSet argument = does.CacheSet (write_of names argument)
action_meant names labels actions.CacheUpdate argument = does.CacheUpdate (write_of names argument)
action_meant names labels actions.CacheDel argument =
    does.CacheDel (or_empty (text_of_key (codes "key") argument)) (cache_named names (text_of_key (codes "name") argument)) (text_of_key (codes "var") argument)
action_meant names labels actions.CacheInc argument = math_of names ops.Inc argument
action_meant names labels actions.CacheDec argument = math_of names ops.Dec argument
action_meant names labels actions.CacheMul argument = math_of names ops.Mul argument
action_meant names labels actions.CacheDiv argument = math_of names ops.Div argument
action_meant names labels actions.AreaRead argument = area_step (steps.Read (place_under argument) (number_under (codes "len") 0 argument)) argument
action_meant names labels actions.AreaWrite argument =
    does.AreaWrite (number_under (codes "area") 0 argument) (place_under argument) (or_empty (text_of_key (codes "value") argument)) (text_of_key (codes "var") argument)
action_meant names labels actions.AreaNum argument = area_step (steps.ReadNum (place_under argument) (width_under argument)) argument
action_meant names labels actions.AreaSet argument =
    area_step (steps.WriteNum (place_under argument) (width_under argument) (number_under (codes "value") 0 argument)) argument
action_meant names labels actions.AreaInc argument =
    area_step (steps.IncNum (place_under argument) (width_under argument) (number_under (codes "by") 1 argument)) argument
action_meant names labels actions.AreaDec argument =
    area_step (steps.DecNum (place_under argument) (width_under argument) (number_under (codes "by") 1 argument)) argument
action_meant names labels actions.AreaUpdates argument = area_step steps.Updates argument
action_meant names labels actions.Spool argument = does.Spool (task_pairs argument)
action_meant names labels actions.SpoolEnd argument = does.SpoolEnd (unwrap_or (option_and_then signed_of argument) (pos 0))

-- the compiled condition is that of a condition of this name with this argument
abbrev pub IsConditionOf : List (List ℕ) → Condition → ConditionName → Option (List ℕ) → Type 0
IsConditionOf names condition conditions.Equal argument = condition ≡ asks.Equal (or_empty (first_half 59 argument)) (or_empty (second_half 59 argument))
IsConditionOf names condition conditions.StartsWith argument = condition ≡ asks.StartsWith (or_empty (first_half 59 argument)) (or_empty (second_half 59 argument))
IsConditionOf names condition conditions.EndsWith argument = condition ≡ asks.EndsWith (or_empty (first_half 59 argument)) (or_empty (second_half 59 argument))
IsConditionOf names condition conditions.Contains argument = condition ≡ asks.Contains (or_empty (first_half 59 argument)) (or_empty (second_half 59 argument))
IsConditionOf names condition conditions.Empty argument = condition ≡ asks.Empty (or_empty argument)
IsConditionOf names condition conditions.InCache argument =
    condition ≡ asks.InCache (or_empty (text_of_key (codes "key") argument)) (cache_named names (text_of_key (codes "name") argument))
IsConditionOf names condition conditions.Regexp argument = IsRegexpOf condition (or_empty (first_half 59 argument)) (or_empty (second_half 59 argument))
  where
    IsRegexpOf : Condition → List ℕ → List ℕ → Type 0
    IsRegexpOf (asks.Regexp text pattern) written_text written_pattern = (text ≡ written_text) × IsPatternOf pattern written_pattern
    IsRegexpOf _ written_text written_pattern = ⊥

-- the compiled test is the written one
abbrev pub IsTestOf : List (List ℕ) → Test → WrittenTest → Type 0
IsTestOf names tests.Always always = Unit {0}
IsTestOf names (tests.Matches subject pattern) (matching written_subject text) = (subject ≡ written_subject) × IsPatternOf pattern text
IsTestOf names (tests.Holds negated condition) (holding written_negated phrase) =
    (negated ≡ written_negated) × IsSomeAnd (condition_of phrase.name) (λ known. IsConditionOf names condition known.0 phrase.argument)
IsTestOf names _ _ = ⊥

-- the compiled action is the written one of a table
abbrev pub IsActionOf : List (List ℕ) → (List ℕ → Option ℕ) → Table → Action → Phrase → Type 0
IsActionOf names labels table action phrase = IsSomeAnd (action_of table phrase.name) (λ known. action ≡ action_meant names labels known.0 phrase.argument)

-- the compiled rule is the written one: a label; or its test and its action, with numbers where the text has names of caches and labels
abbrev pub IsRuleOf : List (List ℕ) → (List ℕ → Option ℕ) → Rule → WrittenRule → Type 0
IsRuleOf names labels compiled.Label (label text) = Unit {0}
IsRuleOf names labels (compiled.Act test action) (rule table written_test phrase) = IsTestOf names test written_test × IsActionOf names labels table action phrase
IsRuleOf names labels _ _ = ⊥
