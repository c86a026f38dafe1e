-- What the compiling of a rule rests on: that its templates are none with a bad form.
use Rattle.std.specs.Prelude.{◌≡◌, ℕ, false, List, [], ◌∷◌, codes, Option, Some, None, is_some, IsSomeAnd}
use Rattle.std.specs.List.{list_any}
use Rattle.std.specs.Option.{option_map_or}
use Rattle.uw_subst.specs.Templates.{fault_of}
use Rattle.uw_rules.specs.declared.grammar.TextKind.TheVariants as texts
use Rattle.uw_rules.specs.declared.grammar.ActionName.{ActionName}
use Rattle.uw_rules.specs.declared.grammar.ActionName.TheVariants as actions
use Rattle.uw_rules.specs.declared.grammar.ConditionName.{ConditionName}
use Rattle.uw_rules.specs.declared.grammar.ConditionName.TheVariants as conditions
use Rattle.uw_rules.specs.Arguments.{SiteNames, is_bad_argument, is_bad_template, is_unknown_name, key_of_pair, text_of_pair, text_places}
use Rattle.regex.specs.declared.bytes.regex.Regex.{Regex}
use Rattle.uw_rules.specs.declared.compiled.TaskPair.{TaskPair}
use Rattle.uw_rules.specs.Compiled.{or_empty}
use Rattle.uw_rules.specs.Patterns.{IsPatternOf}
use Rattle.uw_rules.specs.WrittenRules.{WrittenTest, WrittenRule, always, matching, holding, unparted, label, rule}
use Rattle.uw_rules.specs.Grammar.{ArgumentShape, action_of, allowed, bare, calculating_keys, condition_of, counting_keys, divided_text, free_texts, keyed_texts, needed, optional_text, whole_text, writing_keys}

-- the text is a template, if it stands
abbrev pub IsGoodTemplate : Option (List ℕ) → Type 0
IsGoodTemplate text = option_map_or (λ bytes. is_some (fault_of bytes)) text false ≡ false

-- the templates of an argument of the shape are good
abbrev pub HasGoodTemplates : ArgumentShape → Option (List ℕ) → Type 0
HasGoodTemplates shape argument = list_any is_bad_template (text_places shape argument) ≡ false

-- the argument names no cache and no area that there is not
abbrev pub KnowsNames : SiteNames → ArgumentShape → Option (List ℕ) → Type 0
KnowsNames names shape argument = list_any (is_unknown_name names) (text_places shape argument) ≡ false

-- a variable of a task
abbrev pub pair_meant : List ℕ → TaskPair
pair_meant pair = record { key = key_of_pair pair; value = or_empty (text_of_pair pair) }

-- what stands behind the `:` of an action
abbrev pub action_shape : ActionName → ArgumentShape
action_shape actions.Continue = bare
action_shape actions.Break = optional_text texts.Fixed
action_shape actions.Return = whole_text texts.Code
action_shape actions.Goto = whole_text texts.Label
action_shape actions.Redirect = whole_text texts.Template
action_shape actions.RedirectPermanent = whole_text texts.Template
action_shape actions.Rewrite = whole_text texts.Template
action_shape actions.AddVar = divided_text 61 texts.Fixed texts.Template
action_shape actions.AddHeader = whole_text texts.Header
action_shape actions.Send = whole_text texts.Template
action_shape actions.Cache = keyed_texts (needed (codes "key") texts.Template ∷ allowed (codes "content_type") texts.Template ∷ allowed (codes "name") texts.Cache ∷ [])
action_shape actions.CacheVar = keyed_texts (needed (codes "key") texts.Template ∷ allowed (codes "name") texts.Cache ∷ needed (codes "var") texts.Fixed ∷ [])
action_shape actions.CacheSet = keyed_texts writing_keys
action_shape actions.CacheUpdate = keyed_texts writing_keys
action_shape actions.CacheDel = keyed_texts (needed (codes "key") texts.Template ∷ allowed (codes "name") texts.Cache ∷ allowed (codes "var") texts.Fixed ∷ [])
action_shape actions.CacheInc = keyed_texts calculating_keys
action_shape actions.CacheDec = keyed_texts calculating_keys
action_shape actions.CacheMul = keyed_texts calculating_keys
action_shape actions.CacheDiv = keyed_texts calculating_keys
action_shape actions.AreaRead =
    keyed_texts (needed (codes "area") texts.Area ∷ needed (codes "at") texts.Decimal ∷ needed (codes "len") texts.Length ∷ needed (codes "var") texts.Fixed ∷ [])
action_shape actions.AreaWrite =
    keyed_texts (needed (codes "area") texts.Area ∷ needed (codes "at") texts.Decimal ∷ needed (codes "value") texts.Template ∷ allowed (codes "var") texts.Fixed ∷ [])
action_shape actions.AreaNum =
    keyed_texts (needed (codes "area") texts.Area ∷ needed (codes "at") texts.Decimal ∷ needed (codes "width") texts.Width ∷ needed (codes "var") texts.Fixed ∷ [])
action_shape actions.AreaSet =
    keyed_texts (
    needed (codes "area") texts.Area ∷ needed (codes "at") texts.Decimal ∷ needed (codes "width") texts.Width ∷ needed (codes "value") texts.Decimal
    ∷ allowed (codes "var") texts.Fixed ∷ []
    )
action_shape actions.AreaInc = keyed_texts counting_keys
action_shape actions.AreaDec = keyed_texts counting_keys
action_shape actions.AreaUpdates = keyed_texts (needed (codes "area") texts.Area ∷ needed (codes "var") texts.Fixed ∷ [])
action_shape actions.Spool = free_texts texts.Template
action_shape actions.SpoolEnd = whole_text texts.Signed

-- what stands behind the `:` of a condition
abbrev pub condition_shape : ConditionName → ArgumentShape
condition_shape conditions.Equal = divided_text 59 texts.Template texts.Template
condition_shape conditions.StartsWith = divided_text 59 texts.Template texts.Template
condition_shape conditions.EndsWith = divided_text 59 texts.Template texts.Template
condition_shape conditions.Contains = divided_text 59 texts.Template texts.Template
condition_shape conditions.Empty = whole_text texts.Undivided
condition_shape conditions.Regexp = divided_text 59 texts.Template texts.Pattern
condition_shape conditions.InCache = keyed_texts (needed (codes "key") texts.Template ∷ allowed (codes "name") texts.Cache ∷ [])

-- the pattern is that of the text, where there is one
abbrev pub IsPatternIn : Option (List ℕ) → Option Regex → Type 0
IsPatternIn None None = Unit {0}
IsPatternIn None (Some pattern) = ⊥
IsPatternIn (Some text) None = ⊥
IsPatternIn (Some text) (Some pattern) = IsPatternOf pattern text

-- the condition is known, and its texts are good
pub record CanCompileCondition (known : ConditionName × ArgumentShape) (argument : Option (List ℕ)) : Type 0 where
  pub argument_good : is_bad_argument known.1 argument ≡ false
  pub templates_good : HasGoodTemplates known.1 argument

-- the condition of a test is known, and its texts are good
abbrev pub CanCompileTest : WrittenTest → Type 0
CanCompileTest always = Unit {0}
CanCompileTest (matching subject pattern) = Unit {0}
CanCompileTest (holding negated condition) = IsSomeAnd (condition_of condition.name) (λ known. CanCompileCondition known condition.argument)

-- the texts of an action are good, and it names no cache and no area that there is not
pub record CanCompileAction (names : SiteNames) (shape : ArgumentShape) (argument : Option (List ℕ)) : Type 0 where
  pub templates_good : HasGoodTemplates shape argument
  pub names_known : KnowsNames names shape argument

-- the condition and the action of a rule are known, and their texts are good
abbrev pub CanCompile : SiteNames → WrittenRule → Type 0
CanCompile names unparted = ⊥
CanCompile names (label text) = Unit {0}
CanCompile names (rule table test action) =
    CanCompileTest test × IsSomeAnd (action_of table action.name) (λ known. CanCompileAction names known.1 action.argument)
