-- The refusals of a line of a table, in their order (own rule).
use Rattle.std.specs.Prelude.{ℕ, nat_lt, nat_le, Bool, true, false, not, ◌&&◌, ◌||◌, if◌then◌else◌, List, map, take, slice_get, Option, None, Some, is_some, is_none, option_and_then}
use Rattle.std.specs.List.{list_any, position_from}
use Rattle.std.specs.Option.{option_map_or, option_map}
use Rattle.std.specs.Str.{bytes_eq}
use Rattle.uw_rules.specs.declared.lines.RuleLine.{RuleLine}
use Rattle.uw_rules.specs.declared.kinds.RuleKind.{RuleKind}
use Rattle.uw_rules.specs.declared.kinds.RuleKind.TheVariants as refusals
use Rattle.uw_rules.specs.Grammar.{ArgumentShape, action_of, condition_of}
use Rattle.uw_rules.specs.Arguments.{Place, SiteNames, is_bad_argument, is_bad_template, is_label, is_missed_label, is_unknown_name, pattern_in, text_places}
use Rattle.uw_rules.specs.Patterns.{is_pattern}
use Rattle.uw_rules.specs.WrittenRules.{WrittenTest, WrittenRule, always, matching, holding, unparted, label, rule, rule_of_line}

-- ---- what a rule's texts say

-- a known condition or action has a bad argument
abbrev pub is_bad_phrase : {N : Type 0} → Option (N × ArgumentShape) → Option (List ℕ) → Bool
is_bad_phrase row argument = option_map_or (λ known. is_bad_argument known.1 argument) row false

-- a text of a known condition or action is such a one
abbrev pub any_place : {N : Type 0} → (Place → Bool) → Option (N × ArgumentShape) → Option (List ℕ) → Bool
any_place is_such row argument = option_map_or (λ known. list_any is_such (text_places known.1 argument)) row false

-- the condition has a bad argument
abbrev pub is_bad_test : WrittenTest → Bool
is_bad_test always = false
is_bad_test (matching subject pattern) = false
is_bad_test (holding negated condition) = is_bad_phrase (condition_of condition.name) condition.argument

-- a text of the condition is such a one
abbrev pub any_text_of_test : (Place → Bool) → WrittenTest → Bool
any_text_of_test is_such always = false
any_text_of_test is_such (matching subject pattern) = false
any_text_of_test is_such (holding negated condition) = any_place is_such (condition_of condition.name) condition.argument

-- a text of the rule is such a one
abbrev pub any_text : (Place → Bool) → WrittenRule → Bool
any_text is_such unparted = false
any_text is_such (label text) = false
any_text is_such (rule table test action) = any_text_of_test is_such test || any_place is_such (action_of table action.name) action.argument

-- the test's pattern
abbrev pub pattern_of_test : WrittenTest → Option (List ℕ)
pattern_of_test always = None
pattern_of_test (matching subject pattern) = Some pattern
pattern_of_test (holding negated condition) = option_and_then (λ known. pattern_in known.1 condition.argument) (condition_of condition.name)

-- the rule's pattern
abbrev pub pattern_of_rule : WrittenRule → Option (List ℕ)
pattern_of_rule unparted = None
pattern_of_rule (label text) = None
pattern_of_rule (rule table test action) = pattern_of_test test

-- the condition's name is unknown
abbrev pub is_unknown_test : WrittenTest → Bool
is_unknown_test always = false
is_unknown_test (matching subject pattern) = false
is_unknown_test (holding negated condition) = is_none (condition_of condition.name)

-- ---- refusals

-- a space or an argument is missing, an argument stands where there is none, or a label or an argument is bad
unfoldable pub is_bad_rule : WrittenRule → Bool
is_bad_rule unparted = true
is_bad_rule (label text) = not (is_label text)
is_bad_rule (rule table test action) = is_bad_test test || is_bad_phrase (action_of table action.name) action.argument

-- the condition's name is unknown
unfoldable pub has_unknown_condition : WrittenRule → Bool
has_unknown_condition unparted = false
has_unknown_condition (label text) = false
has_unknown_condition (rule table test action) = is_unknown_test test

-- the rule has a pattern that is none
unfoldable pub has_bad_pattern : WrittenRule → Bool
has_bad_pattern written = option_map_or (λ text. not (is_pattern text)) (pattern_of_rule written) false

-- the rule has a pattern
unfoldable pub has_pattern : WrittenRule → Bool
has_pattern written = is_some (pattern_of_rule written)

-- the action's name is unknown
unfoldable pub has_unknown_action : WrittenRule → Bool
has_unknown_action unparted = false
has_unknown_action (label text) = false
has_unknown_action (rule table test action) = is_none (action_of table action.name)

-- a template of the rule has a bad form
unfoldable pub has_bad_template : WrittenRule → Bool
has_bad_template written = any_text is_bad_template written

-- an earlier line has the label
unfoldable pub is_label_twice : (List ℕ → Option ℕ) → ℕ → WrittenRule → Bool
is_label_twice labels here unparted = false
is_label_twice labels here (label text) = option_map_or (λ first. nat_lt first here) (labels text) false
is_label_twice labels here (rule table test action) = false

-- the label of the `goto` is not ahead
unfoldable pub misses_label : (List ℕ → Option ℕ) → ℕ → WrittenRule → Bool
misses_label labels here written = any_text (is_missed_label labels here) written

-- the rule names a cache or an area that there is not, or asks a cache where there is none
unfoldable pub has_unknown_name : SiteNames → WrittenRule → Bool
has_unknown_name names written = any_text (is_unknown_name names) written

-- why a rule is refused at its place in the table, before its pattern is looked at
abbrev pub early_refusal : ℕ → WrittenRule → Option RuleKind
early_refusal here written =
    if nat_le 4096 here then Some refusals.TooManyRules
    else (if is_bad_rule written then Some refusals.BadRule
    else (if has_unknown_condition written then Some refusals.UnknownCondition
    else None))

-- why a rule is refused for its pattern; where the maker of patterns refused it, it did not tell whether the text is one
abbrev pub pattern_refusal : Bool → WrittenRule → Option RuleKind
pattern_refusal refused written =
    if refused && has_pattern written then Some refusals.PatternRefused
    else (if has_bad_pattern written then Some refusals.BadPattern
    else None)

-- why a rule is refused behind its pattern, where these are the names of the site and the labels stand first at these places
abbrev pub late_refusal : SiteNames → (List ℕ → Option ℕ) → ℕ → WrittenRule → Option RuleKind
late_refusal names labels here written =
    if has_unknown_action written then Some refusals.UnknownAction
    else (if has_bad_template written then Some refusals.BadTemplate
    else (if is_label_twice labels here written then Some refusals.LabelTwice
    else (if misses_label labels here written then Some refusals.LabelNotAhead
    else (if has_unknown_name names written then Some refusals.UnknownName
    else None))))

-- the first of two refusals
abbrev pub first_of_two : Option RuleKind → Option RuleKind → Option RuleKind
first_of_two (Some kind) other = Some kind
first_of_two None other = other

-- why a rule is refused at its place in the table: for what comes before its pattern, for its pattern, or for what comes behind it
unfoldable pub refusal_of_rule : SiteNames → (List ℕ → Option ℕ) → ℕ → Bool → WrittenRule → Option RuleKind
refusal_of_rule names labels here refused written =
    first_of_two (early_refusal here written) (first_of_two (pattern_refusal refused written) (late_refusal names labels here written))

-- ---- tables

-- the rules of a table, as they are written
abbrev pub table_of : List RuleLine → List WrittenRule
table_of lines = map rule_of_line lines

-- the rule is the label of this text
abbrev pub is_label_of : List ℕ → WrittenRule → Bool
is_label_of text unparted = false
is_label_of text (label other) = bytes_eq other text
is_label_of text (rule table test action) = false

-- the number of the rule that is a label: of the first one, since a later one is refused, as is one behind the 4,096th rule
unfoldable pub place_of_label : List RuleLine → List ℕ → Option ℕ
place_of_label lines text = position_from (is_label_of text) 0 (table_of (take 4096 lines))

-- why the rule of a number is refused, if there is one and it is
unfoldable pub rule_refusal_at : SiteNames → List RuleLine → ℕ → Bool → Option RuleKind
rule_refusal_at names lines here refused = option_and_then (refusal_of_rule names (place_of_label lines) here refused) (option_map rule_of_line (slice_get lines here))
