-- What reading a table answers.
use Rattle.std.specs.Prelude.{◌≡◌, ◌⊎◌, ℕ, ◌<◌, ◌^◌, Bool, true, false, is_some, List, [], ◌∷◌, map, slice_get, length, Option, None, Some, IsSomeAnd, Result, Ok, Err, All}
use Rattle.std.specs.List.Sorted.{IsStrictlyIncreasing}
use Rattle.std.specs.Str.{IsUtf8}
use Rattle.uw_outside.specs.Faults.{Rose}
use Rattle.uw_rules.specs.declared.lines.RuleLine.{RuleLine}
use Rattle.uw_rules.specs.declared.kinds.RuleKind.{RuleKind}
use Rattle.uw_rules.specs.declared.kinds.RuleKind.TheVariants as refusals
use Rattle.uw_rules.specs.declared.kinds.RulesError.{RulesError}
use Rattle.uw_rules.specs.declared.kinds.RulesError.TheVariants as errors
use Rattle.uw_rules.specs.declared.compiled.Rule.{Rule}
use Rattle.uw_rules.specs.declared.compiled.RuleTable.{RuleTable}
use Rattle.uw_rules.specs.Arguments.{SiteNames}
use Rattle.uw_rules.specs.Grammar.{kind_of_line}
use Rattle.uw_rules.specs.WrittenRules.{WrittenRule}
use Rattle.uw_rules.specs.Rules.{place_of_label, rule_refusal_at, table_of}
use Rattle.uw_rules.specs.Compiled.{IsRuleOf, rules_of}

-- a line of a table: an option of rules, and a text of UTF-8 that is shorter than 2^32 bytes
pub record IsRuleLine (line : RuleLine) : Type 0 where
  pub option : is_some (kind_of_line line.form) ≡ true
  pub text : IsUtf8 line.text
  pub short : length line.text < 2 ^ 32

-- lines of a table, whose numbers rise
pub record AreRuleLines (lines : List RuleLine) : Type 0 where
  pub each : All IsRuleLine lines
  pub rising : IsStrictlyIncreasing (map (λ (line : RuleLine). line.line) lines)

-- the compiled rules are the written ones, one by one
abbrev pub AreRulesOf : List (List ℕ) → (List ℕ → Option ℕ) → List Rule → List WrittenRule → Type 0
AreRulesOf names labels [] [] = Unit {0}
AreRulesOf names labels (compiled ∷ more) (written ∷ others) = IsRuleOf names labels compiled written × AreRulesOf names labels more others
AreRulesOf names labels _ _ = ⊥

-- no line before this one is refused
abbrev pub NoneRefusedBefore : SiteNames → List RuleLine → ℕ → Type 0
NoneRefusedBefore names lines here = (earlier : ℕ) → earlier < here → rule_refusal_at names lines earlier false ≡ None

-- the rule is refused for its text; or for its pattern, which the maker of patterns refused and counted
abbrev pub IsRefusedFor : SiteNames → List RuleLine → ℕ → ℕ → ℕ → RuleKind → Type 0
IsRefusedFor names lines before after here kind =
    (rule_refusal_at names lines here false ≡ Some kind) ⊎ ((rule_refusal_at names lines here true ≡ Some kind) × (kind ≡ refusals.PatternRefused) × Rose before after)

-- the line of this number is the first that is refused, and it is refused for this kind
pub record IsFirstRefused (names : SiteNames) (lines : List RuleLine) (before after line : ℕ) (kind : RuleKind) : Type 0 where
  pub here : ℕ
  pub number : IsSomeAnd (slice_get lines here) (λ (refused : RuleLine). refused.line ≡ line)
  pub earlier : NoneRefusedBefore names lines here
  pub cause : IsRefusedFor names lines before after here kind

-- a table whose lines are not refused, with their rules; or the first refused line, with its kind, where the maker of patterns counted its refusals; or no memory
abbrev pub ReadsRules : SiteNames → List RuleLine → ℕ → ℕ → Result RuleTable RulesError → Type 0
ReadsRules names lines before after (Ok table) = NoneRefusedBefore names lines (length lines) × AreRulesOf names.caches (place_of_label lines) (rules_of table) (table_of lines)
ReadsRules names lines before after (Err (errors.Refused line kind)) = IsFirstRefused names lines before after line kind
ReadsRules names lines before after (Err errors.Memory) = Unit {0}

-- the refusal is that of the maker of patterns
abbrev pub is_of_maker : RuleKind → Bool
is_of_maker refusals.PatternRefused = true
is_of_maker _ = false

-- the answer is that the maker of patterns refused one
abbrev pub tells_of_maker : Result RuleTable RulesError → Bool
tells_of_maker (Ok table) = false
tells_of_maker (Err (errors.Refused line kind)) = is_of_maker kind
tells_of_maker (Err errors.Memory) = false
