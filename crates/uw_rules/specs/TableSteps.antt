-- The steps of reading a table: one pattern, and one rule.
use Rattle.std.specs.Prelude.{◌≡◌, ◌⊎◌, ℕ, Bool, true, false, List, Option, None, Some, IsSomeAnd, Result, Ok, Err}
use Rattle.regex.specs.declared.bytes.regex.Regex.{Regex}
use Rattle.uw_outside.specs.Faults.{Rose}
use Rattle.uw_rules.specs.declared.kinds.RuleKind.{RuleKind}
use Rattle.uw_rules.specs.declared.kinds.RuleKind.TheVariants as kinds
use Rattle.uw_rules.specs.declared.kinds.Refusal.{Refusal}
use Rattle.uw_rules.specs.declared.kinds.Refusal.TheVariants as refusals
use Rattle.uw_rules.specs.declared.kinds.RulesError.{RulesError}
use Rattle.uw_rules.specs.declared.kinds.RulesError.TheVariants as errors
use Rattle.uw_rules.specs.declared.compiled.Rule.{Rule}
use Rattle.uw_rules.specs.Arguments.{SiteNames}
use Rattle.uw_rules.specs.Patterns.{IsPatternOf, is_pattern}
use Rattle.uw_rules.specs.WrittenRules.{WrittenRule}
use Rattle.uw_rules.specs.Rules.{refusal_of_rule}
use Rattle.uw_rules.specs.Compiled.{IsRuleOf}
use Rattle.uw_rules.specs.CompileSteps.{IsPatternIn}
use Rattle.uw_rules.specs.Tables.{is_of_maker}

-- a text is no pattern; or the maker of patterns refused it, and counted that
abbrev pub IsPatternRefusal : ℕ → ℕ → List ℕ → RuleKind → Type 0
IsPatternRefusal before after text kind = ((kind ≡ kinds.BadPattern) × (is_pattern text ≡ false)) ⊎ ((kind ≡ kinds.PatternRefused) × Rose before after)

-- a text gives its pattern, or is refused, or there was no memory
abbrev pub GivesPattern : ℕ → ℕ → List ℕ → Result Regex Refusal → Type 0
GivesPattern before after text (Ok pattern) = IsPatternOf pattern text
GivesPattern before after text (Err (refusals.Refused kind)) = IsPatternRefusal before after text kind
GivesPattern before after text (Err refusals.Memory) = Unit {0}

-- the same of a text that may be left out
abbrev pub GivesPatternIfAny : ℕ → ℕ → Option (List ℕ) → Result (Option Regex) Refusal → Type 0
GivesPatternIfAny before after text (Ok pattern) = IsPatternIn text pattern
GivesPatternIfAny before after text (Err (refusals.Refused kind)) = IsSomeAnd text (λ some. IsPatternRefusal before after some kind)
GivesPatternIfAny before after text (Err refusals.Memory) = Unit {0}

-- a rule gives what it is compiled to, or is refused for its text or for its pattern, or there was no memory
abbrev pub GivesRule : SiteNames → (List ℕ → Option ℕ) → ℕ → ℕ → ℕ → WrittenRule → Result Rule Refusal → Type 0
GivesRule names labels here before after written (Ok rule) = (refusal_of_rule names labels here false written ≡ None) × IsRuleOf names.caches labels rule written
GivesRule names labels here before after written (Err (refusals.Refused kind)) =
    (refusal_of_rule names labels here false written ≡ Some kind)
    ⊎ ((refusal_of_rule names labels here true written ≡ Some kind) × (kind ≡ kinds.PatternRefused) × Rose before after)
GivesRule names labels here before after written (Err refusals.Memory) = Unit {0}

-- a refusal, with the number of its line
abbrev pub error_of : ℕ → Refusal → RulesError
error_of line (refusals.Refused kind) = errors.Refused line kind
error_of line refusals.Memory = errors.Memory

-- a step that was refused by the maker of patterns
abbrev pub is_step_of_maker : {X : Type 0} → Result X Refusal → Bool
is_step_of_maker (Ok x) = false
is_step_of_maker (Err (refusals.Refused kind)) = is_of_maker kind
is_step_of_maker (Err refusals.Memory) = false
