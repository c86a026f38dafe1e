-- What the code's rules as written stand for.
use Rattle.std.specs.Prelude.{◌≡◌, ℕ, ◌==◌, true, false, List, Option, None, Some}
use Rattle.std.specs.Borrow.{Bor}
use Rattle.std.specs.List.{before_first, after_first, list_any}
use Rattle.std.specs.Option.{option_copied}
use Rattle.uw_base.specs.Texts.{without_blanks}
use Rattle.uw_rules.specs.declared.written.Phrase as code
use Rattle.uw_rules.specs.declared.written.WrittenTest as code_test
use Rattle.uw_rules.specs.declared.written.WrittenTest.TheVariants as code_tests
use Rattle.uw_rules.specs.declared.written.WrittenRule as code_rule
use Rattle.uw_rules.specs.declared.written.WrittenRule.TheVariants as code_rules
use Rattle.uw_rules.specs.CheckSteps.{IsShortText}
use Rattle.uw_rules.specs.WrittenRules.{Phrase, WrittenTest, WrittenRule, always, matching, holding, unparted, label, rule, phrase_of}

-- a condition or an action
abbrev pub phrase_seen : code.Phrase → Phrase
phrase_seen phrase = record { name = phrase.name.now; argument = option_copied phrase.argument }

-- a test
abbrev pub test_seen : code_test.WrittenTest → WrittenTest
test_seen code_tests.Always = always
test_seen (code_tests.Matching subject pattern) = matching subject pattern.now
test_seen (code_tests.Holding negated condition) = holding negated (phrase_seen condition)

-- a rule
abbrev pub written_seen : code_rule.WrittenRule → WrittenRule
written_seen code_rules.Unparted = unparted
written_seen (code_rules.Label text) = label text.now
written_seen (code_rules.Rule table test action) = rule table (test_seen test) (phrase_seen action)

-- the text before the first space (32), and the action behind it; or there is no space
abbrev pub parted_seen : List ℕ → Option (Bor (List ℕ) × code.Phrase) → Type 0
parted_seen text None = list_any (λ byte. byte == 32) text ≡ false
parted_seen text (Some parts) =
    (list_any (λ byte. byte == 32) text ≡ true) × (parts.0.now ≡ before_first (λ byte. byte == 32) text)
    × (phrase_seen parts.1 ≡ phrase_of (without_blanks (after_first (λ byte. byte == 32) text)))

-- the argument is short
abbrev pub IsShortPhrase : Phrase → Type 0
IsShortPhrase phrase = IsShortText phrase.argument

-- the argument of the condition is short
abbrev pub IsShortTest : WrittenTest → Type 0
IsShortTest always = Unit {0}
IsShortTest (matching subject pattern) = Unit {0}
IsShortTest (holding negated condition) = IsShortPhrase condition

-- the arguments of the rule are short
abbrev pub AreShort : WrittenRule → Type 0
AreShort unparted = Unit {0}
AreShort (label text) = Unit {0}
AreShort (rule table test action) = IsShortTest test × IsShortPhrase action
