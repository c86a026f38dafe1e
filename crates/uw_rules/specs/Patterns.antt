-- Which texts are patterns, and what a maker of patterns answers to a text. The grammar of patterns is that of the crate `regex`.
use Rattle.std.specs.Prelude.{◌≡◌, ℕ, Bool, true, false, nat_le, List, Option, None, Some, IfSome, chars}
use Rattle.regex_syntax.specs.Brackets.{Nested}
use Rattle.regex_syntax.specs.Grammar.{Names, read}
use Rattle.regex.specs.Patterns.{Re, SameCaptures, Config, default_config}
use Rattle.regex.specs.Bytes.{regex_pattern, regex_names, regex_source}
use Rattle.regex.specs.declared.bytes.regex.Regex.{Regex}
use Rattle.uw_outside.specs.Faults.{HasCause}
use Rattle.uw_rules.specs.declared.patterns.Built.{Built}
use Rattle.uw_rules.specs.declared.patterns.Built.TheVariants as built

-- the options under which a pattern is read: the crate's own, for a search in bytes
abbrev pub pattern_config : Config
pattern_config = record default_config { utf8 = false }

-- what the grammar reads from a text: a pattern as it is written, with its depth and the names of its groups, or nothing
abbrev pub pattern_read : List ℕ → Option (Nested Re × Names)
pattern_read text = read pattern_config (chars text)

-- a pattern was read, and its groups, repetitions and classes nest at most so deep
abbrev pub nests_within : ℕ → Option (Nested Re × Names) → Bool
nests_within limit None = false
nests_within limit (Some (re, names)) = nat_le re.depth limit

-- the text is a pattern: the grammar reads one from it, which nests at most 250 deep
unfoldable pub is_pattern : List ℕ → Bool
is_pattern text = nests_within 250 (pattern_read text)

-- the compiled pattern is the one that the text is: it keeps the text, its searches find the matches and captures of what the grammar reads, and its groups have
-- the names that stand there
pub record IsPatternOf (regex : Regex) (text : List ℕ) : Type 0 where
  pub good : is_pattern text ≡ true
  pub source : regex_source regex ≡ text
  pub finds : IfSome (pattern_read text) (λ (re, names). SameCaptures (regex_pattern regex) re.value)
  pub groups : IfSome (pattern_read text) (λ (re, names). regex_names regex ≡ names)

-- the maker refused a text
abbrev pub is_refused : Built → Bool
is_refused (built.Pattern regex) = false
is_refused built.Syntax = false
is_refused built.Refused = true
is_refused built.Memory = false

-- a pattern is the one that the text is, and a text that is a pattern is no error of syntax
abbrev pub IsAnswerTo : List ℕ → Built → Type 0
IsAnswerTo text (built.Pattern regex) = IsPatternOf regex text
IsAnswerTo text built.Syntax = is_pattern text ≡ false
IsAnswerTo text built.Refused = Unit {0}
IsAnswerTo text built.Memory = Unit {0}

-- what a maker of patterns answers to a text, with its count of faults before and after: the count never falls, and it rises just where the text is refused
pub record IsBuilt (before after : ℕ) (result : Built) (text : List ℕ) : Type 0 where
  pub answer : IsAnswerTo text result
  pub cause : HasCause before after (is_refused result)
