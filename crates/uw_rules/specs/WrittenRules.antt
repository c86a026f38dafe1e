-- A rule as it is written ("InternalRouting").
use Rattle.std.specs.Prelude.{ℕ, ◌==◌, Bool, if◌then◌else◌, List, Option, None, Some}
use Rattle.std.specs.List.{before_first, after_first, list_any}
use Rattle.uw_base.specs.Texts.{without_blanks}
use Rattle.uw_rules.specs.declared.grammar.Subject.{Subject}
use Rattle.uw_rules.specs.declared.grammar.Table.{Table}
use Rattle.uw_rules.specs.declared.grammar.LineKind.{LineKind}
use Rattle.uw_rules.specs.declared.grammar.LineKind.TheVariants as kinds
use Rattle.uw_rules.specs.declared.lines.RuleLine.{RuleLine}
use Rattle.uw_rules.specs.Grammar.{kind_of_line}

-- a condition or an action: its name, and its argument, if it has one
pub record Phrase : Type 0 where
  pub name : List ℕ
  pub argument : Option (List ℕ)

-- a name ends at the first `:` (58), behind which the argument stands
unfoldable pub phrase_of : List ℕ → Phrase
phrase_of text = record {
  name = before_first (λ byte. byte == 58) text;
  argument = if list_any (λ byte. byte == 58) text then Some (after_first (λ byte. byte == 58) text) else None;
}

-- when a rule runs: always; where a pattern matches in a subject; where a condition holds, or, where it is negated, does not
pub data WrittenTest : Type 0 where
  always : WrittenTest
  matching : Subject → List ℕ → WrittenTest
  holding : Bool → Phrase → WrittenTest

-- a rule of a table: a test and an action; or a label; or a line without the space that parts a test from its action
pub data WrittenRule : Type 0 where
  unparted : WrittenRule
  label : List ℕ → WrittenRule
  rule : Table → WrittenTest → Phrase → WrittenRule

-- the first space (32) parts a test from its action, which has no blanks in front
abbrev pub parted_rule : Table → List ℕ → (List ℕ → WrittenTest) → WrittenRule
parted_rule table text test =
    if list_any (λ byte. byte == 32) text
    then rule table (test (before_first (λ byte. byte == 32) text)) (phrase_of (without_blanks (after_first (λ byte. byte == 32) text)))
    else unparted

-- a rule by its table and the kind of its line
abbrev pub written_as : Option (Table × LineKind) → List ℕ → WrittenRule
written_as (Some (table, kinds.Pattern subject)) text = parted_rule table text (λ pattern. matching subject pattern)
written_as (Some (table, kinds.Always)) text = rule table always (phrase_of text)
written_as (Some (table, kinds.Condition negated)) text = parted_rule table text (λ condition. holding negated (phrase_of condition))
written_as (Some (table, kinds.Label)) text = label text
written_as None text = unparted

-- the rule of a line
unfoldable pub rule_of_line : RuleLine → WrittenRule
rule_of_line line = written_as (kind_of_line line.form) line.text
