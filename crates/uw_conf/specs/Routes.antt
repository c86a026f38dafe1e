-- The rules of a configuration: their lines, and the first that is refused (own rule).
use Rattle.std.specs.Prelude.{ℕ, ◌+◌, ◌==◌, Bool, true, false, if◌then◌else◌, List, [], ◌∷◌, ◌++◌, length, map, Option, None, Some, option_map}
use Rattle.std.specs.Option.{option_or}
use Rattle.std.specs.Str.Lines.{lines}
use Rattle.std.specs.Str.Lossy.{utf8_valid_len}
use Rattle.uw_base.specs.Texts.{trimmed}
use Rattle.uw_model.specs.declared.conf.CacheConf.{CacheConf}
use Rattle.uw_rules.specs.declared.grammar.LineKind.{LineKind}
use Rattle.uw_rules.specs.declared.grammar.Table.{Table}
use Rattle.uw_rules.specs.declared.grammar.Table.TheVariants as tables
use Rattle.uw_rules.specs.declared.lines.RuleLine.{RuleLine}
use Rattle.uw_rules.specs.declared.kinds.RuleKind.{RuleKind}
use Rattle.uw_rules.specs.Grammar.{kind_of_line}
use Rattle.uw_rules.specs.Arguments.{SiteNames}
use Rattle.uw_rules.specs.Rules.{rule_refusal_at}
use Rattle.uw_conf.specs.declared.conf.ConfFault.{ConfFault}
use Rattle.uw_conf.specs.declared.conf.ConfKind.TheVariants as kinds
use Rattle.uw_conf.specs.Lines.{Line, nothing, section, option, broken, line_of}
use Rattle.uw_conf.specs.Reading.{ReadSoFar, blank_reading, read_line, reading_after, refused_at, unless_refused}

-- two tables are the same
abbrev pub is_same_table : Table → Table → Bool
is_same_table tables.Requests tables.Requests = true
is_same_table tables.Tasks tables.Tasks = true
is_same_table one other = false

-- an option is one of a table's
abbrev pub is_option_of : Table → Option (Table × LineKind) → Bool
is_option_of table None = false
is_option_of table (Some known) = is_same_table known.0 table

-- the line of a rule of a table, with this number, if the line is one
abbrev pub line_of_rule : Table → ℕ → Line → List RuleLine
line_of_rule table number nothing = []
line_of_rule table number (section name) = []
line_of_rule table number (option name value) = if is_option_of table (kind_of_line name) then record { line = number; form = name; text = value } ∷ [] else []
line_of_rule table number broken = []

-- rules, where they stand in the section; before any section, and in another one, there are none
abbrev pub rules_inside : Option Bool → List RuleLine → List RuleLine
rules_inside None rules = []
rules_inside (Some false) rules = []
rules_inside (Some true) rules = rules

-- the rule of a table in a line of a text
abbrev pub rule_in : Table → Option Bool → ℕ → List ℕ → List RuleLine
rule_in table inside number line = if utf8_valid_len line == length line then rules_inside inside (line_of_rule table number (line_of (trimmed line))) else []

-- the rules of a table among the lines from a number on, behind a reading
abbrev pub rules_behind : Table → ReadSoFar → ℕ → List (List ℕ) → List RuleLine
rules_behind table r number [] = []
rules_behind table r number (line ∷ lines) = rule_in table r.inside number line ++ rules_behind table (unless_refused r (read_line r line)) (number + 1) lines

-- the rules of a table of a text, in the order of their lines, refused or not
abbrev pub rule_lines_of : Table → List (List ℕ) → List RuleLine
rule_lines_of table lines = rules_behind table blank_reading 1 lines

-- the names of the caches that the lines of a text define, refused lines apart
abbrev pub cache_names_of : List (List ℕ) → List (List ℕ)
cache_names_of lines = map (λ (cache : CacheConf). cache.name) (reading_after blank_reading lines).conf.caches

-- what the rules of a text may name: its caches, and as many areas as its lines define, refused lines apart
abbrev pub site_names_of : List (List ℕ) → SiteNames
site_names_of lines = record { caches = cache_names_of lines; areas = length (reading_after blank_reading lines).conf.areas }

-- the refusal of a rule, at its line
abbrev pub rule_refused_at : ℕ → RuleKind → ConfFault
rule_refused_at line kind = refused_at line (kinds.Rule kind)

-- the first refused rule of those from a place on, where the maker of patterns refuses none
abbrev pub first_refused_rule : SiteNames → List RuleLine → ℕ → List RuleLine → Option ConfFault
first_refused_rule names rules here [] = None
first_refused_rule names rules here (rule ∷ rest) =
    option_or (option_map (rule_refused_at rule.line) (rule_refusal_at names rules here false)) (first_refused_rule names rules (here + 1) rest)

-- the first refused rule of a table of a text
abbrev pub first_refused_in : Table → List (List ℕ) → Option ConfFault
first_refused_in table lines = first_refused_rule (site_names_of lines) (rule_lines_of table lines) 0 (rule_lines_of table lines)
