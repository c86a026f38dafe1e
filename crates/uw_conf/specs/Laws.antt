-- What the laws of the definitions speak of.
use Rattle.std.specs.Prelude.{◌≡◌, ℕ, zero, suc, ◌==◌, ◌<◌, Bool, true, false, List, [], ◌∷◌, ◌++◌, length, take, map, filter, slice_get, unwrap_or, codes, Option, None, Some, option_and_then, option_map, Result, Ok, Err}
use Rattle.std.specs.List.{last_or, position_from}
use Rattle.std.specs.Option.{option_or}
use Rattle.std.specs.Str.{bytes_eq}
use Rattle.std.specs.Str.Lines.{lines}
use Rattle.std.specs.Str.Lossy.{utf8_valid_len}
use Rattle.uw_base.specs.Numbers.{decimal_of}
use Rattle.uw_conf.specs.declared.conf.ConfFault.{ConfFault}
use Rattle.uw_conf.specs.declared.conf.ConfKind.{ConfKind}
use Rattle.uw_conf.specs.Lines.{Line, nothing, section, option, broken, line_of}
use Rattle.uw_base.specs.Texts.{trimmed}
use Rattle.uw_conf.specs.declared.options.OptionKind.{OptionKind}
use Rattle.uw_conf.specs.declared.options.OptionKind.TheVariants as of
use Rattle.uw_rules.specs.declared.grammar.Table.{Table}
use Rattle.uw_rules.specs.declared.grammar.Table.TheVariants as tables
use Rattle.uw_rules.specs.declared.lines.RuleLine.{RuleLine}
use Rattle.uw_rules.specs.Arguments.{SiteNames}
use Rattle.uw_rules.specs.Rules.{rule_refusal_at}
use Rattle.uw_conf.specs.declared.conf.ConfKind.TheVariants as kinds
use Rattle.uw_conf.specs.Reading.{ReadSoFar, blank_reading, option_kind, read_line, reading_after}
use Rattle.uw_conf.specs.Routes.{rule_lines_of, site_names_of}

-- ---- the least refused line

-- why a line is refused, if it is
abbrev pub refusal : Result ReadSoFar ConfKind → Option ConfKind
refusal (Ok next) = None
refusal (Err kind) = Some kind

-- why a line is refused behind a reading, if there is a line and it is
abbrev pub refusal_behind : ReadSoFar → Option (List ℕ) → Option ConfKind
refusal_behind r None = None
refusal_behind r (Some line) = refusal (read_line r line)

-- why the line of a place is refused, behind those before it and a reading before them
abbrev pub refusal_from : ReadSoFar → List (List ℕ) → ℕ → Option ConfKind
refusal_from r lines place = refusal_behind (reading_after r (take place lines)) (slice_get lines place)

-- why the line of a number is refused by itself, where lines are counted from 1
abbrev pub own_refusal_at : List (List ℕ) → ℕ → Option ConfKind
own_refusal_at lines zero = None
own_refusal_at lines (suc before) = refusal_from blank_reading lines before

-- why the rule of a line is refused in its table, if the line is a rule's and it is
abbrev pub rule_refusal_on : SiteNames → List RuleLine → ℕ → Option ConfKind
rule_refusal_on names rules number =
    option_map kinds.Rule (option_and_then (λ place. rule_refusal_at names rules place false) (position_from (λ (rule : RuleLine). rule.line == number) 0 rules))

-- why the line of a number is refused as a rule of a table, if it is
abbrev pub refusal_in : Table → List (List ℕ) → ℕ → Option ConfKind
refusal_in table lines number = rule_refusal_on (site_names_of lines) (rule_lines_of table lines) number

-- why the line of a number is refused: by itself, or as a rule of either table
abbrev pub refusal_at : List (List ℕ) → ℕ → Option ConfKind
refusal_at lines number = option_or (own_refusal_at lines number) (option_or (refusal_in tables.Requests lines number) (refusal_in tables.Tasks lines number))

-- the line of the fault is refused for its kind, and none before it is refused
pub record IsLeastRefusal (lines : List (List ℕ)) (fault : ConfFault) : Type 0 where
  pub refused : refusal_at lines fault.line ≡ Some fault.kind
  pub least : (number : ℕ) → number < fault.line → refusal_at lines number ≡ None

-- ---- the options of the section

-- an option and its value
pub record Setting : Type 0 where
  pub name : List ℕ
  pub value : List ℕ

-- whether the section `uwsgi` goes on behind a line
abbrev pub is_inside_behind : Bool → Line → Bool
is_inside_behind inside nothing = inside
is_inside_behind inside (section name) = bytes_eq name (codes "uwsgi")
is_inside_behind inside (option name value) = inside
is_inside_behind inside broken = inside

-- the setting that a line is, if it stands inside the section
abbrev pub setting_in : Bool → Line → List Setting
setting_in true (option name value) = record { name = name; value = value } ∷ []
setting_in _ _ = []

-- the settings among lines that begin inside the section, or outside of it
abbrev pub settings_from : Bool → List (List ℕ) → List Setting
settings_from inside [] = []
settings_from inside (line ∷ lines) = setting_in inside (line_of (trimmed line)) ++ settings_from (is_inside_behind inside (line_of (trimmed line))) lines

-- the settings of a text, in their order
abbrev pub settings_of : List ℕ → List Setting
settings_of text = settings_from false (lines text)

-- options told apart by a number
abbrev pub kind_number : OptionKind → ℕ
kind_number of.BufferSize = 0
kind_number of.Workers = 1
kind_number of.Harakiri = 2
kind_number of.ExpireFreq = 3
kind_number of.Spoolers = 4
kind_number of.SpoolFreq = 5
kind_number of.Socket = 6
kind_number of.Cache = 7
kind_number of.NoEffect = 8
kind_number of.Rule = 9
kind_number of.Area = 10

-- a name is that of the option
abbrev pub is_kind : OptionKind → Option OptionKind → Bool
is_kind kind None = false
is_kind kind (Some other) = kind_number other == kind_number kind

-- the values of an option, in their order
abbrev pub values_of : OptionKind → List Setting → List (List ℕ)
values_of kind settings = map (λ (s : Setting). s.value) (filter (λ (s : Setting). is_kind kind (option_kind s.name)) settings)

-- the last value of an option
abbrev pub last_value : OptionKind → List Setting → Option (List ℕ)
last_value kind settings = last_or None (values_of kind settings)

-- the number that a value says, or the default where there is no value
abbrev pub number_or : ℕ → Option (List ℕ) → ℕ
number_or default None = default
number_or default (Some text) = unwrap_or (decimal_of text) default

-- ---- lines of other sections

-- a line begins a section
abbrev pub is_section : Line → Bool
is_section nothing = false
is_section (section name) = true
is_section (option name value) = false
is_section broken = false

-- a text of UTF-8 that begins no section
pub record IsPlainLine (line : List ℕ) : Type 0 where
  pub text : utf8_valid_len line ≡ length line
  pub same_section : is_section (line_of (trimmed line)) ≡ false
