-- What a text says, or its least refused line (own rule).
use Rattle.std.specs.Prelude.{ℕ, nat_lt, if◌then◌else◌, List, length, Option, None, Some, Result, Ok, Err}
use Rattle.std.specs.Str.Lines.{lines}
use Rattle.uw_conf.specs.declared.conf.Options.{Options}
use Rattle.uw_conf.specs.declared.conf.ConfFault.{ConfFault}
use Rattle.uw_conf.specs.declared.conf.ConfKind.TheVariants as kinds
use Rattle.uw_conf.specs.Reading.{ReadSoFar, blank_reading, read_lines, reading_after, refused_at}
use Rattle.uw_conf.specs.Routes.{first_refused_in}
use Rattle.uw_rules.specs.declared.grammar.Table.TheVariants as tables

-- the most bytes of a text
abbrev pub most_text_bytes : ℕ
most_text_bytes = 1048576

-- the fault of a reading that was refused
abbrev pub fault_of_reading : Result ReadSoFar ConfFault → Option ConfFault
fault_of_reading (Err fault) = Some fault
fault_of_reading (Ok r) = None

-- the first refused line that is no rule's
abbrev pub first_refused_option : List (List ℕ) → Option ConfFault
first_refused_option lines = fault_of_reading (read_lines (Ok blank_reading) 1 lines)

-- the fault of the lesser line
abbrev pub lesser_fault : Option ConfFault → Option ConfFault → Option ConfFault
lesser_fault None other = other
lesser_fault (Some fault) None = Some fault
lesser_fault (Some fault) (Some other) = if nat_lt other.line fault.line then Some other else Some fault

-- the least refused line, where the maker of patterns refuses none
abbrev pub least_refused : List (List ℕ) → Option ConfFault
least_refused lines = lesser_fault (first_refused_option lines) (lesser_fault (first_refused_in tables.Requests lines) (first_refused_in tables.Tasks lines))

-- options, unless there is a fault
abbrev pub unless_fault : Option ConfFault → Options → Result Options ConfFault
unless_fault None conf = Ok conf
unless_fault (Some fault) conf = Err fault

-- what lines say, or the least refused one
abbrev pub said_by : List (List ℕ) → Result Options ConfFault
said_by lines = unless_fault (least_refused lines) (reading_after blank_reading lines).conf

-- what a text says, or its least refused line
abbrev pub configuration_of : List ℕ → Result Options ConfFault
configuration_of text = if nat_lt most_text_bytes (length text) then Err (refused_at 0 (kinds.TooLarge (length text) most_text_bytes)) else said_by (lines text)
