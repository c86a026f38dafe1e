-- What the text between the braces of a form says ("InternalRouting").
use Rattle.std.specs.Prelude.{ℕ, ◌+◌, ◌-◌, ◌==◌, Bool, true, false, if◌then◌else◌, List, [], ◌∷◌, length, take, slice_index, codes, decimal, Option, None, Some}
use Rattle.std.specs.List.{after_first, before_first, list_any}
use Rattle.std.specs.Str.{bytes_eq}
use Rattle.base64.specs.Engines.{standard}
use Rattle.base64.specs.GeneralPurpose.{encode_of}
use Rattle.uw_base.specs.Numbers.{decimal_of}
use Rattle.uw_base.specs.Variables.{value_of}
use Rattle.uw_base.specs.declared.variables.Pair.{Pair}
use Rattle.uw_subst.specs.Dates.{date_at}
use Rattle.uw_subst.specs.Queries.{query_value}

-- what is filled in: a variable's value, a value of the query string, the moment, a date so many seconds after it, a variable's value in base64; or nothing, where the form is bad
pub data Form : Type 0 where
  variable : List ℕ → Form
  query : List ℕ → Form
  time : Form
  date : ℕ → Form
  encoded : List ℕ → Form
  bad : Form

-- a date of so many seconds, where they could be read
abbrev pub date_form : Option ℕ → Form
date_form None = bad
date_form (Some seconds) = date seconds

-- the seconds of a date: no text is 0
abbrev pub date_seconds : List ℕ → Option ℕ
date_seconds [] = Some 0
date_seconds (digit ∷ digits) = decimal_of (digit ∷ digits)

-- a form by its name and its argument
abbrev pub named_form : List ℕ → List ℕ → Form
named_form name argument =
    if bytes_eq name (codes "qs") then query argument
    else (if bytes_eq name (codes "time") then (if bytes_eq argument (codes "unix") then time else bad)
    else (if bytes_eq name (codes "httptime") then date_form (date_seconds argument)
    else (if bytes_eq name (codes "base64") then encoded argument else bad)))

-- a form by its name and what stands behind the `[`: the argument, and a `]` (93) at the end
abbrev pub bracket_form : List ℕ → List ℕ → Form
bracket_form name rest = if slice_index rest (length rest - 1) == 93 then named_form name (take (length rest - 1) rest) else bad

-- a name of at least one byte, without `]` (93), is a variable
abbrev pub variable_form : List ℕ → Form
variable_form [] = bad
variable_form (first ∷ rest) = if list_any (λ byte. byte == 93) (first ∷ rest) then bad else variable (first ∷ rest)

-- what the text between the braces says: with a `[` (91) it is a name and an argument, else a variable
unfoldable pub form_of : List ℕ → Form
form_of text =
    if list_any (λ byte. byte == 91) text then bracket_form (before_first (λ byte. byte == 91) text) (after_first (λ byte. byte == 91) text)
    else variable_form text

-- the form says nothing
abbrev pub is_bad_form : Form → Bool
is_bad_form bad = true
is_bad_form (variable name) = false
is_bad_form (query name) = false
is_bad_form time = false
is_bad_form (date seconds) = false
is_bad_form (encoded name) = false

-- what is filled in for a form
abbrev pub form_text : List Pair → ℕ → Form → List ℕ
form_text vars moment (variable name) = value_of vars name
form_text vars moment (query name) = query_value name (value_of vars (codes "QUERY_STRING"))
form_text vars moment time = decimal moment
form_text vars moment (date seconds) = date_at (moment + seconds)
form_text vars moment (encoded name) = encode_of standard (value_of vars name)
form_text vars moment bad = []
