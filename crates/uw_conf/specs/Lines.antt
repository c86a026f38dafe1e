-- The lines of a configuration (own rule).
use Rattle.std.specs.Prelude.{ℕ, ◌==◌, Bool, false, ◌||◌, ◌&&◌, if◌then◌else◌, List, [], ◌∷◌, length, take, ◌-◌}
use Rattle.std.specs.List.{before_first, after_first, list_any}
use Rattle.uw_base.specs.Texts.{trimmed}

-- what a line is: nothing, the beginning of a section, an option with its value, or none of these
pub data Line : Type 0 where
  nothing : Line
  section : List ℕ → Line
  option : List ℕ → List ℕ → Line
  broken : Line

-- an option and a value, trimmed; an option without a byte is none
abbrev pub option_line : List ℕ → List ℕ → Line
option_line [] value = broken
option_line (byte ∷ name) value = option (byte ∷ name) value

-- a line with a `=` (61) parts there, at the first one
abbrev pub parted : List ℕ → Line
parted text =
    if list_any (λ byte. byte == 61) text then option_line (trimmed (before_first (λ byte. byte == 61) text)) (trimmed (after_first (λ byte. byte == 61) text))
    else broken

-- the byte at the end of a text
abbrev pub ends_with_byte : ℕ → List ℕ → Bool
ends_with_byte byte [] = false
ends_with_byte byte (last ∷ []) = last == byte
ends_with_byte byte (first ∷ next ∷ rest) = ends_with_byte byte (next ∷ rest)

-- a trimmed line: empty or a comment behind `;` (59) or `#` (35); a section between `[` (91) and `]` (93); else an option
abbrev pub line_of : List ℕ → Line
line_of [] = nothing
line_of (byte ∷ text) =
    if byte == 59 || byte == 35 then nothing
    else (if byte == 91 && ends_with_byte 93 text then section (take (length text - 1) text)
    else parted (byte ∷ text))
