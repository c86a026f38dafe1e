-- What the lines of a text say: each in turn, up to the first that is refused; or past each that is refused (own rule).
use Rattle.std.specs.Prelude.{ℕ, ◌+◌, ◌==◌, Bool, true, false, ◌||◌, if◌then◌else◌, List, [], ◌∷◌, length, codes, Option, None, Some, is_some, Result, Ok, Err}
use Rattle.std.specs.List.{list_any}
use Rattle.std.specs.Str.{bytes_eq}
use Rattle.std.specs.Str.Lossy.{utf8_valid_len}
use Rattle.uw_model.specs.declared.conf.CacheConf.{CacheConf}
use Rattle.uw_conf.specs.declared.conf.Options.{Options}
use Rattle.uw_conf.specs.declared.conf.ConfFault.{ConfFault}
use Rattle.uw_conf.specs.declared.conf.ConfKind.{ConfKind}
use Rattle.uw_conf.specs.declared.conf.ConfKind.TheVariants as kinds
use Rattle.uw_conf.specs.declared.options.OptionKind.{OptionKind}
use Rattle.uw_conf.specs.declared.options.OptionKind.TheVariants as of
use Rattle.uw_conf.specs.Lines.{Line, nothing, section, option, broken, line_of}
use Rattle.uw_base.specs.Texts.{trimmed}
use Rattle.uw_conf.specs.AreaLines.{with_area}
use Rattle.uw_conf.specs.Caches.{number_in, with_cache}
use Rattle.uw_rules.specs.Grammar.{kind_of_line}

-- where a reading stands: before any section (None), in the section `uwsgi`, or in another; and what it has read
pub record ReadSoFar : Type 0 where
  pub inside : Option Bool
  pub conf : Options

-- what an empty text says: the defaults
abbrev pub blank_conf : Options
blank_conf = record {
  buffer_size = 4096;
  workers = 1;
  harakiri = 0;
  expire_freq = 3;
  spoolers = 1;
  spool_freq = 30;
  socket = [];
  caches = [];
  areas = [];
}

-- options that are taken with any value, and have no effect
abbrev pub is_passed_over : List ℕ → Bool
is_passed_over name = list_any (bytes_eq name)
    (codes "spooler" ∷ codes "master" ∷ codes "vacuum" ∷ codes "die-on-term" ∷ codes "plugin" ∷ codes "plugins" ∷ codes "need-app" ∷ codes "strict" ∷ codes "disable-logging"
    ∷ codes "chmod-socket" ∷ codes "chown-socket" ∷ codes "uid" ∷ codes "gid" ∷ codes "chdir" ∷ codes "pidfile" ∷ codes "threads" ∷ codes "enable-threads" ∷ codes "listen"
    ∷ codes "thunder-lock" ∷ [])

-- the option of a name
abbrev pub option_kind : List ℕ → Option OptionKind
option_kind name =
    if bytes_eq name (codes "buffer-size") then Some of.BufferSize
    else (if bytes_eq name (codes "workers") || bytes_eq name (codes "processes") then Some of.Workers
    else (if bytes_eq name (codes "harakiri") then Some of.Harakiri
    else (if bytes_eq name (codes "cache-expire-freq") then Some of.ExpireFreq
    else (if bytes_eq name (codes "spooler-processes") then Some of.Spoolers
    else (if bytes_eq name (codes "spooler-frequency") then Some of.SpoolFreq
    else (if bytes_eq name (codes "socket") then Some of.Socket
    else (if bytes_eq name (codes "cache2") then Some of.Cache
    else (if bytes_eq name (codes "sharedarea") then Some of.Area
    else (if is_some (kind_of_line name) then Some of.Rule
    else (if is_passed_over name then Some of.NoEffect else None))))))))))

-- a number within its limits, or a bad value
abbrev pub set_number : Option ℕ → (ℕ → Options) → Result Options ConfKind
set_number None set = Err kinds.BadValue
set_number (Some number) set = Ok (set number)

-- the caches of a line, or why the line is refused
abbrev pub set_caches : Options → Result (List CacheConf) ConfKind → Result Options ConfKind
set_caches conf (Err kind) = Err kind
set_caches conf (Ok caches) = Ok (record conf { caches = caches })

-- the areas of a line, or why the line is refused
abbrev pub set_areas : Options → Result (List ℕ) ConfKind → Result Options ConfKind
set_areas conf (Err kind) = Err kind
set_areas conf (Ok areas) = Ok (record conf { areas = areas })

-- an option with its value; what a rule says is not among the options
abbrev pub set_option : Options → OptionKind → List ℕ → Result Options ConfKind
set_option conf of.BufferSize value = set_number (number_in 1 65535 value) (λ n. record conf { buffer_size = n })
set_option conf of.Workers value = set_number (number_in 1 64 value) (λ n. record conf { workers = n })
set_option conf of.Harakiri value = set_number (number_in 0 86400 value) (λ n. record conf { harakiri = n })
set_option conf of.ExpireFreq value = set_number (number_in 1 3600 value) (λ n. record conf { expire_freq = n })
set_option conf of.Spoolers value = set_number (number_in 1 16 value) (λ n. record conf { spoolers = n })
set_option conf of.SpoolFreq value = set_number (number_in 1 3600 value) (λ n. record conf { spool_freq = n })
set_option conf of.Socket value = if length value == 0 then Err kinds.BadValue else Ok (record conf { socket = value })
set_option conf of.Cache value = set_caches conf (with_cache conf.areas conf.caches value)
set_option conf of.Area value = set_areas conf (with_area conf.caches conf.areas value)
set_option conf of.Rule value = Ok conf
set_option conf of.NoEffect value = Ok conf

-- one option: its name is known, or the line is refused
abbrev pub with_option : Options → List ℕ → List ℕ → Result Options ConfKind
with_option conf name value = if_known (option_kind name) conf value
  where
    if_known : Option OptionKind → Options → List ℕ → Result Options ConfKind
    if_known None conf value = Err kinds.UnknownOption
    if_known (Some kind) conf value = set_option conf kind value

-- a reading after an option, or why the option is refused
abbrev pub with_conf : ReadSoFar → Result Options ConfKind → Result ReadSoFar ConfKind
with_conf r (Err kind) = Err kind
with_conf r (Ok conf) = Ok (record r { conf = conf })

-- an option in its section; one before any section is a bad line, and one of another section is passed over
abbrev pub with_setting : ReadSoFar → Option Bool → List ℕ → List ℕ → Result ReadSoFar ConfKind
with_setting r None name value = Err kinds.BadLine
with_setting r (Some false) name value = Ok r
with_setting r (Some true) name value = with_conf r (with_option r.conf name value)

-- a line that is nothing known is bad, but in another section
abbrev pub with_broken_line : ReadSoFar → Option Bool → Result ReadSoFar ConfKind
with_broken_line r None = Err kinds.BadLine
with_broken_line r (Some false) = Ok r
with_broken_line r (Some true) = Err kinds.BadLine

-- a line that was told what it is
abbrev pub with_line : ReadSoFar → Line → Result ReadSoFar ConfKind
with_line r nothing = Ok r
with_line r (section name) = Ok (record r { inside = Some (bytes_eq name (codes "uwsgi")) })
with_line r (option name value) = with_setting r r.inside name value
with_line r broken = with_broken_line r r.inside

-- a line that is no text of UTF-8 is bad, wherever it stands
abbrev pub read_line : ReadSoFar → List ℕ → Result ReadSoFar ConfKind
read_line r line = if utf8_valid_len line == length line then with_line r (line_of (trimmed line)) else Err kinds.BadLine

-- the refusal of a line, with its number
abbrev pub refused_at : ℕ → ConfKind → ConfFault
refused_at line kind = record { line = line; kind = kind }

-- a line's refusal, with its number
abbrev pub at_line : ℕ → Result ReadSoFar ConfKind → Result ReadSoFar ConfFault
at_line number (Ok r) = Ok r
at_line number (Err kind) = Err (refused_at number kind)

-- the lines from a number on, up to the first that is refused
abbrev pub read_lines : Result ReadSoFar ConfFault → ℕ → List (List ℕ) → Result ReadSoFar ConfFault
read_lines (Err fault) number lines = Err fault
read_lines (Ok r) number [] = Ok r
read_lines (Ok r) number (line ∷ lines) = read_lines (at_line number (read_line r line)) (number + 1) lines

-- a reading before the first line
abbrev pub blank_reading : ReadSoFar
blank_reading = record { inside = None; conf = blank_conf }

-- a reading after a line: a refused line defines nothing
abbrev pub unless_refused : ReadSoFar → Result ReadSoFar ConfKind → ReadSoFar
unless_refused r (Ok next) = next
unless_refused r (Err kind) = r

-- a reading after lines, past each that is refused
abbrev pub reading_after : ReadSoFar → List (List ℕ) → ReadSoFar
reading_after r [] = r
reading_after r (line ∷ lines) = reading_after (unless_refused r (read_line r line)) lines
