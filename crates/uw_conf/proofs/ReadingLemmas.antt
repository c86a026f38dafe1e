-- One line of a reading, and what each option keeps, which each line keeps and the whole text.
use Rattle.std.proofs.Common.{◌≡◌, ℕ, ◌+◌, ◌==◌, Bool, true, false, if◌then◌else◌, List, [], ◌∷◌, length, ap, ◌∙◌, Option, Some, None, Result, Ok, Err, IfOk}
use Rattle.std.proofs.lemmas.Result.{IfOk-at_ok}
use Rattle.std.specs.Str.Lines.{lines}
use Rattle.std.specs.Str.Lossy.{utf8_valid_len}
use Rattle.uw_conf.specs.declared.conf.Options.{Options}
use Rattle.uw_conf.specs.declared.conf.ConfFault.{ConfFault}
use Rattle.uw_conf.specs.declared.conf.ConfKind.{ConfKind}
use Rattle.uw_conf.specs.Lines.{Line, nothing, section, option, broken, line_of}
use Rattle.uw_base.specs.Texts.{trimmed}
use Rattle.uw_conf.specs.Reading.{ReadSoFar, blank_conf, with_option, with_conf, with_setting, with_broken_line, with_line, read_line, at_line, read_lines, blank_reading, unless_refused}
use Rattle.uw_conf.proofs.RefusalLemmas.{conf_read}
use Rattle.uw_conf.specs.Configuration.{configuration_of}
use Rattle.uw_conf.proofs.RefusalLemmas.{own_says}

-- a line that is taken leads to the lines behind it
pub lines_step : (r next : ReadSoFar) (number : ℕ) (line : List ℕ) (rest all : List (List ℕ)) → all ≡ line ∷ rest → read_line r line ≡ Ok next → read_lines (Ok r) number all ≡ read_lines (Ok next) (number + 1) rest
lines_step r next number line rest all first taken =
    ap (read_lines (Ok r) number) first ∙ ap (λ (x : Result ReadSoFar ConfKind). read_lines (at_line number x) (number + 1) rest) taken

-- a choice of two results
pub ok_if : {T E : Type 0} (P : T → Type 0) (b : Bool) (x y : Result T E) → IfOk x P → IfOk y P → IfOk (if b then x else y) P
ok_if P true x y h k = h
ok_if P false x y h k = k

-- what holds of a configuration, and goes on to hold behind each option that is taken
module _ (P : Options → Type 0) (options : (conf : Options) (name value : List ℕ) → P conf → IfOk (with_option conf name value) P) where
  abbrev Kept : {E : Type 0} → Result ReadSoFar E → Type 0
  Kept r = IfOk r (λ reading. P reading.conf)

  kept_in_keeps : (r : ReadSoFar) (x : Result Options ConfKind) → IfOk x P → Kept (with_conf r x)
  kept_in_keeps r (Err kind) h = tt
  kept_in_keeps r (Ok conf) h = h

  optioned_keeps : (r : ReadSoFar) (inside : Option Bool) (name value : List ℕ) → P r.conf → Kept (with_setting r inside name value)
  optioned_keeps r None name value h = tt
  optioned_keeps r (Some false) name value h = h
  optioned_keeps r (Some true) name value h = kept_in_keeps r (with_option r.conf name value) (options r.conf name value h)

  unread_keeps : (r : ReadSoFar) (inside : Option Bool) → P r.conf → Kept (with_broken_line r inside)
  unread_keeps r None h = tt
  unread_keeps r (Some false) h = h
  unread_keeps r (Some true) h = tt

  with_line_keeps : (r : ReadSoFar) (line : Line) → P r.conf → Kept (with_line r line)
  with_line_keeps r nothing h = h
  with_line_keeps r (section name) h = h
  with_line_keeps r (option name value) h = optioned_keeps r r.inside name value h
  with_line_keeps r broken h = unread_keeps r r.inside h

  read_line_keeps : (r : ReadSoFar) (line : List ℕ) → P r.conf → Kept (read_line r line)
  read_line_keeps r line h =
      ok_if (λ (reading : ReadSoFar). P reading.conf) (utf8_valid_len line == length line) _ _ (with_line_keeps r (line_of (trimmed line)) h) tt

  -- a line that is taken keeps it
  pub taken_keeps : (r next : ReadSoFar) (line : List ℕ) → P r.conf → read_line r line ≡ Ok next → P next.conf
  taken_keeps r next line h taken = IfOk-at_ok (λ (reading : ReadSoFar). P reading.conf) taken (read_line_keeps r line h)

  at_line_keeps : (number : ℕ) (x : Result ReadSoFar ConfKind) → Kept x → Kept (at_line number x)
  at_line_keeps number (Ok r) h = h
  at_line_keeps number (Err kind) h = tt

  read_lines_keeps : (x : Result ReadSoFar ConfFault) (number : ℕ) (all : List (List ℕ)) → Kept x → Kept (read_lines x number all)
  read_lines_keeps (Err fault) number [] h = tt
  read_lines_keeps (Err fault) number (line ∷ rest) h = tt
  read_lines_keeps (Ok r) number [] h = h
  read_lines_keeps (Ok r) number (line ∷ rest) h =
      read_lines_keeps (at_line number (read_line r line)) (number + 1) rest (at_line_keeps number (read_line r line) (read_line_keeps r line h))

  conf_read_keeps : (x : Result ReadSoFar ConfFault) → Kept x → IfOk (conf_read x) P
  conf_read_keeps (Err fault) h = tt
  conf_read_keeps (Ok r) h = h

  -- it holds of what a text says, where it holds of a configuration that says nothing
  pub configuration_keeps : P blank_conf → (text : List ℕ) (conf : Options) → configuration_of text ≡ Ok conf → P conf
  configuration_keeps blank text conf says =
      let start : Result ReadSoFar ConfFault = Ok blank_reading in
      IfOk-at_ok P (own_says text conf says) (conf_read_keeps (read_lines start 1 (lines text)) (read_lines_keeps start 1 (lines text) blank))

  past : (r : ReadSoFar) (x : Result ReadSoFar ConfKind) → Kept x → P r.conf → P (unless_refused r x).conf
  past r (Ok next) kept h = kept
  past r (Err kind) kept h = h

  -- a line that is taken, or passed where it is refused, keeps it
  pub past_keeps : (r : ReadSoFar) (line : List ℕ) → P r.conf → P (unless_refused r (read_line r line)).conf
  past_keeps r line h = past r (read_line r line) (read_line_keeps r line h) h
