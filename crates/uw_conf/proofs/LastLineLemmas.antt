-- An option that holds one number or text counts by its last line.
use Rattle.std.proofs.Common.{◌≡◌, ℕ, ◌+◌, ◌==◌, Bool, true, false, ◌&&◌, cond, nat_le, List, [], ◌∷◌, ◌++◌, length, codes, unwrap_or, Option, Some, None, Result, Ok, Err, IfOk, refl, sym, ap, ◌∙◌}
use Rattle.std.specs.List.{last_or}
use Rattle.std.specs.Str.{bytes_eq}
use Rattle.std.specs.Str.Lines.{lines}
use Rattle.std.specs.Str.Lossy.{utf8_valid_len}
use Rattle.uw_base.specs.Numbers.{decimal_of}
use Rattle.uw_model.specs.declared.conf.CacheConf.{CacheConf}
use Rattle.uw_conf.specs.declared.conf.Options.{Options}
use Rattle.uw_conf.specs.declared.conf.ConfFault.{ConfFault}
use Rattle.uw_conf.specs.declared.conf.ConfKind.{ConfKind}
use Rattle.uw_conf.specs.declared.conf.ConfKind.TheVariants as kinds
use Rattle.uw_conf.specs.declared.options.OptionKind.{OptionKind}
use Rattle.uw_conf.specs.declared.options.OptionKind.TheVariants as of
use Rattle.uw_conf.specs.Lines.{Line, nothing, section, option, broken, line_of}
use Rattle.uw_base.specs.Texts.{trimmed}
use Rattle.uw_conf.specs.Caches.{number_in, with_cache}
use Rattle.uw_conf.specs.AreaLines.{with_area}
use Rattle.uw_conf.specs.Reading.{ReadSoFar, blank_reading, option_kind, set_areas, set_number, set_caches, set_option, with_option, with_conf, with_setting, with_broken_line, with_line, read_line, at_line, read_lines}
use Rattle.uw_conf.proofs.RefusalLemmas.{conf_read}
use Rattle.uw_conf.specs.Configuration.{configuration_of}
use Rattle.uw_conf.proofs.RefusalLemmas.{own_says}
use Rattle.uw_conf.specs.Laws.{Setting, is_inside_behind, is_kind, last_value, number_or, setting_in, settings_from, settings_of, values_of}

abbrev is_inside : Option Bool → Bool
is_inside None = false
is_inside (Some inside) = inside

ok_step : {T E : Type 0} (P : T → Type 0) (b : Bool) (x y : Result T E) → (b ≡ true → IfOk x P) → (b ≡ false → IfOk y P) → IfOk (cond b x y) P
ok_step P true x y h k = h refl
ok_step P false x y h k = k refl

-- a field of a configuration, of which each option says what it leaves in it: what its value says where it is of the kind, and else what was there
module _ {A : Type 0} (field : Options → A) (kind : OptionKind) (read : List ℕ → A)
    (step : (conf : Options) (name value : List ℕ) → IfOk (with_option conf name value) (λ next. field next ≡ cond (is_kind kind (option_kind name)) (read value) (field conf))) where
  abbrev pub value_or : A → Option (List ℕ) → A
  value_or default None = default
  value_or default (Some text) = read text

  some_read : (default other : A) (value : List ℕ) (more : List (List ℕ)) → value_or default (last_or (Some value) more) ≡ value_or other (last_or (Some value) more)
  some_read default other value [] = refl
  some_read default other value (next ∷ more) = some_read default other next more

  last_read : (default : A) (value : List ℕ) (more : List (List ℕ)) → value_or default (last_or None (value ∷ more)) ≡ value_or (read value) (last_or None more)
  last_read default value [] = refl
  last_read default value (next ∷ more) = some_read default (read value) next more

  -- the value of the last setting, or what was there
  abbrev by_last : A → List Setting → A
  by_last default settings = value_or default (last_or None (values_of kind settings))

  one_more : (default : A) (s : Setting) (settings : List Setting) → by_last default (s ∷ settings) ≡ by_last (cond (is_kind kind (option_kind s.name)) (read s.value) default) settings
  one_more default s settings = by_test (is_kind kind (option_kind s.name)) refl
    where
      by_test : (test : Bool) → is_kind kind (option_kind s.name) ≡ test → by_last default (s ∷ settings) ≡ by_last (cond test (read s.value) default) settings
      by_test true e = rw e (last_read default s.value (values_of kind settings))
      by_test false e = rw e refl

  -- a line that is taken leaves in the field what its setting says
  abbrev Leaves : ReadSoFar → Line → Result ReadSoFar ConfKind → Type 0
  Leaves r line read =
      IfOk read (λ mid. (settings : List Setting) → (is_inside mid.inside ≡ is_inside_behind (is_inside r.inside) line) × (by_last (field r.conf) (setting_in (is_inside r.inside) line ++ settings) ≡ by_last (field mid.conf) settings))

  conf_leaves : (r : ReadSoFar) (name value : List ℕ) (x : Result Options ConfKind) → r.inside ≡ Some true → IfOk x (λ next. field next ≡ cond (is_kind kind (option_kind name)) (read value) (field r.conf)) → Leaves r (option name value) (with_conf r x)
  conf_leaves r name value (Err kind) inside h = tt
  conf_leaves r name value (Ok conf) inside h = λ settings. (rw inside refl, rw inside (one_more (field r.conf) (record { name = name; value = value }) settings ∙ ap (λ d. by_last d settings) (sym h)))

  setting_leaves : (r : ReadSoFar) (inside : Option Bool) (name value : List ℕ) → r.inside ≡ inside → Leaves r (option name value) (with_setting r inside name value)
  setting_leaves r None name value e = tt
  setting_leaves r (Some false) name value e = λ settings. (rw e refl, rw e refl)
  setting_leaves r (Some true) name value e = conf_leaves r name value (with_option r.conf name value) e (step r.conf name value)

  broken_leaves : (r : ReadSoFar) (inside : Option Bool) → r.inside ≡ inside → Leaves r broken (with_broken_line r inside)
  broken_leaves r None e = tt
  broken_leaves r (Some false) e = λ settings. (refl, rw e refl)
  broken_leaves r (Some true) e = tt

  plain_leaves : (r mid : ReadSoFar) (line : Line) → mid.conf ≡ r.conf → setting_in (is_inside r.inside) line ≡ [] → is_inside mid.inside ≡ is_inside_behind (is_inside r.inside) line → Leaves r line (Ok mid)
  plain_leaves r mid line same none inside = λ settings. (inside, rw (none, same) refl)

  no_setting : (inside : Bool) → setting_in inside nothing ≡ []
  no_setting true = refl
  no_setting false = refl

  no_section : (inside : Bool) (name : List ℕ) → setting_in inside (section name) ≡ []
  no_section true name = refl
  no_section false name = refl

  line_leaves : (r : ReadSoFar) (line : Line) → Leaves r line (with_line r line)
  line_leaves r nothing = plain_leaves r r nothing refl (no_setting (is_inside r.inside)) refl
  line_leaves r (section name) = plain_leaves r (record r { inside = Some (bytes_eq name (codes "uwsgi")) }) (section name) refl (no_section (is_inside r.inside) name) refl
  line_leaves r (option name value) = setting_leaves r r.inside name value refl
  line_leaves r broken = broken_leaves r r.inside refl

  read_leaves : (r : ReadSoFar) (line : List ℕ) → Leaves r (line_of (trimmed line)) (read_line r line)
  read_leaves r line = ok_step _ (utf8_valid_len line == length line) _ _ (λ _. line_leaves r (line_of (trimmed line))) (λ _. tt)

  -- a whole reading leaves what the last setting says
  read_all : (r last : ReadSoFar) (number : ℕ) (all : List (List ℕ)) → read_lines (Ok r) number all ≡ Ok last → field last.conf ≡ by_last (field r.conf) (settings_from (is_inside r.inside) all)
  read_all r last number [] e = let same : r ≡ last = cc in ap (λ (x : ReadSoFar). field x.conf) (sym same)
  read_all r last number (line ∷ rest) e = behind (read_line r line) (read_leaves r line) e (λ mid. read_all mid last (number + 1) rest)
    where
      refused : (rest : List (List ℕ)) (fault : ConfFault) → read_lines (Err fault) (number + 1) rest ≡ Ok last → ⊥
      refused [] fault e = cc
      refused (line ∷ rest) fault e = cc

      behind : (read : Result ReadSoFar ConfKind) → Leaves r (line_of (trimmed line)) read → read_lines (at_line number read) (number + 1) rest ≡ Ok last
          → ((mid : ReadSoFar) → read_lines (Ok mid) (number + 1) rest ≡ Ok last → field last.conf ≡ by_last (field mid.conf) (settings_from (is_inside mid.inside) rest))
          → field last.conf ≡ by_last (field r.conf) (setting_in (is_inside r.inside) (line_of (trimmed line)) ++ settings_from (is_inside_behind (is_inside r.inside) (line_of (trimmed line))) rest)
      behind (Err kind) h e later = absurd (refused rest _ e)
      behind (Ok mid) h e later =
          let here = h (settings_from (is_inside_behind (is_inside r.inside) (line_of (trimmed line))) rest) in
          later mid e ∙ ap (λ inside. by_last (field mid.conf) (settings_from inside rest)) here.0 ∙ sym here.1

  conf_of_reading : (x : Result ReadSoFar ConfFault) (conf : Options) → conf_read x ≡ Ok conf → (r : ReadSoFar) × (x ≡ Ok r) × (r.conf ≡ conf)
  conf_of_reading (Err fault) conf e = absurd (cc)
  conf_of_reading (Ok r) conf e = (r, refl, cc)

  pub counts_by_last : (text : List ℕ) (conf : Options) → configuration_of text ≡ Ok conf → field conf ≡ value_or (field blank_reading.conf) (last_or None (values_of kind (settings_from false (lines text))))
  counts_by_last text conf says =
      let read = conf_of_reading (read_lines (Ok blank_reading) 1 (lines text)) conf (own_says text conf says) in
      ap field (sym read.2) ∙ read_all blank_reading read.0 1 (lines text) read.1

-- ---- what each option leaves in each field

-- what an option leaves in the fields that hold one number or text: what its value says in its own, and the others as they were
record FieldsAfter (kind : OptionKind) (value : List ℕ) (before after : Options) : Type 0 where
  of_buffer_size : after.buffer_size ≡ cond (is_kind of.BufferSize (Some kind)) (number_or 4096 (Some value)) before.buffer_size
  of_workers : after.workers ≡ cond (is_kind of.Workers (Some kind)) (number_or 1 (Some value)) before.workers
  of_harakiri : after.harakiri ≡ cond (is_kind of.Harakiri (Some kind)) (number_or 0 (Some value)) before.harakiri
  of_expire_freq : after.expire_freq ≡ cond (is_kind of.ExpireFreq (Some kind)) (number_or 3 (Some value)) before.expire_freq
  of_spoolers : after.spoolers ≡ cond (is_kind of.Spoolers (Some kind)) (number_or 1 (Some value)) before.spoolers
  of_spool_freq : after.spool_freq ≡ cond (is_kind of.SpoolFreq (Some kind)) (number_or 30 (Some value)) before.spool_freq
  of_socket : after.socket ≡ cond (is_kind of.Socket (Some kind)) (value) before.socket

-- a number that is taken is the one that its text says
number_left : (low high : ℕ) (value : List ℕ) (set : ℕ → Options) (P : Options → Type 0) → ((n : ℕ) → decimal_of value ≡ Some n → P (set n)) → IfOk (set_number (number_in low high value) set) P
number_left low high value set P each = by_number (decimal_of value) refl
  where
    taken : (b : Bool) (n : ℕ) → decimal_of value ≡ Some n → IfOk (set_number (cond b (Some n) None) set) P
    taken true n e = each n e
    taken false n e = tt

    by_number : (o : Option ℕ) → decimal_of value ≡ o → IfOk (set_number (number_in low high value) set) P
    by_number None e = rw e tt
    by_number (Some n) e = rw e (taken (nat_le low n && nat_le n high) n e)

caches_left : (conf : Options) (r : Result (List CacheConf) ConfKind) (P : Options → Type 0) → ((caches : List CacheConf) → P (record conf { caches = caches })) → IfOk (set_caches conf r) P
caches_left conf (Err kind) P each = tt
caches_left conf (Ok caches) P each = each caches

areas_left : (conf : Options) (r : Result (List ℕ) ConfKind) (P : Options → Type 0) → ((areas : List ℕ) → P (record conf { areas = areas })) → IfOk (set_areas conf r) P
areas_left conf (Err kind) P each = tt
areas_left conf (Ok areas) P each = each areas

set_leaves : (conf : Options) (kind : OptionKind) (value : List ℕ) → IfOk (set_option conf kind value) (FieldsAfter kind value conf)
set_leaves conf of.BufferSize value = number_left 1 65535 value (λ n. record conf { buffer_size = n }) (FieldsAfter of.BufferSize value conf) (λ n e. record { of_buffer_size = rw e refl; of_workers = refl; of_harakiri = refl; of_expire_freq = refl; of_spoolers = refl; of_spool_freq = refl; of_socket = refl })
set_leaves conf of.Workers value = number_left 1 64 value (λ n. record conf { workers = n }) (FieldsAfter of.Workers value conf) (λ n e. record { of_buffer_size = refl; of_workers = rw e refl; of_harakiri = refl; of_expire_freq = refl; of_spoolers = refl; of_spool_freq = refl; of_socket = refl })
set_leaves conf of.Harakiri value = number_left 0 86400 value (λ n. record conf { harakiri = n }) (FieldsAfter of.Harakiri value conf) (λ n e. record { of_buffer_size = refl; of_workers = refl; of_harakiri = rw e refl; of_expire_freq = refl; of_spoolers = refl; of_spool_freq = refl; of_socket = refl })
set_leaves conf of.ExpireFreq value = number_left 1 3600 value (λ n. record conf { expire_freq = n }) (FieldsAfter of.ExpireFreq value conf) (λ n e. record { of_buffer_size = refl; of_workers = refl; of_harakiri = refl; of_expire_freq = rw e refl; of_spoolers = refl; of_spool_freq = refl; of_socket = refl })
set_leaves conf of.Spoolers value = number_left 1 16 value (λ n. record conf { spoolers = n }) (FieldsAfter of.Spoolers value conf) (λ n e. record { of_buffer_size = refl; of_workers = refl; of_harakiri = refl; of_expire_freq = refl; of_spoolers = rw e refl; of_spool_freq = refl; of_socket = refl })
set_leaves conf of.SpoolFreq value = number_left 1 3600 value (λ n. record conf { spool_freq = n }) (FieldsAfter of.SpoolFreq value conf) (λ n e. record { of_buffer_size = refl; of_workers = refl; of_harakiri = refl; of_expire_freq = refl; of_spoolers = refl; of_spool_freq = rw e refl; of_socket = refl })
set_leaves conf of.Socket value = ok_step (FieldsAfter of.Socket value conf) (length value == 0) (Err kinds.BadValue) (Ok (record conf { socket = value })) (λ _. tt) (λ _. record { of_buffer_size = refl; of_workers = refl; of_harakiri = refl; of_expire_freq = refl; of_spoolers = refl; of_spool_freq = refl; of_socket = refl })
set_leaves conf of.Cache value = caches_left conf (with_cache conf.areas conf.caches value) (FieldsAfter of.Cache value conf) (λ caches. record { of_buffer_size = refl; of_workers = refl; of_harakiri = refl; of_expire_freq = refl; of_spoolers = refl; of_spool_freq = refl; of_socket = refl })
set_leaves conf of.Area value = areas_left conf (with_area conf.caches conf.areas value) (FieldsAfter of.Area value conf) (λ areas. record { of_buffer_size = refl; of_workers = refl; of_harakiri = refl; of_expire_freq = refl; of_spoolers = refl; of_spool_freq = refl; of_socket = refl })
set_leaves conf of.Rule value = record { of_buffer_size = refl; of_workers = refl; of_harakiri = refl; of_expire_freq = refl; of_spoolers = refl; of_spool_freq = refl; of_socket = refl }
set_leaves conf of.NoEffect value = record { of_buffer_size = refl; of_workers = refl; of_harakiri = refl; of_expire_freq = refl; of_spoolers = refl; of_spool_freq = refl; of_socket = refl }

-- what an option leaves by its name, where what it leaves by its kind is known
by_name : (P : Option OptionKind → Options → Type 0) (conf : Options) (name value : List ℕ) → ((kind : OptionKind) → IfOk (set_option conf kind value) (P (Some kind))) → IfOk (with_option conf name value) (P (option_kind name))
by_name P conf name value each = known (option_kind name) refl
  where
    known : (kind : Option OptionKind) → option_kind name ≡ kind → IfOk (with_option conf name value) (P (option_kind name))
    known None e = rw e tt
    known (Some kind) e = rw e (each kind)

of_result : {T E : Type 0} (x : Result T E) (P Q : T → Type 0) → ((t : T) → P t → Q t) → IfOk x P → IfOk x Q
of_result (Ok t) P Q to h = to t h
of_result (Err e) P Q to h = tt

buffer_size_step : (conf : Options) (name value : List ℕ) → IfOk (with_option conf name value) (λ (next : Options). next.buffer_size ≡ cond (is_kind of.BufferSize (option_kind name)) (number_or 4096 (Some value)) conf.buffer_size)
buffer_size_step conf name value =
    by_name (λ kind next. next.buffer_size ≡ cond (is_kind of.BufferSize kind) (number_or 4096 (Some value)) conf.buffer_size) conf name value (λ kind.
    of_result (set_option conf kind value) (FieldsAfter kind value conf) (λ next. next.buffer_size ≡ cond (is_kind of.BufferSize (Some kind)) (number_or 4096 (Some value)) conf.buffer_size) (λ next h. h.of_buffer_size) (set_leaves conf kind value))

workers_step : (conf : Options) (name value : List ℕ) → IfOk (with_option conf name value) (λ (next : Options). next.workers ≡ cond (is_kind of.Workers (option_kind name)) (number_or 1 (Some value)) conf.workers)
workers_step conf name value =
    by_name (λ kind next. next.workers ≡ cond (is_kind of.Workers kind) (number_or 1 (Some value)) conf.workers) conf name value (λ kind.
    of_result (set_option conf kind value) (FieldsAfter kind value conf) (λ next. next.workers ≡ cond (is_kind of.Workers (Some kind)) (number_or 1 (Some value)) conf.workers) (λ next h. h.of_workers) (set_leaves conf kind value))

harakiri_step : (conf : Options) (name value : List ℕ) → IfOk (with_option conf name value) (λ (next : Options). next.harakiri ≡ cond (is_kind of.Harakiri (option_kind name)) (number_or 0 (Some value)) conf.harakiri)
harakiri_step conf name value =
    by_name (λ kind next. next.harakiri ≡ cond (is_kind of.Harakiri kind) (number_or 0 (Some value)) conf.harakiri) conf name value (λ kind.
    of_result (set_option conf kind value) (FieldsAfter kind value conf) (λ next. next.harakiri ≡ cond (is_kind of.Harakiri (Some kind)) (number_or 0 (Some value)) conf.harakiri) (λ next h. h.of_harakiri) (set_leaves conf kind value))

expire_freq_step : (conf : Options) (name value : List ℕ) → IfOk (with_option conf name value) (λ (next : Options). next.expire_freq ≡ cond (is_kind of.ExpireFreq (option_kind name)) (number_or 3 (Some value)) conf.expire_freq)
expire_freq_step conf name value =
    by_name (λ kind next. next.expire_freq ≡ cond (is_kind of.ExpireFreq kind) (number_or 3 (Some value)) conf.expire_freq) conf name value (λ kind.
    of_result (set_option conf kind value) (FieldsAfter kind value conf) (λ next. next.expire_freq ≡ cond (is_kind of.ExpireFreq (Some kind)) (number_or 3 (Some value)) conf.expire_freq) (λ next h. h.of_expire_freq) (set_leaves conf kind value))

spoolers_step : (conf : Options) (name value : List ℕ) → IfOk (with_option conf name value) (λ (next : Options). next.spoolers ≡ cond (is_kind of.Spoolers (option_kind name)) (number_or 1 (Some value)) conf.spoolers)
spoolers_step conf name value =
    by_name (λ kind next. next.spoolers ≡ cond (is_kind of.Spoolers kind) (number_or 1 (Some value)) conf.spoolers) conf name value (λ kind.
    of_result (set_option conf kind value) (FieldsAfter kind value conf) (λ next. next.spoolers ≡ cond (is_kind of.Spoolers (Some kind)) (number_or 1 (Some value)) conf.spoolers) (λ next h. h.of_spoolers) (set_leaves conf kind value))

spool_freq_step : (conf : Options) (name value : List ℕ) → IfOk (with_option conf name value) (λ (next : Options). next.spool_freq ≡ cond (is_kind of.SpoolFreq (option_kind name)) (number_or 30 (Some value)) conf.spool_freq)
spool_freq_step conf name value =
    by_name (λ kind next. next.spool_freq ≡ cond (is_kind of.SpoolFreq kind) (number_or 30 (Some value)) conf.spool_freq) conf name value (λ kind.
    of_result (set_option conf kind value) (FieldsAfter kind value conf) (λ next. next.spool_freq ≡ cond (is_kind of.SpoolFreq (Some kind)) (number_or 30 (Some value)) conf.spool_freq) (λ next h. h.of_spool_freq) (set_leaves conf kind value))

socket_step : (conf : Options) (name value : List ℕ) → IfOk (with_option conf name value) (λ (next : Options). next.socket ≡ cond (is_kind of.Socket (option_kind name)) (value) conf.socket)
socket_step conf name value =
    by_name (λ kind next. next.socket ≡ cond (is_kind of.Socket kind) (value) conf.socket) conf name value (λ kind.
    of_result (set_option conf kind value) (FieldsAfter kind value conf) (λ next. next.socket ≡ cond (is_kind of.Socket (Some kind)) (value) conf.socket) (λ next h. h.of_socket) (set_leaves conf kind value))

module _ (text : List ℕ) (conf : Options) (says : configuration_of text ≡ Ok conf) where
  pub buffer_size_last : conf.buffer_size ≡ number_or 4096 (last_value of.BufferSize (settings_of text))
  buffer_size_last = counts_by_last (λ (c : Options). c.buffer_size) of.BufferSize (λ text. number_or 4096 (Some text)) buffer_size_step text conf says ∙ by_value (last_value of.BufferSize (settings_of text))
    where
      by_value : (o : Option (List ℕ)) → value_or (λ (c : Options). c.buffer_size) of.BufferSize (λ text. number_or 4096 (Some text)) buffer_size_step 4096 o ≡ number_or 4096 o
      by_value None = refl
      by_value (Some value) = refl

  pub workers_last : conf.workers ≡ number_or 1 (last_value of.Workers (settings_of text))
  workers_last = counts_by_last (λ (c : Options). c.workers) of.Workers (λ text. number_or 1 (Some text)) workers_step text conf says ∙ by_value (last_value of.Workers (settings_of text))
    where
      by_value : (o : Option (List ℕ)) → value_or (λ (c : Options). c.workers) of.Workers (λ text. number_or 1 (Some text)) workers_step 1 o ≡ number_or 1 o
      by_value None = refl
      by_value (Some value) = refl

  pub harakiri_last : conf.harakiri ≡ number_or 0 (last_value of.Harakiri (settings_of text))
  harakiri_last = counts_by_last (λ (c : Options). c.harakiri) of.Harakiri (λ text. number_or 0 (Some text)) harakiri_step text conf says ∙ by_value (last_value of.Harakiri (settings_of text))
    where
      by_value : (o : Option (List ℕ)) → value_or (λ (c : Options). c.harakiri) of.Harakiri (λ text. number_or 0 (Some text)) harakiri_step 0 o ≡ number_or 0 o
      by_value None = refl
      by_value (Some value) = refl

  pub expire_freq_last : conf.expire_freq ≡ number_or 3 (last_value of.ExpireFreq (settings_of text))
  expire_freq_last = counts_by_last (λ (c : Options). c.expire_freq) of.ExpireFreq (λ text. number_or 3 (Some text)) expire_freq_step text conf says ∙ by_value (last_value of.ExpireFreq (settings_of text))
    where
      by_value : (o : Option (List ℕ)) → value_or (λ (c : Options). c.expire_freq) of.ExpireFreq (λ text. number_or 3 (Some text)) expire_freq_step 3 o ≡ number_or 3 o
      by_value None = refl
      by_value (Some value) = refl

  pub spoolers_last : conf.spoolers ≡ number_or 1 (last_value of.Spoolers (settings_of text))
  spoolers_last = counts_by_last (λ (c : Options). c.spoolers) of.Spoolers (λ text. number_or 1 (Some text)) spoolers_step text conf says ∙ by_value (last_value of.Spoolers (settings_of text))
    where
      by_value : (o : Option (List ℕ)) → value_or (λ (c : Options). c.spoolers) of.Spoolers (λ text. number_or 1 (Some text)) spoolers_step 1 o ≡ number_or 1 o
      by_value None = refl
      by_value (Some value) = refl

  pub spool_freq_last : conf.spool_freq ≡ number_or 30 (last_value of.SpoolFreq (settings_of text))
  spool_freq_last = counts_by_last (λ (c : Options). c.spool_freq) of.SpoolFreq (λ text. number_or 30 (Some text)) spool_freq_step text conf says ∙ by_value (last_value of.SpoolFreq (settings_of text))
    where
      by_value : (o : Option (List ℕ)) → value_or (λ (c : Options). c.spool_freq) of.SpoolFreq (λ text. number_or 30 (Some text)) spool_freq_step 30 o ≡ number_or 30 o
      by_value None = refl
      by_value (Some value) = refl

  pub socket_last : conf.socket ≡ unwrap_or (last_value of.Socket (settings_of text)) []
  socket_last = counts_by_last (λ (c : Options). c.socket) of.Socket (λ text. text) socket_step text conf says ∙ by_value (last_value of.Socket (settings_of text))
    where
      by_value : (o : Option (List ℕ)) → value_or (λ (c : Options). c.socket) of.Socket (λ text. text) socket_step [] o ≡ unwrap_or o []
      by_value None = refl
      by_value (Some value) = refl
