-- The steps of a reading: what the code's values stand for, and what each step gives.
use Rattle.std.specs.Prelude.{◌≡◌, ℕ, ◌%◌, ◌≤◌, ◌++◌, List, Option, None, Some, IfSome, Result, Ok, Err}
use Rattle.std.specs.Borrow.{Bor}
use Rattle.uw_conf.specs.declared.conf.ConfKind.{ConfKind}
use Rattle.uw_conf.specs.declared.lines.LineKind.{LineKind}
use Rattle.uw_conf.specs.declared.lines.LineKind.TheVariants as code
use Rattle.uw_conf.specs.declared.draft.CacheDraft.{CacheDraft}
use Rattle.uw_conf.specs.declared.reading.Progress.{Progress}
use Rattle.uw_conf.specs.declared.refusal.Refusal.{Refusal}
use Rattle.uw_conf.specs.declared.refusal.Refusal.TheVariants as refusals
use Rattle.uw_conf.specs.Lines.{Line, nothing, section, option, broken}
use Rattle.uw_conf.specs.Caches.{Draft}
use Rattle.uw_rules.specs.declared.grammar.Table.TheVariants as tables
use Rattle.uw_rules.specs.declared.lines.RuleLine.{RuleLine}
use Rattle.uw_conf.specs.declared.conf.ConfFault.{ConfFault}
use Rattle.uw_conf.specs.declared.reading.Walk.{Walk}
use Rattle.std.specs.Option.{option_or}
use Rattle.uw_conf.specs.Configuration.{first_refused_option}
use Rattle.uw_conf.specs.Reading.{ReadSoFar, blank_reading, read_line, reading_after, refused_at, unless_refused}
use Rattle.uw_conf.specs.Routes.{rule_in, rule_lines_of}

-- a line
abbrev pub line_seen : LineKind → Line
line_seen code.Nothing = nothing
line_seen (code.Section name) = section name.now
line_seen (code.Setting name value) = option name.now value.now
line_seen code.Broken = broken

-- a name
abbrev pub name_seen : Option (Bor (List ℕ)) → Option (List ℕ)
name_seen None = None
name_seen (Some name) = Some name.now

-- a draft
abbrev pub draft_seen : CacheDraft → Draft
draft_seen draft = record {
  name = name_seen draft.name;
  items = draft.items;
  blocksize = draft.blocksize;
  blocks = draft.blocks;
  keysize = draft.keysize;
  chains = draft.chains;
  bitmap = draft.bitmap;
  purge_lru = draft.purge_lru;
  sweep_on_full = draft.sweep_on_full;
  clear_on_full = draft.clear_on_full;
  unknown = draft.unknown;
  bad = draft.bad;
}

-- the numbers of a draft
pub record IsDraft (draft : Draft) : Type 0 where
  pub items : IfSome draft.items (λ n. (1 ≤ n) × (n ≤ 1048576))
  pub blocksize : (8 ≤ draft.blocksize) × (draft.blocksize ≤ 1048576)
  pub words : draft.blocksize % 8 ≡ 0
  pub blocks : IfSome draft.blocks (λ n. (1 ≤ n) × (n ≤ 16777216))
  pub keysize : (1 ≤ draft.keysize) × (draft.keysize ≤ 65535)
  pub chains : IfSome draft.chains (λ n. (1 ≤ n) × (n ≤ 1048576))

-- a step within a line gives the defined value, or the defined kind of refusal
abbrev pub GivesValue : {T : Type 0} → Result T Refusal → Result T ConfKind → Type 0
GivesValue (Ok value) defined = defined ≡ Ok value
GivesValue (Err (refusals.Refused kind)) defined = defined ≡ Err kind
GivesValue (Err refusals.Memory) defined = Unit {0}

-- a step within a line makes the defined value of one before it; or it changes nothing, and gives the defined kind of refusal
abbrev pub Makes : {T U : Type 0} → T → T → Result U Refusal → Result T ConfKind → Type 0
Makes before now (Ok done) defined = defined ≡ Ok now
Makes before now (Err (refusals.Refused kind)) defined = (defined ≡ Err kind) × (now ≡ before)
Makes before now (Err refusals.Memory) defined = Unit {0}

-- a reading
abbrev pub progress_seen : Progress → ReadSoFar
progress_seen progress = record {
  inside = progress.inside;
  conf = progress.options;
}

-- unless memory is wanted, a step puts these rules behind those before it
abbrev pub PutsRules : {U : Type 0} → List RuleLine → List RuleLine → Result U Refusal → List RuleLine → Type 0
PutsRules before now (Ok done) rules = now ≡ before ++ rules
PutsRules before now (Err (refusals.Refused kind)) rules = now ≡ before ++ rules
PutsRules before now (Err refusals.Memory) rules = Unit {0}

-- the fault of a line with a number, if it is refused
abbrev pub fault_of_line : ℕ → Result ReadSoFar ConfKind → Option ConfFault
fault_of_line number (Ok r) = None
fault_of_line number (Err kind) = Some (refused_at number kind)

-- a walk behind one more line: past it where it is refused, with its rule in its table, and with its fault where it is the first
pub record StepsOver (number : ℕ) (line : List ℕ) (before now : Walk) : Type 0 where
  pub reading : progress_seen now.progress ≡ unless_refused (progress_seen before.progress) (read_line (progress_seen before.progress) line)
  pub routes : now.progress.routes ≡ before.progress.routes ++ rule_in tables.Requests before.progress.inside number line
  pub tasks : now.progress.tasks ≡ before.progress.tasks ++ rule_in tables.Tasks before.progress.inside number line
  pub fault : now.fault ≡ option_or before.fault (fault_of_line number (read_line (progress_seen before.progress) line))

-- a walk over all lines
pub record WalksOver (lines : List (List ℕ)) (walk : Walk) : Type 0 where
  pub reading : progress_seen walk.progress ≡ reading_after blank_reading lines
  pub routes : walk.progress.routes ≡ rule_lines_of tables.Requests lines
  pub tasks : walk.progress.tasks ≡ rule_lines_of tables.Tasks lines
  pub fault : walk.fault ≡ first_refused_option lines
