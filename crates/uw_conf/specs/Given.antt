-- What the code answers against what is defined. Want of memory alone is free.
use Rattle.std.specs.Prelude.{◌≡◌, ◌⊎◌, ℕ, ◌≤◌, true, List, length, Some, slice_get, IsSomeAnd, Result, Ok, Err, IfErr}
use Rattle.std.specs.Str.Lines.{lines}
use Rattle.uw_outside.specs.Faults.{Rose}
use Rattle.uw_model.specs.Asks.{DeskParts}
use Rattle.uw_rules.specs.declared.kinds.RuleKind.TheVariants as refusals
use Rattle.uw_rules.specs.declared.compiled.RuleTable.{RuleTable}
use Rattle.uw_rules.specs.declared.grammar.Table.{Table}
use Rattle.uw_rules.specs.declared.grammar.Table.TheVariants as tables
use Rattle.uw_rules.specs.declared.lines.RuleLine.{RuleLine}
use Rattle.uw_rules.specs.Compiled.{rules_of}
use Rattle.uw_rules.specs.Rules.{place_of_label, table_of, rule_refusal_at}
use Rattle.uw_rules.specs.Tables.{AreRulesOf}
use Rattle.uw_conf.specs.declared.conf.Conf.{Conf}
use Rattle.uw_conf.specs.declared.conf.ConfFault.{ConfFault}
use Rattle.uw_conf.specs.declared.conf.ConfError.{ConfError}
use Rattle.uw_conf.specs.declared.conf.ConfError.TheVariants as errors
use Rattle.uw_conf.specs.declared.conf.ConfKind.TheVariants as kinds
use Rattle.uw_conf.specs.declared.conf.Options.{Options}
use Rattle.uw_conf.specs.Configuration.{configuration_of, most_text_bytes, said_by}
use Rattle.uw_conf.specs.Routes.{cache_names_of, rule_lines_of, site_names_of}

-- a configuration without its rules
abbrev pub options_in : Conf → Options
options_in conf = record {
  buffer_size = conf.buffer_size;
  workers = conf.workers;
  harakiri = conf.harakiri;
  expire_freq = conf.expire_freq;
  spoolers = conf.spoolers;
  spool_freq = conf.spool_freq;
  socket = conf.socket;
  caches = conf.caches;
  areas = conf.areas;
}

-- the compiled rules are those of a table of the lines of a text
abbrev pub HasTableOf : Table → List (List ℕ) → RuleTable → Type 0
HasTableOf table lines rules = AreRulesOf (cache_names_of lines) (place_of_label (rule_lines_of table lines)) (rules_of rules) (table_of (rule_lines_of table lines))

-- the compiled rules of requests and of tasks are those of the lines of a text
abbrev pub HasRulesOf : List (List ℕ) → Conf → Type 0
HasRulesOf lines conf = HasTableOf tables.Requests lines conf.routes × HasTableOf tables.Tasks lines conf.tasks

-- how many caches and how many areas a configuration has
abbrev pub parts_in : Conf → DeskParts
parts_in conf = record { caches = length conf.caches; areas = length conf.areas }

-- the line is a rule's, which is refused where its pattern is, and no line before it is refused
pub record IsPatternRefused (lines : List (List ℕ)) (fault : ConfFault) : Type 0 where
  pub table : Table
  pub here : ℕ
  pub line : IsSomeAnd (slice_get (rule_lines_of table lines) here) (λ (rule : RuleLine). rule.line ≡ fault.line)
  pub refused : rule_refusal_at (site_names_of lines) (rule_lines_of table lines) here true ≡ Some refusals.PatternRefused
  pub kind : fault.kind ≡ kinds.Rule refusals.PatternRefused
  pub least : IfErr (said_by lines) (λ (other : ConfFault). fault.line ≤ other.line)

-- a reading of a text is the defined configuration with its rules, and the maker of patterns refused none; or the least refused line; or a rule's line with a pattern
-- before which none is refused, where the maker refused a pattern in this reading and counted that; or there was no memory
abbrev pub ReadsConf : List ℕ → ℕ → ℕ → Result Conf ConfError → Type 0
ReadsConf text before after (Ok conf) = (configuration_of text ≡ Ok (options_in conf)) × HasRulesOf (lines text) conf × (after ≡ before)
ReadsConf text before after (Err (errors.Refused fault)) =
    ((configuration_of text ≡ Err fault) × (before ≤ after)) ⊎ ((length text ≤ most_text_bytes) × IsPatternRefused (lines text) fault × Rose before after)
ReadsConf text before after (Err errors.Memory) = before ≤ after
