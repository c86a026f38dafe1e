-- The last step of a reading: the least of what the walk and the two tables of rules refuse.
use Rattle.std.specs.Prelude.{◌≡◌, ◌⊎◌, ℕ, ◌≤◌, List, Option, None, Some, Result, Ok, Err}
use Rattle.uw_outside.specs.Faults.{Rose}
use Rattle.uw_rules.specs.declared.compiled.RuleTable.{RuleTable}
use Rattle.uw_rules.specs.declared.kinds.RuleKind.{RuleKind}
use Rattle.uw_rules.specs.declared.lines.RuleLine.{RuleLine}
use Rattle.uw_rules.specs.Arguments.{SiteNames}
use Rattle.uw_rules.specs.Tables.{IsFirstRefused, ReadsRules}
use Rattle.uw_base.specs.declared.bytes.Memory.{Memory}
use Rattle.uw_conf.specs.declared.conf.Conf.{Conf}
use Rattle.uw_conf.specs.declared.conf.ConfError.{ConfError}
use Rattle.uw_conf.specs.declared.conf.ConfError.TheVariants as errors
use Rattle.uw_conf.specs.declared.conf.ConfFault.{ConfFault}
use Rattle.uw_conf.specs.declared.conf.ConfKind.TheVariants as kinds
use Rattle.uw_conf.specs.declared.reading.Walk.{Walk}
use Rattle.uw_conf.specs.Configuration.{lesser_fault, said_by}
use Rattle.uw_conf.specs.Given.{HasRulesOf, IsPatternRefused, options_in}

-- a reading of lines is what they say, with their rules, and no pattern was refused; or the least refused line; or a rule's line with a pattern before which none is refused, where one was refused and counted
abbrev pub ReadsLines : List (List ℕ) → ℕ → ℕ → Result Conf ConfError → Type 0
ReadsLines lines before after (Ok conf) = (said_by lines ≡ Ok (options_in conf)) × HasRulesOf lines conf × (after ≡ before)
ReadsLines lines before after (Err (errors.Refused fault)) = ((said_by lines ≡ Err fault) × (before ≤ after)) ⊎ (IsPatternRefused lines fault × Rose before after)
ReadsLines lines before after (Err errors.Memory) = before ≤ after

-- a table was read, and no pattern was refused; or its first refused line was found; or there was no memory
abbrev pub ReadsTable : SiteNames → List RuleLine → ℕ → ℕ → Result (Result RuleTable ConfFault) Memory → Type 0
ReadsTable names rules before after (Ok (Ok table)) = ReadsRules names rules before after (Ok table) × (after ≡ before)
ReadsTable names rules before after (Ok (Err fault)) = (kind : RuleKind) × (fault.kind ≡ kinds.Rule kind) × IsFirstRefused names rules before after fault.line kind
ReadsTable names rules before after (Err memory) = Unit {0}

-- the fault of a table, if there is one
abbrev pub fault_in : Result RuleTable ConfFault → Option ConfFault
fault_in (Ok table) = None
fault_in (Err fault) = Some fault

-- the least fault of a walk and of both tables
abbrev pub least_found : Walk → Result RuleTable ConfFault → Result RuleTable ConfFault → Option ConfFault
least_found walk routes tasks = lesser_fault walk.fault (lesser_fault (fault_in routes) (fault_in tasks))

-- what a walk and both tables give: the configuration of its options and rules, where there is no fault, or else the least fault
abbrev pub Decides : Walk → Result RuleTable ConfFault → Result RuleTable ConfFault → Result Conf ConfFault → Type 0
Decides walk routes tasks (Ok conf) =
    (least_found walk routes tasks ≡ None) × (options_in conf ≡ walk.progress.options) × (routes ≡ Ok conf.routes) × (tasks ≡ Ok conf.tasks)
Decides walk routes tasks (Err fault) = least_found walk routes tasks ≡ Some fault

-- a configuration or the fault of a line, as a reading answers
abbrev pub of_fault : Result Conf ConfFault → Result Conf ConfError
of_fault (Ok conf) = Ok conf
of_fault (Err fault) = Err (errors.Refused fault)
