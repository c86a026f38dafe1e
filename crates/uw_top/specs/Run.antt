-- A command over its configuration.
use Rattle.std.specs.Prelude.{◌≡◌, ℕ, ◌+◌, ◌<◌, ◌≤◌, ◌⊎◌, List, [], length, Option, None, Some, Result, Ok, Err}
use Rattle.uw_outside.specs.Faults.{Rose}
use Rattle.uw_outside.specs.Streams.{Takes}
use Rattle.uw_outside.specs.Streams.{Inflow, Outflow}
use Rattle.uw_keeper.specs.Keeping.{Keeping}
use Rattle.uw_model.specs.Lists.{Lists}
use Rattle.uw_packet.specs.Reads.{IsOver}
use Rattle.uw_conf.specs.declared.conf.Conf.{Conf}
use Rattle.uw_conf.specs.declared.conf.ConfFault.{ConfFault}
use Rattle.uw_conf.specs.declared.conf.ConfKind.TheVariants as kinds
use Rattle.uw_conf.specs.declared.conf.ConfError.TheVariants as errors
use Rattle.uw_conf.specs.Configuration.{most_text_bytes}
use Rattle.uw_conf.specs.Reading.{refused_at}
use Rattle.std.specs.Str.Lines.{lines}
use Rattle.uw_rules.specs.declared.grammar.Table.{Table}
use Rattle.uw_rules.specs.declared.grammar.Table.TheVariants as tables
use Rattle.uw_rules.specs.Rules.{place_of_label, table_of}
use Rattle.uw_chain.specs.Routing.{Naming}
use Rattle.uw_conf.specs.declared.conf.Options.{Options}
use Rattle.uw_conf.specs.Routes.{cache_names_of, rule_lines_of}
use Rattle.uw_conf.specs.Given.{ReadsConf, options_in}
use Rattle.uw_session.specs.Exchange.{Site}
use Rattle.uw_ends.specs.declared.words.Command.{Command}
use Rattle.uw_ends.specs.declared.words.Command.TheVariants as commands
use Rattle.uw_ends.specs.declared.ends.RunFault.{RunFault}
use Rattle.uw_ends.specs.declared.ends.RunFault.TheVariants as faults
use Rattle.uw_ends.specs.declared.ends.RunEnd.{RunEnd}
use Rattle.uw_top.specs.Load.{LoadRun}
use Rattle.uw_shared.specs.Regions.{Regions}
use Rattle.uw_top.specs.Kept.{PipeFlow, PipesOver}
use Rattle.uw_top.specs.Pipe.{first_lists, list_leads}
use Rattle.uw_top.specs.Spool.{SpoolRun}

-- what a text says, or why it is refused, where the maker of patterns had these counts of faults before and after
abbrev pub IsSaid : (before after : ℕ) → List ℕ → Result Conf ConfFault → Type 0
IsSaid before after text (Ok conf) = ReadsConf text before after (Ok conf)
IsSaid before after text (Err fault) = ReadsConf text before after (Err (errors.Refused fault))

-- the same for a command that needs a cache: a configuration without one is refused as a whole
abbrev pub IsSaidWithACache : (before after : ℕ) → List ℕ → Result Conf ConfFault → Type 0
IsSaidWithACache before after text (Ok conf) = IsSaid before after text (Ok conf) × (0 < length conf.caches)
IsSaidWithACache before after text (Err fault) =
    IsSaid before after text (Err fault) ⊎ ((conf : Conf) × IsSaid before after text (Ok conf) × (length conf.caches ≡ 0) × (fault ≡ refused_at 0 kinds.Missing))

-- these bytes are all that was read of a configuration's text: up to its end, or up to the first byte that is too many; and no read failed
pub record ReadsText (r : Inflow) (text : List ℕ) : Type 0 where
  pub taken : Takes r.before r.now text
  pub few : length text ≤ most_text_bytes + 1
  pub kept : r.faults_now ≡ r.faults_before
  pub whole : length text ≤ most_text_bytes → IsOver r

-- why a command did not begin: its configuration is refused, or could not be read, or there was no memory; the maker of patterns had these counts of faults before and after
abbrev pub IsNotBegun : (before after : ℕ) → (ℕ → ℕ → List ℕ → Result Conf ConfFault → Type 0) → Inflow → Option RunFault → Type 0
IsNotBegun before after said r (Some (faults.Conf fault)) = (text : List ℕ) × ReadsText r text × said before after text (Err fault)
IsNotBegun before after said r (Some faults.ReadFault) =
    Rose r.faults_before r.faults_now × ((text : List ℕ) × Takes r.before r.now text × (length text ≤ most_text_bytes)) × (after ≡ before)
IsNotBegun before after said r (Some faults.Memory) = ((text : List ℕ) × Takes r.before r.now text × (length text ≤ most_text_bytes + 1)) × (before ≤ after) × (r.faults_now ≡ r.faults_before)
IsNotBegun before after said r _ = ⊥

-- how the rules of a table of lines are meant: with the names of the caches, and the places of the table's labels
abbrev pub naming_in : Table → List (List ℕ) → Naming
naming_in table lines = record { names = cache_names_of lines; labels = place_of_label (rule_lines_of table lines) }

-- the site of a text that says these options: its rules of requests and of tasks as they are written
abbrev pub site_of : List ℕ → Options → Site
site_of text options = record {
  options = options;
  naming = naming_in tables.Requests (lines text);
  rules = table_of (rule_lines_of tables.Requests (lines text));
  task_naming = naming_in tables.Tasks (lines text);
  task_rules = table_of (rule_lines_of tables.Tasks (lines text));
}

-- a command over the configuration that a text says, of whose run this holds; or it did not begin, and left all else as it was; the maker of patterns had these
-- counts of faults before and after
abbrev pub Runs : (before after : ℕ) → (ℕ → ℕ → List ℕ → Result Conf ConfFault → Type 0) → Inflow → Type 0 → Option RunFault → (Site → Type 0) → Type 0
Runs before after said r untouched fault Ran =
    ((text : List ℕ) × (conf : Conf) × ReadsText r text × said before after text (Ok conf) × Ran (site_of text (options_in conf)))
    ⊎ (IsNotBegun before after said r fault × untouched)

-- ---- the commands

-- what a run has around it, over the call: its configuration, and how many patterns the maker had refused before and now; its source and its sink; which moments
-- its clock gave; what its keeper keeps before and now; and the desk that is kept before and now
pub record Surroundings : Type 1 where
  pub conf : Inflow
  pub refused : ℕ
  pub refused_now : ℕ
  pub src : Inflow
  pub snk : Outflow
  pub gave : List ℕ → Type 0
  pub kept : Keeping
  pub left : Keeping
  pub desk : Option Regions
  pub desk_now : Option Regions

-- that each object of a run is as it was
pub record Sameness : Type 1 where
  pub conf : Type 0
  pub make : Type 0
  pub src : Type 0
  pub snk : Type 0
  pub clock : Type 0
  pub keep : Type 0
  pub desk : Type 0

-- all but the configuration and the maker of patterns is as it was, and no packet is told of
abbrev pub IsUntouched : Sameness → RunEnd → Type 0
IsUntouched same end = same.src × same.snk × same.clock × same.keep × same.desk × (end.briefs ≡ [])

-- other words, or words for which there was no memory: nothing was read, and all is as it was
abbrev pub RefusesCommand : Sameness → RunEnd → Type 0
RefusesCommand same end = ((end.fault ≡ Some faults.Usage) ⊎ (end.fault ≡ Some faults.Memory)) × same.conf × same.make × IsUntouched same end

-- what `pipe` has around it
abbrev pub pipe_flow : Surroundings → PipeFlow
pipe_flow s = record { src = s.src; snk = s.snk; gave = s.gave; kept = s.kept; left = s.left; desk = s.desk; desk_now = s.desk_now }

-- the command `pipe`: packets are answered by a worker that dies in place of the word writes of these numbers
abbrev pub Pipes : List ℕ → Surroundings → Sameness → RunEnd → Type 0
Pipes die s same end =
    Runs s.refused s.refused_now IsSaid s.conf (IsUntouched same end) end.fault (λ site. PipesOver die site (pipe_flow s) (IsUntouched same end) end.briefs end.fault)

-- the command `spool`: the rounds of all spoolers over the rows of the keeper
abbrev pub Spools : Surroundings → Sameness → RunEnd → Type 0
Spools s same end =
    Runs s.refused s.refused_now IsSaid s.conf (IsUntouched same end) end.fault
    (λ site. same.src × same.desk × (end.briefs ≡ []) × ((lists : Lists) × SpoolRun list_leads (first_lists site.options) lists s.kept s.left site s.snk s.gave end.fault))

-- the command `load`: packets that it makes itself, and figures of their replies
abbrev pub Loads : ℕ → ℕ → Surroundings → Sameness → RunEnd → Type 0
Loads first count s same end =
    Runs s.refused s.refused_now IsSaidWithACache s.conf (IsUntouched same end) end.fault
    (λ site. same.src × same.keep × same.desk × (end.briefs ≡ []) × LoadRun site.options first count s.snk s.gave end.fault)

-- what a run did, by its command; `steps` and `serve` are not built here, and are refused as other words are
abbrev pub Does : Option Command → Surroundings → Sameness → RunEnd → Type 0
Does (Some (commands.Pipe die)) s same end = Pipes die s same end
Does (Some commands.Spool) s same end = Spools s same end
Does (Some (commands.Load first count)) s same end = Loads first count s same end
Does (Some commands.Steps) s same end = RefusesCommand same end
Does (Some commands.Serve) s same end = RefusesCommand same end
Does None s same end = RefusesCommand same end
