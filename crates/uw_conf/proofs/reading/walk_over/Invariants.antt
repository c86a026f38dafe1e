use Rattle.std.proofs.Common.{◌≡◌, ◌+◌, ◌≤◌, ◌++◌, length, Ok}
use Rattle.std.specs.Option.{option_or}
use Rattle.std.specs.Str.Lines.{lines}
use Rattle.uw_conf.specs.Configuration.{fault_of_reading, first_refused_option}
use Rattle.uw_conf.specs.Reading.{blank_reading, read_lines, reading_after}
use Rattle.uw_conf.specs.ReadingSteps.{progress_seen}
use Rattle.uw_conf.specs.Routes.{rule_lines_of, rules_behind}
use Rattle.uw_conf.specs.Sound.{ArePartsOfSite}
use Rattle.std.specs.List.{AllByRecursion}
use Rattle.uw_rules.specs.declared.grammar.Table.TheVariants as tables
use Rattle.uw_rules.specs.Tables.{IsRuleLine}
use Rattle.uw_conf.proofs.reading.walk_over.Given as goal

-- the lines that are left, behind those so far, are the text's
abbrev pub invariant-lines : goal.invariant-lines
invariant-lines l =
    record {
      reading : reading_after (progress_seen l.walk.progress) (lines l.left) ≡ reading_after blank_reading (lines l.text);
      routes : l.walk.progress.routes ++ rules_behind tables.Requests (progress_seen l.walk.progress) l.number (lines l.left) ≡ rule_lines_of tables.Requests (lines l.text);
      tasks : l.walk.progress.tasks ++ rules_behind tables.Tasks (progress_seen l.walk.progress) l.number (lines l.left) ≡ rule_lines_of tables.Tasks (lines l.text);
      fault : option_or l.walk.fault (fault_of_reading (read_lines (Ok (progress_seen l.walk.progress)) l.number (lines l.left))) ≡ first_refused_option (lines l.text);
      within : l.number + length l.left ≤ 1048577;
      parts : ArePartsOfSite l.walk.progress.options.caches l.walk.progress.options.areas;
      route_lines : AllByRecursion IsRuleLine l.walk.progress.routes;
      task_lines : AllByRecursion IsRuleLine l.walk.progress.tasks;
      short : length l.left ≤ 1048576;
    }

abbrev pub decreases-lines : goal.decreases-lines
decreases-lines l = length l.left
