use Rattle.std.proofs.Common.{◌≡◌, ℕ, ◌<◌, ◌^◌, List, [], ◌++◌, length, ap, sym, subst, ◌∙◌, arith}
use Rattle.std.proofs.lemmas.List.{append-nil}
use Rattle.std.specs.List.{AllByRecursion}
use Rattle.std.specs.Str.Lines.{lines}
use Rattle.uw_rules.specs.declared.grammar.Table.TheVariants as tables
use Rattle.uw_rules.specs.Tables.{IsRuleLine}
use Rattle.uw_conf.specs.Routes.{rule_in, rule_lines_of, rules_behind}
use Rattle.uw_conf.proofs.RuleTextLemmas.{in_table_append, rule_in_table, rule_lines}
use Rattle.uw_conf.proofs.RouteLemmas.{RisesFrom, rules_rise}
use Rattle.uw_conf.specs.Reading.{ReadSoFar, blank_reading}
use Rattle.uw_conf.specs.ReadingSteps.{progress_seen}
use Rattle.uw_conf.specs.Sound.{ArePartsOfSite}
use Rattle.uw_conf.proofs.OptionLemmas.{HasParts, parts_kept}
use Rattle.uw_conf.proofs.ReadingLemmas.{past_keeps}
use Rattle.uw_conf.proofs.WalkLemmas.{fault_step, reading_step, rules_step}
use Rattle.uw_conf.proofs.reading.walk_over.Goals as goal

pub lines-preserved : goal.lines-preserved
lines-preserved c =
    let before = progress_seen c.lines.walk.progress in
    let now = progress_seen c.step.new.self.progress in
    let line = c.in-Some.line.now in
    let steps = c.in_ok-step.ensures.steps in
    let inside : length line < 2 ^ 32 = let short = c.lines.invariant.short in let within = c.in-Some.ensures.within in omega arith in
    record {
      reading = reading_step before now line (lines c.in-Some.rest.now) (lines c.lines.left.now) c.in-Some.ensures.line steps.reading ∙ c.lines.invariant.reading;
      routes =
          rules_step tables.Requests before now c.lines.number line (lines c.in-Some.rest.now) (lines c.lines.left.now) c.lines.walk.progress.routes c.step.new.self.progress.routes
          c.in-Some.ensures.line steps.reading steps.routes
          ∙ c.lines.invariant.routes;
      tasks =
          rules_step tables.Tasks before now c.lines.number line (lines c.in-Some.rest.now) (lines c.lines.left.now) c.lines.walk.progress.tasks c.step.new.self.progress.tasks
          c.in-Some.ensures.line steps.reading steps.tasks
          ∙ c.lines.invariant.tasks;
      fault =
          fault_step before now c.lines.number line (lines c.in-Some.rest.now) (lines c.lines.left.now) c.lines.walk.fault c.step.new.self.fault c.in-Some.ensures.line
          steps.reading steps.fault
          ∙ c.lines.invariant.fault;
      within = omega (arith, c.in-Some.ensures.shorter);
      route_lines =
          subst (AllByRecursion IsRuleLine) (sym steps.routes)
          (in_table_append c.lines.walk.progress.routes (rule_in tables.Requests c.lines.walk.progress.inside c.lines.number line) c.lines.invariant.route_lines
          (rule_in_table tables.Requests c.lines.walk.progress.inside c.lines.number line inside));
      task_lines =
          subst (AllByRecursion IsRuleLine) (sym steps.tasks)
          (in_table_append c.lines.walk.progress.tasks (rule_in tables.Tasks c.lines.walk.progress.inside c.lines.number line) c.lines.invariant.task_lines
          (rule_in_table tables.Tasks c.lines.walk.progress.inside c.lines.number line inside));
      short = let short = c.lines.invariant.short in let shorter = c.in-Some.ensures.shorter in omega arith;
      parts = subst (λ (r : ReadSoFar). ArePartsOfSite r.conf.caches r.conf.areas) (sym steps.reading) (past_keeps HasParts parts_kept before line c.lines.invariant.parts);
    }

pub returns-clause-routes : goal.returns-clause-routes
returns-clause-routes c =
    let rules = c.lines.walk.progress.routes in
    let same : rules ++ [] ≡ rule_lines_of tables.Requests (lines c.args.text.now) =
    sym (ap (λ (left : List (List ℕ)). rules ++ rules_behind tables.Requests (progress_seen c.lines.walk.progress) c.lines.number left) c.in_default.ensures.line)
    ∙ c.lines.invariant.routes
    in
    rule_lines 1 rules c.lines.invariant.route_lines
    (subst (RisesFrom 1) (sym same ∙ append-nil rules) (rules_rise tables.Requests blank_reading 1 (lines c.args.text.now)))

pub returns-clause-tasks : goal.returns-clause-tasks
returns-clause-tasks c =
    let rules = c.lines.walk.progress.tasks in
    let same : rules ++ [] ≡ rule_lines_of tables.Tasks (lines c.args.text.now) =
    sym (ap (λ (left : List (List ℕ)). rules ++ rules_behind tables.Tasks (progress_seen c.lines.walk.progress) c.lines.number left) c.in_default.ensures.line)
    ∙ c.lines.invariant.tasks
    in
    rule_lines 1 rules c.lines.invariant.task_lines
    (subst (RisesFrom 1) (sym same ∙ append-nil rules) (rules_rise tables.Tasks blank_reading 1 (lines c.args.text.now)))
