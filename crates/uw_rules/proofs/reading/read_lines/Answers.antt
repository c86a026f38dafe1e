use Rattle.std.proofs.Common.{refl, sym, subst, ◌∙◌, IfSome, arith}
use Rattle.std.specs.Str.{IsUtf8}
use Rattle.uw_rules.specs.WrittenRules.{WrittenRule}
use Rattle.uw_rules.specs.CheckSteps.{names_seen}
use Rattle.uw_rules.specs.Rules.{pattern_of_rule}
use Rattle.uw_rules.specs.Tables.{IsRuleLine}
use Rattle.uw_rules.specs.WrittenSteps.{AreShort}
use Rattle.uw_rules.specs.LabelSteps.{label_place}
use Rattle.uw_rules.proofs.LineLemmas.{written_short, written_utf8}
use Rattle.uw_rules.proofs.TableLemmas.{refused, taken}
use Rattle.uw_rules.proofs.reading.read_lines.Goals as goal

pub read_rule-requires-clause-short : goal.read_rule-requires-clause-short
read_rule-requires-clause-short g c =
    let line = c.index-lines-here.result in
    let each : IsRuleLine line = subst IsRuleLine (sym c.index-lines-here.is) (c.requires.lines.each c.loop-here.here line (omega arith)) in
    subst AreShort (sym c.written.ensures) (written_short line each.short)

pub read_rule-requires-clause-text : goal.read_rule-requires-clause-text
read_rule-requires-clause-text g c =
    let line = c.index-lines-here.result in
    let each : IsRuleLine line = subst IsRuleLine (sym c.index-lines-here.is) (c.requires.lines.each c.loop-here.here line (omega arith)) in
    subst (λ (said : WrittenRule). IfSome (pattern_of_rule said) IsUtf8) (sym c.written.ensures) (written_utf8 line each.text)

pub returns-in-Err-clause-reads : goal.returns-in-Err-clause-reads
returns-in-Err-clause-reads g c =
    let site = c.args.site.now in
    let before = g.M.Patterns.faults c.loop-here.make in
    let after = g.M.Patterns.faults c.read_rule.new.make in
    rw c.refused_line.ensures
    (refused (names_seen site.names) (label_place site.labels) c.args.lines.now c.loop-here.here (g.M.Patterns.faults c.args.make.now) before after c.index-lines-here.result _
    c.in-Err.refusal c.requires.labels (omega arith) c.index-lines-here.is c.written.ensures (omega (arith, c.loop-here.invariant.kept)) c.in-Err.ensures.gives
    c.loop-here.invariant.so_far.earlier)

pub loop-here-preserved : goal.loop-here-preserved
loop-here-preserved g c =
    let site = c.args.site.now in
    let before = g.M.Patterns.faults c.loop-here.make in
    let after = g.M.Patterns.faults c.read_rule.new.make in
    record {
      so_far =
          taken (names_seen site.names) (label_place site.labels) c.args.lines.now c.loop-here.here before after c.index-lines-here.result _ _ _ c.in-Ok.rule
          c.requires.labels (omega arith) c.index-lines-here.is c.written.ensures c.in-Ok.ensures.gives c.loop-here.invariant.so_far c.in_ok-push-in-Ok.ensures.ok;
      kept = c.in-Ok.ensures.cause.kept refl ∙ c.loop-here.invariant.kept;
    }
