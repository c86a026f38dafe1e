use Rattle.std.proofs.Common.{◌≡◌, inl, sym, ◌∙◌, subst, Option, None, List, ℕ, Err}
use Rattle.uw_rules.specs.CheckSteps.{names_seen}
use Rattle.uw_rules.specs.Rules.{early_refusal, pattern_of_rule}
use Rattle.uw_rules.specs.WrittenSteps.{written_seen}
use Rattle.uw_rules.specs.LabelSteps.{label_place}
use Rattle.uw_rules.specs.CompileSteps.{IsPatternIn}
use Rattle.uw_rules.specs.TableSteps.{GivesPatternIfAny}
use Rattle.uw_rules.proofs.RefusalLemmas.{can_compile, early, late, no_pattern_refusal, refused_for_pattern}
use Rattle.uw_rules.proofs.reading.read_rule.Goals as goal

pub returns-in-Some-clause-gives : goal.returns-in-Some-clause-gives
returns-in-Some-clause-gives g c =
    let site = c.args.site.now in
    inl (early (names_seen site.names) (label_place site.labels) c.args.here _ (written_seen c.args.rule) c.in-Some.kind (sym c.in_ok-kind.ensures ∙ c.in-Some.is))

pub returns-in-Err-clause-gives : goal.returns-in-Err-clause-gives
returns-in-Err-clause-gives g c =
    let site = c.args.site.now in
    let none : early_refusal c.args.here (written_seen c.args.rule) ≡ None = sym c.in_ok-kind.ensures ∙ c.in_default.is in
    let before = g.M.Patterns.faults c.args.make.now in
    let after = g.M.Patterns.faults c.built_if_any.new.make in
    refused_for_pattern (written_seen c.args.rule) (names_seen site.names) (label_place site.labels) c.args.here before after none c.in-Err.refusal
    (subst (λ (text : Option (List ℕ)). GivesPatternIfAny before after text (Err c.in-Err.refusal)) c.pattern_of.ensures c.in-Err.ensures.gives)

pub returns-in-Some-late_refusal-clause-gives : goal.returns-in-Some-late_refusal-clause-gives
returns-in-Some-late_refusal-clause-gives g c =
    let site = c.args.site.now in
    let rule = written_seen c.args.rule in
    let none : early_refusal c.args.here rule ≡ None = sym c.in_ok-kind.ensures ∙ c.in_default.is in
    let pattern : IsPatternIn (pattern_of_rule rule) c.in-Ok.pattern =
    subst (λ (text : Option (List ℕ)). IsPatternIn text c.in-Ok.pattern) c.pattern_of.ensures c.in-Ok.ensures.gives in
    inl
    (late (names_seen site.names) (label_place site.labels) c.args.here _ rule none (no_pattern_refusal rule c.in-Ok.pattern pattern)
    ∙ sym c.late_refusal.ensures ∙ c.in-Some-late_refusal.is)

pub rule_meant-requires-clause-taken : goal.rule_meant-requires-clause-taken
rule_meant-requires-clause-taken g c =
    let site = c.args.site.now in
    can_compile (names_seen site.names) (label_place site.labels) c.args.here (written_seen c.args.rule) (sym c.in_ok-kind.ensures ∙ c.in_default.is)
    (sym c.late_refusal.ensures ∙ c.in_default-late_refusal.is)

pub returns-in-Ok-rule_meant-clause-gives : goal.returns-in-Ok-rule_meant-clause-gives
returns-in-Ok-rule_meant-clause-gives g c =
    let site = c.args.site.now in
    let rule = written_seen c.args.rule in
    let none : early_refusal c.args.here rule ≡ None = sym c.in_ok-kind.ensures ∙ c.in_default.is in
    let pattern : IsPatternIn (pattern_of_rule rule) c.in-Ok.pattern =
    subst (λ (text : Option (List ℕ)). IsPatternIn text c.in-Ok.pattern) c.pattern_of.ensures c.in-Ok.ensures.gives in (
      late (names_seen site.names) (label_place site.labels) c.args.here _ rule none (no_pattern_refusal rule c.in-Ok.pattern pattern)
          ∙ sym c.late_refusal.ensures ∙ c.in_default-late_refusal.is,
      c.in-Ok-rule_meant.ensures,
    )
