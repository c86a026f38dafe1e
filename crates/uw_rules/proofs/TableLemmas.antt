-- A table, rule by rule.
use Rattle.std.proofs.Common.{◌≡◌, inl, inr, refl, below_more, ℕ, ◌+◌, ◌<◌, ◌≤◌, Bool, true, false, List, [], ◌∷◌, ◌++◌, length, get_or, take, ap, ◌∙◌, subst, arith, Option, Some, None, option_and_then, Result, Ok, Err}
use mathlib.Core.Path.{fun_ext}
use Rattle.std.specs.Option.{option_map}
use Rattle.std.specs.List.{slice_get}
use Rattle.std.proofs.lemmas.List.{take_all}
use Rattle.std.proofs.lemmas.Option.{slice_get_read}
use Rattle.uw_outside.specs.Faults.{Rose}
use Rattle.uw_rules.specs.declared.kinds.Refusal.{Refusal}
use Rattle.uw_rules.specs.declared.kinds.Refusal.TheVariants as refusals
use Rattle.uw_rules.specs.declared.lines.RuleLine.{RuleLine}
use Rattle.uw_rules.specs.declared.compiled.Rule.{Rule}
use Rattle.uw_rules.specs.WrittenRules.{WrittenRule, rule_of_line}
use Rattle.uw_rules.specs.Rules.{place_of_label, rule_refusal_at, refusal_of_rule, table_of}
use Rattle.uw_rules.specs.Arguments.{SiteNames}
use Rattle.uw_rules.specs.Compiled.{IsRuleOf}
use Rattle.uw_rules.specs.Tables.{AreRulesOf, NoneRefusedBefore, ReadsRules}
use Rattle.uw_rules.specs.TableSteps.{GivesRule, error_of}
use Rattle.uw_rules.proofs.LabelLemmas.{table_more}

-- a rule more behind both
pub rules_push : (names : List (List ℕ)) (labels : List ℕ → Option ℕ) (rules : List Rule) (writtens : List WrittenRule) (one : Rule) (last : WrittenRule)
    → AreRulesOf names labels rules writtens → IsRuleOf names labels one last → AreRulesOf names labels (rules ++ one ∷ []) (writtens ++ last ∷ [])
rules_push names labels [] [] one last h k = (k, tt)
rules_push names labels [] (w ∷ ws) one last h k = absurd h
rules_push names labels (r ∷ rs) [] one last h k = absurd h
rules_push names labels (r ∷ rs) (w ∷ ws) one last h k = (h.0, rules_push names labels rs ws one last h.1 k)

-- the refusal of the rule of a line
pub refusal_here : (names : SiteNames) (lines : List RuleLine) (here : ℕ) (line : RuleLine) (refused : Bool) → slice_get lines here ≡ Some line
    → rule_refusal_at names lines here refused ≡ refusal_of_rule names (place_of_label lines) here refused (rule_of_line line)
unfolding rule_refusal_at
refusal_here names lines here line refused is =
    ap (λ (l : Option RuleLine). option_and_then (refusal_of_rule names (place_of_label lines) here refused) (option_map rule_of_line l)) is

-- what a step gives under the places of labels that the code has, it gives under those of the table
same_labels : (names : SiteNames) (found : List ℕ → Option ℕ) (lines : List RuleLine) (here before after : ℕ) (said : WrittenRule) (result : Result Rule Refusal)
    → ((text : List ℕ) → found text ≡ place_of_label lines text) → GivesRule names found here before after said result
    → GivesRule names (place_of_label lines) here before after said result
same_labels names found lines here before after said result same h =
    subst (λ (labels : List ℕ → Option ℕ). GivesRule names labels here before after said result) (fun_ext same) h

-- no line up to this one is refused
earlier_more : (names : SiteNames) (lines : List RuleLine) (here : ℕ) → NoneRefusedBefore names lines here → rule_refusal_at names lines here false ≡ None
    → NoneRefusedBefore names lines (here + 1)
earlier_more names lines here h k = below_more _ here h k

rose_earlier : (first before after : ℕ) → first ≤ before → Rose before after → Rose first after
rose_earlier first before after h rose = omega arith

-- what a reading has read up to a line
pub record IsReadUpTo (names : SiteNames) (lines : List RuleLine) (here : ℕ) (rules : List Rule) : Type 0 where
  pub earlier : NoneRefusedBefore names lines here
  pub rules_read : AreRulesOf names.caches (place_of_label lines) rules (table_of (take here lines))

-- a rule that is taken
pub taken : (names : SiteNames) (found : List ℕ → Option ℕ) (lines : List RuleLine) (here before after : ℕ) (line : RuleLine) (said : WrittenRule)
    (rules new : List Rule) (one : Rule) → ((text : List ℕ) → found text ≡ place_of_label lines text) → here < length lines → line ≡ get_or lines here line
    → said ≡ rule_of_line line → GivesRule names found here before after said (Ok one) → IsReadUpTo names lines here rules → new ≡ rules ++ one ∷ []
    → IsReadUpTo names lines (here + 1) new
taken names found lines here before after line said rules new one same inside is says gives so_far pushed =
    let given : GivesRule names (place_of_label lines) here before after (rule_of_line line) (Ok one) =
    subst (λ (w : WrittenRule). GivesRule names (place_of_label lines) here before after w (Ok one)) says
    (same_labels names found lines here before after said (Ok one) same gives) in
    let at : slice_get lines here ≡ Some line = slice_get_read lines (length lines) here line refl inside is in
    record {
      earlier = earlier_more names lines here so_far.earlier (refusal_here names lines here line false at ∙ given.0);
      rules_read =
          rw (pushed, table_more lines here line inside is)
          (rules_push names.caches (place_of_label lines) rules (table_of (take here lines)) one (rule_of_line line) so_far.rules_read given.1);
    }

-- a rule that is refused
pub refused : (names : SiteNames) (found : List ℕ → Option ℕ) (lines : List RuleLine) (here first before after : ℕ) (line : RuleLine) (said : WrittenRule)
    (refusal : Refusal) → ((text : List ℕ) → found text ≡ place_of_label lines text) → here < length lines → line ≡ get_or lines here line → said ≡ rule_of_line line
    → first ≤ before → GivesRule names found here before after said (Err refusal) → NoneRefusedBefore names lines here
    → ReadsRules names lines first after (Err (error_of line.line refusal))
refused names found lines here first before after line said refusals.Memory same inside is says later gives earlier = tt
refused names found lines here first before after line said (refusals.Refused kind) same inside is says later gives earlier =
    let given : GivesRule names (place_of_label lines) here before after (rule_of_line line) (Err (refusals.Refused kind)) =
    subst (λ (w : WrittenRule). GivesRule names (place_of_label lines) here before after w (Err (refusals.Refused kind))) says
    (same_labels names found lines here before after said (Err (refusals.Refused kind)) same gives) in
    let at : slice_get lines here ≡ Some line = slice_get_read lines (length lines) here line refl inside is in
    record {
      here = here;
      number = rw at refl;
      earlier = earlier;
      cause =
          elim given [
            | inl plain ↦ inl (refusal_here names lines here line false at ∙ plain)
            | inr by_maker ↦ inr (refusal_here names lines here line true at ∙ by_maker.0, by_maker.1, rose_earlier first before after later by_maker.2)
          ];
    }

-- all rules
pub all_read : (names : SiteNames) (lines : List RuleLine) (here : ℕ) (rules : List Rule) → here ≡ length lines → IsReadUpTo names lines here rules
    → NoneRefusedBefore names lines (length lines) × AreRulesOf names.caches (place_of_label lines) rules (table_of lines)
all_read names lines here rules last h = (
  subst (λ (n : ℕ). NoneRefusedBefore names lines n) last h.earlier,
  subst (λ (front : List RuleLine). AreRulesOf names.caches (place_of_label lines) rules (table_of front)) (take_all here lines (omega arith)) h.rules_read,
)
