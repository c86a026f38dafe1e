use Rattle.std.proofs.Common.{◌≡◌, ℕ, List, refl, ap, ◌∙◌, Some, None}
use Rattle.std.specs.Borrow.{Bor}
use Rattle.std.specs.Option.{option_copied}
use Rattle.uw_subst.specs.Templates.{fault_of}
use Rattle.uw_rules.specs.Compiled.{or_empty}
use Rattle.uw_rules.proofs.CompileLemmas.{good_text, seen_or_empty}
use Rattle.uw_rules.proofs.texts.template.Goals as goal

pub unreachable-requires : goal.unreachable-requires
unreachable-requires c =
    let bad : fault_of c.unwrap_or.result.now ≡ Some c.in-Err-BadTemplate.field-0-0 = rw c.in-Err-BadTemplate.field-0-is at c.in-Err-BadTemplate.ensures.fault in
    let same : c.unwrap_or.result.now ≡ or_empty (option_copied c.args.text) =
    ap (λ (text : Bor (List ℕ)). text.now) c.unwrap_or.ensures ∙ seen_or_empty c.args.text _ refl in
    let good : fault_of c.unwrap_or.result.now ≡ None = ap fault_of same ∙ good_text (option_copied c.args.text) c.requires.good in
    cc
