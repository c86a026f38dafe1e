use Rattle.std.proofs.Common.{refl, ◌∙◌, append_assoc}
use Rattle.std.proofs.lemmas.Result.{on_ok_weaker}
use Rattle.uw_check.proofs.ReportLemmas.{behind}
use Rattle.uw_check.proofs.site.put_rules.Goals as goal

pub returns : goal.returns
returns c =
    on_ok_weaker c.put_rule_count-2.result
    (λ is. behind c.args.out.now _ _ _ _
    (behind c.args.out.now _ _ _ _ (c.in_ok-put_rule_count.ensures ∙ append_assoc c.args.out.now _ _) refl) is)
    c.put_rule_count-2.ensures
