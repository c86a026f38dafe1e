use Rattle.std.proofs.Common.{ℕ, List, ◌++◌, length, ap, ◌∙◌}
use Rattle.std.proofs.lemmas.Result.{on_ok_weaker}
use Rattle.uw_rules.specs.Compiled.{rules_of}
use Rattle.uw_check.specs.Reports.{count_text}
use Rattle.uw_check.proofs.site.put_rule_count.Goals as goal

pub returns : goal.returns
returns c =
    let one = c.args.one.now in
    let more = c.args.more.now in
    on_ok_weaker c.put_count.result
    (λ is. is ∙ ap (λ (count : ℕ). c.append.new.self ++ count_text count one more) c.len.ensures
    ∙ ap (λ (text : List ℕ). text ++ count_text (length (rules_of c.args.rules.now)) one more) c.in_ok-append.ensures.ok)
    c.put_count.ensures
