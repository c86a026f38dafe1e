use Rattle.std.proofs.Common.{◌≡◌, ◌-◌, ◌^◌, length, min, ap, ◌∙◌, arith}
use Rattle.std.specs.List.{sum_by}
use Rattle.std.proofs.lemmas.List.Sums.{sum_by_more}
use Rattle.uw_rules.specs.Weight.{repetition_weight, weight}
use Rattle.uw_rules.proofs.WeightLemmas.{min-repetition, weight-Repetition, weight-Alternation}
use Rattle.uw_rules.proofs.weight.+weight.Goals as goal

pub weight_of-returns-in-Repetition : goal.weight_of-returns-in-Repetition
weight_of-returns-in-Repetition t c =
    let r = c.in-Repetition in
    let each = c.weight_of.ensures ∙ ap (λ h. min (weight h) (2 ^ 64 - 1)) c.deref.ensures in
    let whole = c.repeated.ensures ∙ ap (λ n. min (repetition_weight r.min r.max n) (2 ^ 64 - 1)) each in
    rw (r.is, weight-Repetition) (whole ∙ min-repetition r.min r.max (weight r.sub.value) (2 ^ 64 - 1))

pub weight_of-returns-in-Alternation : goal.weight_of-returns-in-Alternation
weight_of-returns-in-Alternation t c =
    let subs = c.in-Alternation.subs in
    let all = c.weight_of_all-in-Alternation.ensures ∙ ap (λ hs. min (sum_by weight hs) (2 ^ 64 - 1)) c.deref-in-Alternation.ensures.value in
    let count : c.len-in-Alternation.result ≡ length subs.items = omega (arith, c.len-in-Alternation.ensures) in
    rw (c.in-Alternation.is, weight-Alternation) (omega (arith, all, count))

pub weight_of_all-loop-tree-preserved : goal.weight_of_all-loop-tree-preserved
weight_of_all-loop-tree-preserved t c =
    let trees = c.args.trees.now in
    let here = ap weight c.tree-item.is in
    let more = sum_by_more weight trees c.loop-tree.tree-index c.tree-item.result c.loop-tree-test.true in
    rw more (omega (arith, here, c.loop-tree.invariant))
