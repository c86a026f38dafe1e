use Rattle.std.proofs.Common.{◌<◌, length, arith}
use Rattle.uw_rules.proofs.LabelLemmas.{labels_all, labels_step}
use Rattle.uw_rules.proofs.labels.labels_of.Goals as goal

pub loop-place-preserved : goal.loop-place-preserved
loop-place-preserved c = λ text.
    let here : c.loop-place.place < length c.args.lines.now = omega arith in
    labels_step c.args.lines.now c.loop-place.place c.index-lines-place.result _ text _ _ here c.index-lines-place.is c.written.ensures (c.loop-place.invariant text)
    (c.in_ok-note_rule.ensures text)

pub returns : goal.returns
returns c = λ text. labels_all c.args.lines.now c.loop-place.place _ text _ c.min-place-end.ensures (omega arith) (c.loop-place.invariant text)
