use Rattle.uw_subst.proofs.PieceLemmas.{plain_none, plain_more}
use Rattle.uw_subst.proofs.reading.constant_end.Goals as goal

pub loop-place-init : goal.loop-place-init
loop-place-init c = plain_none c.args.text.now c.args.at

pub loop-place-preserved : goal.loop-place-preserved
loop-place-preserved c =
    plain_more c.args.text.now c.args.at c.loop-place.place c.loop-place.auto.place c.loop-place-test.true c.if-not-is_plain_at.ensures c.loop-place.invariant
