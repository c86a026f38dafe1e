use Rattle.std.proofs.Common.{◌+◌, ◌*◌, ◌-◌, sym, subst, arith}
use Rattle.uw_words.specs.Plans.{Plan}
use Rattle.uw_bitmap.proofs.Runs.{IsChangedUpTo, room_for_next, one_word_more}
use Rattle.uw_bitmap.proofs.run.change.Goals as goal

pub put-requires : goal.put-requires
put-requires c = room_for_next c.args.value c.args.shape.now c.args.ram.now c.args.over.now c.args.first c.args.n c.loop-index.over c.loop-index.index c.loop-index.invariant
    (omega (arith, c.loop-index.auto)) (omega (arith, c.loop-index-test.true)) c.if-n-eq0.false c.requires.room

pub loop-index-preserved : goal.loop-index-preserved
loop-index-preserved c = subst (λ (now : Plan). IsChangedUpTo c.args.value c.args.shape.now c.args.ram.now c.args.over.now now c.args.first c.args.n (c.loop-index.index + 1)) (sym c.put.ensures)
    (one_word_more c.args.value c.args.shape.now c.args.ram.now c.args.over.now c.args.first c.args.n c.loop-index.over c.loop-index.index c.loop-index.invariant
    (omega (arith, c.loop-index.auto)) (omega (arith, c.loop-index-test.true)) c.if-n-eq0.false
    c.load-word.result c.with_bits.result (c.max.result - 64 * c.loop-index.index) (c.min.result - 64 * c.loop-index.index) (sym c.load-word.ensures)
    (omega (arith, c.max.ensures)) (omega (arith, c.min.ensures)) c.with_bits.ensures.inside c.with_bits.ensures.before c.with_bits.ensures.after)
