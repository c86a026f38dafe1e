use Rattle.std.proofs.Common.{length, arith, ap}
use Rattle.uw_cachecmd.proofs.Lengths.{text_fits}
use Rattle.uw_cachecmd.proofs.commands.array_len.Goals as goal

pub overflow_cast-len : goal.overflow_cast-len
overflow_cast-len c =
    let same = ap length c.text-item.is in
    omega (arith, text_fits c.args.texts.now c.loop-text.text-index c.text-item.result c.loop-text-test.true)

pub overflow_add-len : goal.overflow_add-len
overflow_add-len c =
    let same = ap length c.text-item.is in
    omega (arith, text_fits c.args.texts.now c.loop-text.text-index c.text-item.result c.loop-text-test.true)

pub overflow_add-len-in-loop-text : goal.overflow_add-len-in-loop-text
overflow_add-len-in-loop-text c =
    let same = ap length c.text-item.is in
    omega (arith, text_fits c.args.texts.now c.loop-text.text-index c.text-item.result c.loop-text-test.true)
