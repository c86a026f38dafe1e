use Rattle.std.proofs.Common.{sym, arith}
use Rattle.uw_words.specs.Parts.{seen}
use Rattle.uw_bitmap.proofs.Steps.{full_word}
use Rattle.uw_bitmap.proofs.search.behind_full.Goals as goal

pub loop-at-preserved : goal.loop-at-preserved
loop-at-preserved c =
    full_word (seen c.args.over.now c.args.ram.now) c.args.shape.now c.args.from c.loop-at.at c.load.result c.if-load.false (sym c.load.ensures) (omega (arith, c.loop-at.auto.at)) c.loop-at.invariant
