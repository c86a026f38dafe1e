use Rattle.std.proofs.Common.{◌+◌}
use Rattle.uw_words.specs.Parts.{seen}
use Rattle.uw_words.proofs.Links.{walk_short}
use Rattle.uw_words.proofs.Numbers.{one_at}
use Rattle.region_tests.proofs.recency.reads.Goals as goal

pub older-requires-clause-item : goal.older-requires-clause-item
older-requires-clause-item g c =
    let list = c.args.list.now in
    let reader = seen c.args.over.now c.args.ram.now in
    walk_short c.args.shape.now reader 2 list (reader (c.args.shape.now.head + 6)) c.requires.list.walk _ (one_at list c.loop-k.k c.loop-k-test.true)

pub older-requires-clause-listed : goal.older-requires-clause-listed
older-requires-clause-listed g c = (c.args.list.now, (c.requires.list, one_at c.args.list.now c.loop-k.k c.loop-k-test.true))
