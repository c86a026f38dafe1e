use Rattle.std.proofs.Common.{◌+◌, arith}
use Rattle.uw_words.specs.Parts.{seen}
use Rattle.uw_words.proofs.Growth.{spare_room}
use Rattle.uw_recency.specs.Recency.{front_places}
use Rattle.region_tests.proofs.recency.front.Goals as goal

pub push_front-requires-clause-room : goal.push_front-requires-clause-room
push_front-requires-clause-room g c = spare_room c.args.over.now (front_places c.args.shape.now (seen c.args.over.now c.args.ram.now (c.args.shape.now.head + 6)) c.args.item) (omega arith)
