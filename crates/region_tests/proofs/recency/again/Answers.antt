use Rattle.std.proofs.Common.{arith}
use Rattle.uw_words.specs.Parts.{seen}
use Rattle.uw_words.proofs.Growth.{spare_room}
use Rattle.uw_recency.specs.Recency.{to_front_places}
use Rattle.region_tests.proofs.recency.again.Goals as goal

pub to_front-requires-clause-room : goal.to_front-requires-clause-room
to_front-requires-clause-room g c = λ items is.
    spare_room c.args.over.now (to_front_places (seen c.args.over.now c.args.ram.now) c.args.shape.now items c.args.item) (omega arith)
