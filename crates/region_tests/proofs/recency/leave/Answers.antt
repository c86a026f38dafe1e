use Rattle.std.proofs.Common.{arith}
use Rattle.uw_words.specs.Parts.{seen}
use Rattle.uw_words.proofs.Growth.{spare_room}
use Rattle.uw_recency.specs.Recency.{out_places}
use Rattle.region_tests.proofs.recency.leave.Goals as goal

pub take_out-requires-clause-room : goal.take_out-requires-clause-room
take_out-requires-clause-room g c = spare_room c.args.over.now (out_places (seen c.args.over.now c.args.ram.now) c.args.shape.now c.args.item) (omega arith)
