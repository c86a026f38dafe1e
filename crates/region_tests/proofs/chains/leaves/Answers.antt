use Rattle.std.proofs.Common.{arith}
use Rattle.uw_words.specs.Numbers.{without_number}
use Rattle.uw_words.specs.Parts.{seen}
use Rattle.uw_words.proofs.Growth.{spare_room}
use Rattle.uw_chains.specs.Chains.{unlink_places}
use Rattle.uw_chains.proofs.OneChain.{changed}
use Rattle.region_tests.proofs.chains.leaves.Goals as goal

pub unlink-requires-clause-room : goal.unlink-requires-clause-room
unlink-requires-clause-room g c = λ chains is.
    spare_room c.args.over.now (unlink_places (seen c.args.over.now c.args.ram.now) c.args.shape.now chains c.args.item) (omega arith)

pub returns : goal.returns
returns g c =
    let list = c.args.list.now in
    changed c.args.shape.now c.requires.shape (seen c.args.over.now c.args.ram.now) (seen c.unlink.new.over c.args.ram.now) c.args.item list (without_number list c.args.item) c.requires.chain
    (c.unlink.ensures.chains (λ _. list) c.requires.list c.requires.chained)
