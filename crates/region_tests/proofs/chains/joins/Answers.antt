use Rattle.std.proofs.Common.{◌∷◌, arith}
use Rattle.uw_words.specs.Parts.{seen}
use Rattle.uw_words.proofs.Growth.{spare_room}
use Rattle.uw_chains.specs.Chains.{link_places}
use Rattle.uw_chains.proofs.OneChain.{changed}
use Rattle.region_tests.proofs.chains.joins.Goals as goal

pub link-requires-clause-room : goal.link-requires-clause-room
link-requires-clause-room g c = spare_room c.args.over.now (link_places (seen c.args.over.now c.args.ram.now) c.args.shape.now c.args.item) (omega arith)

pub returns : goal.returns
returns g c =
    let list = c.args.list.now in
    changed c.args.shape.now c.requires.shape (seen c.args.over.now c.args.ram.now) (seen c.link.new.over c.args.ram.now) c.args.item list (c.args.item ∷ list) c.requires.chain
    (c.link.ensures.chains (λ _. list) c.requires.list c.requires.unchained)
