use Rattle.std.proofs.Common.{[], ap, ◌∙◌, subst}
use Rattle.uw_words.specs.Parts.{seen, HasRoom}
use Rattle.uw_words.proofs.Growth.{room_now}
use Rattle.uw_chains.specs.Chains.{unlink_places}
use Rattle.uw_chains.proofs.Puts.{unlink_grew, unlink_chains}
use Rattle.uw_chains.proofs.chains.unlink.Goals as goal

pub put-requires : goal.put-requires
put-requires c =
    let chained = c.requires.chained in
    room_now c.args.over.now c.place_to-at.result []
    (subst (HasRoom c.args.over.now) (c.place_to-at.ensures chained.0 chained.1.0) (c.requires.room chained.0 chained.1.0))

pub returns-clause-chains : goal.returns-clause-chains
returns-clause-chains c = λ chains is one.
    let reader = seen c.args.over.now c.args.ram.now in
    unlink_chains c.args.shape.now c.args.over.now c.put.new.self c.args.ram.now c.args.item c.place_to-at.result c.load-next.result c.put.ensures c.requires.shape
    (c.load-next.ensures ∙ ap reader c.link_of-link.ensures.link) chains is (c.place_to-at.ensures chains is) one

pub returns-clause-grew : goal.returns-clause-grew
returns-clause-grew c = λ chains is.
    let shape = c.args.shape.now in
    unlink_grew shape c.args.over.now c.put.new.self c.args.ram.now c.args.item c.place_to-at.result c.load-next.result c.put.ensures
    (unlink_places (seen c.args.over.now c.args.ram.now) shape chains c.args.item) (c.place_to-at.ensures chains is)
