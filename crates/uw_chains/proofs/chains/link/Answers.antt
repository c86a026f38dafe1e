use Rattle.std.proofs.Common.{◌≡◌, [], ◌∷◌}
use Rattle.uw_words.specs.Parts.{seen}
use Rattle.uw_words.proofs.Growth.{room_now, room_next}
use Rattle.uw_chains.specs.Chains.{chain_place, item_chain}
use Rattle.uw_chains.proofs.Puts.{head_of, link_room, link_grew, link_chains}
use Rattle.uw_chains.proofs.chains.link.Goals as goal

pub put-requires : goal.put-requires
put-requires c =
    let reader = seen c.args.over.now c.args.ram.now in
    let head : c.chain_place-head.result ≡ chain_place c.args.shape.now (item_chain reader c.args.shape.now c.args.item) =
    head_of c.args.shape.now reader c.args.item c.link_of-link.result c.load.result c.chain_place-head.result c.link_of-link.ensures.link c.load.ensures c.chain_place-head.ensures.place in
    room_now c.args.over.now c.link_of-link.result (c.chain_place-head.result ∷ []) (link_room c.args.shape.now c.args.over.now c.args.ram.now c.args.item c.link_of-link.result c.chain_place-head.result c.load-first.result c.link_of-link.ensures.link head c.load-first.ensures c.requires.room)

pub put-requires-2 : goal.put-requires-2
put-requires-2 c =
    let reader = seen c.args.over.now c.args.ram.now in
    let head : c.chain_place-head.result ≡ chain_place c.args.shape.now (item_chain reader c.args.shape.now c.args.item) =
    head_of c.args.shape.now reader c.args.item c.link_of-link.result c.load.result c.chain_place-head.result c.link_of-link.ensures.link c.load.ensures c.chain_place-head.ensures.place in
    room_now c.put.new.self c.chain_place-head.result []
    (room_next c.args.over.now c.put.new.self c.link_of-link.result c.load-first.result (c.chain_place-head.result ∷ []) c.put.ensures
    (link_room c.args.shape.now c.args.over.now c.args.ram.now c.args.item c.link_of-link.result c.chain_place-head.result c.load-first.result c.link_of-link.ensures.link head c.load-first.ensures c.requires.room))

pub returns-clause-chains : goal.returns-clause-chains
returns-clause-chains c =
    let reader = seen c.args.over.now c.args.ram.now in
    let head : c.chain_place-head.result ≡ chain_place c.args.shape.now (item_chain reader c.args.shape.now c.args.item) =
    head_of c.args.shape.now reader c.args.item c.link_of-link.result c.load.result c.chain_place-head.result c.link_of-link.ensures.link c.load.ensures c.chain_place-head.ensures.place in
    link_chains c.args.shape.now c.args.over.now c.args.ram.now c.args.item c.link_of-link.result c.chain_place-head.result c.load-first.result c.link_of-link.ensures.link head c.load-first.ensures c.put.new.self c.put-2.new.self c.put.ensures c.put-2.ensures c.requires.shape c.requires.item c.requires.key

pub returns-clause-grew : goal.returns-clause-grew
returns-clause-grew c =
    let reader = seen c.args.over.now c.args.ram.now in
    let head : c.chain_place-head.result ≡ chain_place c.args.shape.now (item_chain reader c.args.shape.now c.args.item) =
    head_of c.args.shape.now reader c.args.item c.link_of-link.result c.load.result c.chain_place-head.result c.link_of-link.ensures.link c.load.ensures c.chain_place-head.ensures.place in
    link_grew c.args.shape.now c.args.over.now c.args.ram.now c.args.item c.link_of-link.result c.chain_place-head.result c.load-first.result c.link_of-link.ensures.link head c.load-first.ensures c.put.new.self c.put-2.new.self c.put.ensures c.put-2.ensures
