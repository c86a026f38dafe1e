use Rattle.std.proofs.Common.{◌+◌, [], ◌∷◌}
use Rattle.uw_words.proofs.Growth.{room_now, room_next}
use Rattle.uw_items.proofs.FreeItems.{give_room, give_grew, give_list}
use Rattle.uw_items.proofs.free.give_free.Goals as goal

pub put-requires : goal.put-requires
put-requires c =
    let link = c.link_of-link.result in
    let plan = c.args.over.now in
    room_now plan (link + 2) ((c.args.shape.now.head + 8) ∷ [])
    (give_room c.args.shape.now plan plan plan c.args.ram.now c.args.item link 0 c.link_of-link.ensures.link c.requires.room)

pub put-requires-2 : goal.put-requires-2
put-requires-2 c =
    let link = c.link_of-link.result in
    let plan = c.args.over.now in
    room_now c.put.new.self (c.args.shape.now.head + 8) []
    (room_next plan c.put.new.self (link + 2) c.load-first.result ((c.args.shape.now.head + 8) ∷ []) c.put.ensures
    (give_room c.args.shape.now plan plan plan c.args.ram.now c.args.item link 0 c.link_of-link.ensures.link c.requires.room))

pub returns-clause-list : goal.returns-clause-list
returns-clause-list c =
    give_list c.args.shape.now c.args.over.now c.put.new.self c.put-2.new.self c.args.ram.now c.args.item c.link_of-link.result c.load-first.result c.link_of-link.ensures.link
    c.put.ensures c.put-2.ensures c.requires.shape c.requires.item c.load-first.ensures

pub returns-clause-grew : goal.returns-clause-grew
returns-clause-grew c =
    give_grew c.args.shape.now c.args.over.now c.put.new.self c.put-2.new.self c.args.ram.now c.args.item c.link_of-link.result c.load-first.result c.link_of-link.ensures.link c.put.ensures
    c.put-2.ensures
