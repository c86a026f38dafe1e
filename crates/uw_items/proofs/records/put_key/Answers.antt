use Rattle.std.proofs.Common.{◌+◌, ◌∷◌, length, arith}
use Rattle.uw_words.specs.Shapes.{item_head}
use Rattle.uw_words.specs.Texts.{places_of_text}
use Rattle.uw_words.proofs.Growth.{room_now, room_next}
use Rattle.uw_items.proofs.Held.{item_end, key_room, key_grew, key_holds}
use Rattle.uw_items.proofs.records.put_key.Goals as goal

pub put-requires : goal.put-requires
put-requires c =
    let link = c.link_of-link.result in
    let row = places_of_text (link + item_head) (length c.args.key.now) in
    room_now c.args.over.now (link + 6) ((link + 7) ∷ row)
    (key_room c.args.shape.now c.args.over.now c.args.over.now c.args.over.now c.args.over.now c.args.item link 0 c.args.key.now c.link_of-link.ensures.link c.requires.room)

pub put-requires-2 : goal.put-requires-2
put-requires-2 c =
    let link = c.link_of-link.result in
    let row = places_of_text (link + item_head) (length c.args.key.now) in
    room_now c.put.new.self (link + 7) row
    (room_next c.args.over.now c.put.new.self (link + 6) (length c.args.key.now) ((link + 7) ∷ row) c.put.ensures
    (key_room c.args.shape.now c.args.over.now c.args.over.now c.args.over.now c.args.over.now c.args.item link 0 c.args.key.now c.link_of-link.ensures.link c.requires.room))

pub put_text-requires-clause-within : goal.put_text-requires-clause-within
put_text-requires-clause-within c =
    omega (arith, item_end c.args.shape.now c.requires.shape c.args.item c.requires.item, c.link_of-link.ensures.link, c.requires.key, c.requires.shape.stride, c.requires.shape.intent, c.requires.shape.within)

pub put_text-requires-clause-room : goal.put_text-requires-clause-room
put_text-requires-clause-room c =
    let link = c.link_of-link.result in
    let row = places_of_text (link + item_head) (length c.args.key.now) in
    room_next c.put.new.self c.put-2.new.self (link + 7) c.djb33x.result row c.put-2.ensures
    (room_next c.args.over.now c.put.new.self (link + 6) (length c.args.key.now) ((link + 7) ∷ row) c.put.ensures
    (key_room c.args.shape.now c.args.over.now c.args.over.now c.args.over.now c.args.over.now c.args.item link 0 c.args.key.now c.link_of-link.ensures.link c.requires.room))

pub returns-clause-key : goal.returns-clause-key
returns-clause-key c =
    key_holds c.args.shape.now c.args.over.now c.put.new.self c.put-2.new.self c.put_text.new.over c.args.item c.link_of-link.result c.djb33x.result c.args.key.now c.link_of-link.ensures.link
    c.put.ensures c.put-2.ensures c.put_text.ensures.grew c.djb33x.ensures.hash c.requires.key c.put_text.ensures.text

pub returns-clause-grew : goal.returns-clause-grew
returns-clause-grew c =
    key_grew c.args.shape.now c.args.over.now c.put.new.self c.put-2.new.self c.put_text.new.over c.args.item c.link_of-link.result c.djb33x.result c.args.key.now c.link_of-link.ensures.link
    c.put.ensures c.put-2.ensures c.put_text.ensures.grew
