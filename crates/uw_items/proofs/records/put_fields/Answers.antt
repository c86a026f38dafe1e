use Rattle.std.proofs.Common.{◌+◌, [], ◌∷◌, refl}
use Rattle.uw_words.proofs.Growth.{room_now, room_next}
use Rattle.uw_items.proofs.Held.{fields_room, fields_grew, fields_hold}
use Rattle.uw_items.proofs.records.put_fields.Goals as goal

pub put-requires : goal.put-requires
put-requires c =
    let link = c.link_of-link.result in
    room_now c.args.over.now (link + 3) ((link + 4) ∷ (link + 5) ∷ [])
    (fields_room c.args.shape.now c.args.over.now c.args.over.now c.args.over.now c.args.over.now c.args.item link 0 0 0 c.link_of-link.ensures.link c.requires.room)

pub put-requires-2 : goal.put-requires-2
put-requires-2 c =
    let link = c.link_of-link.result in
    room_now c.put.new.self (link + 4) ((link + 5) ∷ [])
    (room_next c.args.over.now c.put.new.self (link + 3) c.args.fields.now.dies ((link + 4) ∷ (link + 5) ∷ []) c.put.ensures
    (fields_room c.args.shape.now c.args.over.now c.args.over.now c.args.over.now c.args.over.now c.args.item link 0 0 0 c.link_of-link.ensures.link c.requires.room))

pub put-requires-3 : goal.put-requires-3
put-requires-3 c =
    let link = c.link_of-link.result in
    room_now c.put-2.new.self (link + 5) []
    (room_next c.put.new.self c.put-2.new.self (link + 4) c.args.fields.now.first ((link + 5) ∷ []) c.put-2.ensures
    (room_next c.args.over.now c.put.new.self (link + 3) c.args.fields.now.dies ((link + 4) ∷ (link + 5) ∷ []) c.put.ensures
    (fields_room c.args.shape.now c.args.over.now c.args.over.now c.args.over.now c.args.over.now c.args.item link 0 0 0 c.link_of-link.ensures.link c.requires.room)))

pub returns-clause-fields : goal.returns-clause-fields
returns-clause-fields c = λ words.
    fields_hold c.args.shape.now c.args.over.now c.put.new.self c.put-2.new.self c.put-3.new.self c.args.item c.link_of-link.result c.args.fields.now.dies c.args.fields.now.first
    c.args.fields.now.length c.link_of-link.ensures.link c.put.ensures c.put-2.ensures c.put-3.ensures words c.args.fields.now refl refl refl

pub returns-clause-grew : goal.returns-clause-grew
returns-clause-grew c =
    fields_grew c.args.shape.now c.args.over.now c.put.new.self c.put-2.new.self c.put-3.new.self c.args.item c.link_of-link.result c.args.fields.now.dies c.args.fields.now.first
    c.args.fields.now.length c.link_of-link.ensures.link c.put.ensures c.put-2.ensures c.put-3.ensures
