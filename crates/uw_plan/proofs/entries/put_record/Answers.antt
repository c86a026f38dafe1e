use Rattle.std.proofs.Common.{◌++◌, length}
use Rattle.uw_words.proofs.Growth.{grew_then, room_early, room_then}
use Rattle.uw_items.specs.Items.{field_places, key_places, value_places}
use Rattle.uw_plan.proofs.Entering.{fields_remain, key_remains}
use Rattle.uw_plan.proofs.entries.put_record.Goals as goal

pub put_key-requires-clause-room : goal.put_key-requires-clause-room
put_key-requires-clause-room c =
    let shape = c.args.shape.now in
    let item = c.args.item in
    room_early (key_places shape item (length c.args.key.now)) (field_places shape item ++ value_places shape c.args.fields.now.first (length c.args.value.now)) c.args.over.now c.requires.room

pub put_fields-requires-clause-room : goal.put_fields-requires-clause-room
put_fields-requires-clause-room c =
    let shape = c.args.shape.now in
    let item = c.args.item in
    let blocks = value_places shape c.args.fields.now.first (length c.args.value.now) in
    room_early (field_places shape item) blocks c.put_key.new.over
    (room_then (key_places shape item (length c.args.key.now)) (field_places shape item ++ blocks) c.args.over.now c.put_key.new.over c.requires.room c.put_key.ensures.grew)

pub put_value-requires-clause-room : goal.put_value-requires-clause-room
put_value-requires-clause-room c =
    let shape = c.args.shape.now in
    let item = c.args.item in
    let blocks = value_places shape c.args.fields.now.first (length c.args.value.now) in
    room_then (field_places shape item) blocks c.put_key.new.over c.put_fields.new.over
    (room_then (key_places shape item (length c.args.key.now)) (field_places shape item ++ blocks) c.args.over.now c.put_key.new.over c.requires.room c.put_key.ensures.grew)
    c.put_fields.ensures.grew

pub returns-clause-key : goal.returns-clause-key
returns-clause-key c = λ words.
    key_remains c.args.shape.now c.requires.shape c.args.item c.args.fields.now.first c.args.key.now (length c.args.value.now) c.requires.item c.requires.key c.requires.value words
    c.put_key.new.over c.put_fields.new.over c.put_value.new.over c.put_fields.ensures.grew c.put_value.ensures.grew (c.put_key.ensures.key words)

pub returns-clause-fields : goal.returns-clause-fields
returns-clause-fields c = λ words.
    fields_remain c.args.shape.now c.requires.shape c.args.item c.args.fields.now.first c.args.key.now (length c.args.value.now) c.requires.item c.requires.key c.requires.value words
    c.put_key.new.over c.put_fields.new.over c.put_value.new.over c.put_fields.ensures.grew c.put_value.ensures.grew c.args.fields.now (c.put_fields.ensures.fields words)

pub returns-clause-grew : goal.returns-clause-grew
returns-clause-grew c =
    let shape = c.args.shape.now in
    let item = c.args.item in
    let blocks = value_places shape c.args.fields.now.first (length c.args.value.now) in
    grew_then (key_places shape item (length c.args.key.now)) (field_places shape item ++ blocks) c.args.over.now c.put_key.new.over c.put_value.new.over c.put_key.ensures.grew
    (grew_then (field_places shape item) blocks c.put_key.new.over c.put_fields.new.over c.put_value.new.over c.put_fields.ensures.grew c.put_value.ensures.grew)
