use Rattle.std.proofs.Common.{◌<◌, All, [], arith, refl}
use Rattle.std.proofs.lemmas.List.Elements.{All-from_get_or}
use Rattle.uw_words.proofs.Growth.{room_now}
use Rattle.uw_area.proofs.Planning.{plans_write, row_room, count_room, counted_by}
use Rattle.uw_area.proofs.ops.put_within.Goals as goal

pub put_bytes-requires-clause-room : goal.put_bytes-requires-clause-room
put_bytes-requires-clause-room c =
    row_room c.args.size c.args.ram.now c.args.over.now c.args.over.now c.args.over.now c.args.at c.args.put.now c.requires.unplanned c.requires.within
    c.requires.few

pub put-requires : goal.put-requires
put-requires c =
    room_now c.put_bytes.new.over 2 []
    (count_room c.args.size c.args.ram.now c.args.over.now c.put_bytes.new.over c.args.over.now c.args.at c.args.put.now c.requires.unplanned
    c.requires.within c.requires.few
    c.put_bytes.ensures.grew)

pub returns-clause-plan : goal.returns-clause-plan
returns-clause-plan c =
    let small : All (λ byte. byte < 256) c.args.put.now = All-from_get_or (λ byte. byte < 256) c.args.put.now 0 (λ i h. omega (arith, c.type_inv.put i)) in
    plans_write c.args.size c.args.ram.now c.args.over.now c.put_bytes.new.over c.put.new.self c.args.at c.args.put.now c.requires.unplanned
    c.requires.within c.requires.few
    c.put_bytes.ensures.grew small c.put_bytes.ensures.bytes (counted_by c.put_bytes.new.over c.put.new.self c.args.ram.now _ _ c.load-updates.ensures refl
    c.put.ensures) c.count.ensures.distinct
