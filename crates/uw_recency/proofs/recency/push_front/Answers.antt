use Rattle.std.proofs.Common.{◌+◌, [], ◌∷◌}
use Rattle.uw_words.specs.Parts.{seen, HasRoom}
use Rattle.uw_words.proofs.Growth.{room_now, room_next}
use Rattle.uw_recency.proofs.Lists.{first_of_list}
use Rattle.uw_recency.proofs.Puts.{front_room, front_grew, front_list, first_is_link}
use Rattle.uw_recency.proofs.recency.push_front.Goals as goal

pub backward_place-back-requires-clause-link : goal.backward_place-back-requires-clause-link
backward_place-back-requires-clause-link c =
    let shape = c.args.shape.now in
    let reader = seen c.args.over.now c.args.ram.now in
    let list = c.requires.unlisted in
    first_is_link shape reader list.0 c.load-first.result c.load-first.ensures (first_of_list shape c.requires.shape reader reader list.0 c.args.item list.1.0) list.1.0

pub put-requires : goal.put-requires
put-requires c =
    let plan = c.args.over.now in
    let link = c.link_of-link.result in
    let back = c.backward_place-back.result in
    let head = c.args.shape.now.head + 6 in
    let room_1 : HasRoom plan ((link + 1) ∷ (link + 2) ∷ back ∷ head ∷ []) =
    front_room c.args.shape.now plan c.args.ram.now c.args.item link c.load-first.result back c.link_of-link.ensures.link c.load-first.ensures c.backward_place-back.ensures c.requires.room in
    room_now plan (link + 1) ((link + 2) ∷ back ∷ head ∷ []) room_1

pub put-requires-2 : goal.put-requires-2
put-requires-2 c =
    let plan = c.args.over.now in
    let link = c.link_of-link.result in
    let back = c.backward_place-back.result in
    let head = c.args.shape.now.head + 6 in
    let room_1 : HasRoom plan ((link + 1) ∷ (link + 2) ∷ back ∷ head ∷ []) =
    front_room c.args.shape.now plan c.args.ram.now c.args.item link c.load-first.result back c.link_of-link.ensures.link c.load-first.ensures c.backward_place-back.ensures c.requires.room in
    let room_2 = room_next plan c.put.new.self (link + 1) 0 ((link + 2) ∷ back ∷ head ∷ []) c.put.ensures room_1 in
    room_now c.put.new.self (link + 2) (back ∷ head ∷ []) room_2

pub put-requires-3 : goal.put-requires-3
put-requires-3 c =
    let plan = c.args.over.now in
    let link = c.link_of-link.result in
    let back = c.backward_place-back.result in
    let head = c.args.shape.now.head + 6 in
    let room_1 : HasRoom plan ((link + 1) ∷ (link + 2) ∷ back ∷ head ∷ []) =
    front_room c.args.shape.now plan c.args.ram.now c.args.item link c.load-first.result back c.link_of-link.ensures.link c.load-first.ensures c.backward_place-back.ensures c.requires.room in
    let room_2 = room_next plan c.put.new.self (link + 1) 0 ((link + 2) ∷ back ∷ head ∷ []) c.put.ensures room_1 in
    let room_3 = room_next c.put.new.self c.put-2.new.self (link + 2) c.load-first.result (back ∷ head ∷ []) c.put-2.ensures room_2 in
    room_now c.put-2.new.self back (head ∷ []) room_3

pub put-requires-4 : goal.put-requires-4
put-requires-4 c =
    let plan = c.args.over.now in
    let link = c.link_of-link.result in
    let back = c.backward_place-back.result in
    let head = c.args.shape.now.head + 6 in
    let room_1 : HasRoom plan ((link + 1) ∷ (link + 2) ∷ back ∷ head ∷ []) =
    front_room c.args.shape.now plan c.args.ram.now c.args.item link c.load-first.result back c.link_of-link.ensures.link c.load-first.ensures c.backward_place-back.ensures c.requires.room in
    let room_2 = room_next plan c.put.new.self (link + 1) 0 ((link + 2) ∷ back ∷ head ∷ []) c.put.ensures room_1 in
    let room_3 = room_next c.put.new.self c.put-2.new.self (link + 2) c.load-first.result (back ∷ head ∷ []) c.put-2.ensures room_2 in
    let room_4 = room_next c.put-2.new.self c.put-3.new.self back link (head ∷ []) c.put-3.ensures room_3 in
    room_now c.put-3.new.self head [] room_4

pub returns-clause-list : goal.returns-clause-list
returns-clause-list c =
    front_list c.args.shape.now c.args.over.now c.args.ram.now c.args.item c.link_of-link.result c.load-first.result c.backward_place-back.result c.link_of-link.ensures.link c.load-first.ensures
    c.backward_place-back.ensures c.put.new.self c.put-2.new.self c.put-3.new.self c.put-4.new.self c.put.ensures c.put-2.ensures c.put-3.ensures c.put-4.ensures
    c.requires.shape c.requires.item

pub returns-clause-grew : goal.returns-clause-grew
returns-clause-grew c =
    front_grew c.args.shape.now c.args.over.now c.args.ram.now c.args.item c.link_of-link.result c.load-first.result c.backward_place-back.result c.link_of-link.ensures.link c.load-first.ensures
    c.backward_place-back.ensures c.put.new.self c.put-2.new.self c.put-3.new.self c.put-4.new.self c.put.ensures c.put-2.ensures c.put-3.ensures c.put-4.ensures
