use Rattle.std.proofs.Common.{arith}
use Rattle.uw_words.proofs.Growth.{spare_room}
use Rattle.uw_items.specs.FreeList.{give_places}
use Rattle.uw_plan.proofs.Leaving.{freed, freed_grew, room_for_count, same_count}
use Rattle.uw_plan.proofs.entries.set_free.Goals as goal

pub give_free-requires-clause-room : goal.give_free-requires-clause-room
give_free-requires-clause-room c = spare_room c.args.over.now (give_places c.args.shape.now c.args.item) (omega (arith, c.requires.room))

pub load-count-requires : goal.load-count-requires
load-count-requires c =
    let is = c.requires.shape in
    omega (arith, c.requires.region, is.head, is.intent, is.blocks, is.items, is.chains, is.bitmap)

pub overflow_sub-count : goal.overflow_sub-count
overflow_sub-count c =
    let same =
    same_count c.args.shape.now c.requires.shape c.args.ram.now c.args.over.now c.give_free.new.over c.args.item c.requires.item c.give_free.ensures.grew in
    omega (arith, same, c.load-count.ensures, c.requires.some)

pub put-requires : goal.put-requires
put-requires c = room_for_count c.args.shape.now c.requires.shape c.args.ram.now c.args.over.now c.give_free.new.over c.args.item c.requires.item c.give_free.ensures.grew c.requires.room

pub returns-clause-parts : goal.returns-clause-parts
returns-clause-parts c =
    freed c.args.shape.now c.requires.shape c.args.ram.now c.args.over.now c.give_free.new.over c.args.item c.requires.item c.give_free.ensures.grew c.put.new.self c.load-count.result
    c.load-count.ensures c.put.ensures c.give_free.ensures.list

pub returns-clause-grew : goal.returns-clause-grew
returns-clause-grew c =
    freed_grew c.args.shape.now c.requires.shape c.args.ram.now c.args.over.now c.give_free.new.over c.args.item c.requires.item c.give_free.ensures.grew c.put.new.self c.load-count.result
    c.load-count.ensures c.put.ensures
