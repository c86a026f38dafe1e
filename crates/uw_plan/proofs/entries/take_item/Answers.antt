use Rattle.std.proofs.Common.{◌∙◌, sym, arith}
use Rattle.uw_words.specs.Parts.{seen}
use Rattle.uw_words.proofs.Growth.{spare_room}
use Rattle.uw_items.specs.FreeList.{take_places}
use Rattle.uw_items.proofs.FreeItems.{take_count}
use Rattle.uw_plan.proofs.Entering.{first_is, first_some, took}
use Rattle.uw_plan.proofs.Joining.{taken}
use Rattle.uw_plan.proofs.entries.take_item.Goals as goal

pub take_free-requires-clause-list : goal.take_free-requires-clause-list
take_free-requires-clause-list c =
    let some = c.requires.some in
    (some.0.free, some.1.0.free)

pub take_free-requires-clause-room : goal.take_free-requires-clause-room
take_free-requires-clause-room c =
    let reader = seen c.args.over.now c.args.ram.now in
    spare_room c.args.over.now (take_places reader c.args.shape.now) (omega (arith, c.requires.room, take_count c.args.shape.now reader))

pub unreachable-requires : goal.unreachable-requires
unreachable-requires c =
    let some = c.requires.some in
    first_some some.0.free some.1.1 (sym (c.take_free.ensures.item some.0.free some.1.0.free) ∙ c.in_default.is)

pub unreachable-unreachable : goal.unreachable-unreachable
unreachable-unreachable c =
    let some = c.requires.some in
    first_some some.0.free some.1.1 (sym (c.take_free.ensures.item some.0.free some.1.0.free) ∙ c.in_default.is)

pub returns-clause-item : goal.returns-clause-item
returns-clause-item c = λ parts held. first_is parts.free c.in-Some.item (sym (c.take_free.ensures.item parts.free held.free) ∙ c.in-Some.is)

pub returns-clause-parts : goal.returns-clause-parts
returns-clause-parts c = λ parts held.
    taken c.args.shape.now c.requires.shape c.args.ram.now c.args.over.now c.take_free.new.over parts held c.take_free.ensures.grew (c.take_free.ensures.list parts.free held.free)

pub returns-clause-grew : goal.returns-clause-grew
returns-clause-grew c = took c.args.shape.now c.requires.shape c.args.ram.now c.args.over.now c.take_free.new.over c.take_free.ensures.grew
