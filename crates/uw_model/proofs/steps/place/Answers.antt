-- The entries of a state, and those of it without a key. The list left is the one that the room made says.
use Rattle.std.proofs.Common.{◌∙◌}
use Rattle.uw_model.specs.Placement.{room}
use Rattle.uw_model.proofs.PlacedLemmas.{nowhere, written_at, written_nowhere}
use Rattle.uw_model.proofs.StateLemmas.{entries_without, keys_of_state}
use Rattle.uw_model.proofs.steps.place.Goals as goal

pub take_out-taken-requires : goal.take_out-taken-requires
take_out-taken-requires c = keys_of_state c.args.conf.now c.args.entries.now.items c.requires.state

pub make_room-requires-clause-entries : goal.make_room-requires-clause-entries
make_room-requires-clause-entries c =
    rw c.take_out-taken.ensures.without (entries_without c.args.conf.now c.args.entries.now.items c.as_slice-2.result.now c.requires.state)

pub returns-in_default-clause-next : goal.returns-in_default-clause-next
returns-in_default-clause-next c =
    let conf = c.args.conf.now in
    let entry = c.args.entry in
    let others = c.take_out-taken.new.entries.items in
    let n = c.span-n.result in
    let none = nowhere conf n (room conf others n c.args.moment) c.in_default.ensures.run in
    let same = rw none at c.in_default.ensures.list in
    let stays = written_nowhere conf c.args.entries.now.items others entry.key entry.value entry.dies n c.args.moment c.args.answered (rw c.as_slice-2.ensures at c.take_out-taken.ensures.without) (rw c.as_slice.ensures at c.span-n.ensures) c.in_default.ensures.run in
    c.put_back.ensures ∙ rw same (c.take_out-taken.ensures.taken ∙ stays)

pub returns-clause-next : goal.returns-clause-next
returns-clause-next c =
    let conf = c.args.conf.now in
    let entry = c.args.entry in
    let others = c.take_out-taken.new.entries.items in
    let n = c.span-n.result in
    let there = written_at conf c.args.entries.now.items others entry.key entry.value entry.dies n c.args.moment c.args.answered (rw c.as_slice-2.ensures at c.take_out-taken.ensures.without) (rw c.as_slice.ensures at c.span-n.ensures) in
    c.put_in_front.ensures ∙ there c.in-Some.first c.make_room.new.entries.items c.in-Some.ensures.run c.in-Some.ensures.list
