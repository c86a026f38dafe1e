use Rattle.std.proofs.Common.{◌+◌, ◌≤◌, length, arith}
use Rattle.uw_words.specs.Parts.{seen}
use Rattle.uw_words.proofs.Growth.{spare_room}
use Rattle.uw_recency.specs.Recency.{out_places}
use Rattle.uw_chains.specs.Chains.{unlink_places}
use Rattle.uw_plan.proofs.Leaving.{chains_then, left, left_grew, still_chained}
use Rattle.uw_plan.proofs.Steps.{spare_after}
use Rattle.uw_plan.proofs.entries.leave_lists.Goals as goal

pub take_out-requires-clause-listed : goal.take_out-requires-clause-listed
take_out-requires-clause-listed c =
    let listed = c.requires.listed in
    (listed.0.items, (listed.1.0.recency, listed.1.1.recent))

pub take_out-requires-clause-room : goal.take_out-requires-clause-room
take_out-requires-clause-room c = spare_room c.args.over.now (out_places (seen c.args.over.now c.args.ram.now) c.args.shape.now c.args.item) (omega (arith, c.requires.room))

pub unlink-requires-clause-chained : goal.unlink-requires-clause-chained
unlink-requires-clause-chained c =
    let listed = c.requires.listed in
    let shape = c.args.shape.now in
    let then =
    chains_then shape c.requires.shape c.args.ram.now c.args.over.now c.take_out.new.over c.args.item c.requires.item c.take_out.ensures.grew c.take_out.ensures.list listed.0 listed.1.0 listed.1.1 in
    let still =
    still_chained shape c.requires.shape c.args.ram.now c.args.over.now c.take_out.new.over c.args.item c.requires.item c.take_out.ensures.grew c.take_out.ensures.list listed.0 listed.1.0 listed.1.1 in
    (listed.0.chains, (then, still))

pub unlink-requires-clause-room : goal.unlink-requires-clause-room
unlink-requires-clause-room c = λ chains is.
    let mid = c.take_out.new.over in
    let out = out_places (seen c.args.over.now c.args.ram.now) c.args.shape.now c.args.item in
    let spare : length mid.writes + 1 ≤ mid.room = spare_after out 1 c.args.over.now mid c.take_out.ensures.grew (omega (arith, c.requires.room)) in
    spare_room mid (unlink_places (seen mid c.args.ram.now) c.args.shape.now chains c.args.item) (omega (arith, spare))

pub returns-clause-parts : goal.returns-clause-parts
returns-clause-parts c = λ parts held listed.
    let shape = c.args.shape.now in
    let words = c.args.ram.now in
    let mid = c.take_out.new.over in
    let then = chains_then shape c.requires.shape words c.args.over.now mid c.args.item c.requires.item c.take_out.ensures.grew c.take_out.ensures.list parts held listed in
    let still = still_chained shape c.requires.shape words c.args.over.now mid c.args.item c.requires.item c.take_out.ensures.grew c.take_out.ensures.list parts held listed in
    left shape c.requires.shape words c.args.over.now mid c.args.item c.requires.item c.take_out.ensures.grew c.take_out.ensures.list parts held listed c.unlink.new.over
    (c.unlink.ensures.grew parts.chains then) (c.unlink.ensures.chains parts.chains then still)

pub returns-clause-grew : goal.returns-clause-grew
returns-clause-grew c =
    let shape = c.args.shape.now in
    let words = c.args.ram.now in
    let mid = c.take_out.new.over in
    let parts = c.requires.listed.0 in
    let held = c.requires.listed.1.0 in
    let listed = c.requires.listed.1.1 in
    let then = chains_then shape c.requires.shape words c.args.over.now mid c.args.item c.requires.item c.take_out.ensures.grew c.take_out.ensures.list parts held listed in
    let still = still_chained shape c.requires.shape words c.args.over.now mid c.args.item c.requires.item c.take_out.ensures.grew c.take_out.ensures.list parts held listed in
    left_grew shape c.requires.shape words c.args.over.now mid c.args.item c.requires.item c.take_out.ensures.grew c.take_out.ensures.list parts held listed c.unlink.new.over
    (c.unlink.ensures.grew parts.chains then) (c.unlink.ensures.chains parts.chains then still)
