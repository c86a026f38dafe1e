use Rattle.std.proofs.Common.{sym}
use Rattle.uw_words.specs.Parts.{seen}
use Rattle.uw_plan.proofs.OneByOne.{fewer_in_use, room_for_more}
use Rattle.uw_plan.proofs.Purging.{front_leaves, purged_all, purged_enough, purged_more, purged_none}
use Rattle.uw_plan.proofs.Walking.{has_recency, last_of_all, no_last_of_all}
use Rattle.uw_plan.proofs.policies.purge.Goals as goal

pub loop-item-init : goal.loop-item-init
loop-item-init c = λ items list agrees.
    (list, purged_none c.args.conf.now c.requires.conf c.args.ram.now c.args.n c.args.over.now list items agrees (c.requires.none items list agrees))

pub last-requires-clause-list : goal.last-requires-clause-list
last-requires-clause-list c =
    let some = c.requires.some in
    let so_far = c.loop-item.invariant some.0 some.1 some.2 in
    let leaves = so_far.1.leaves in
    has_recency c.args.conf.now c.shape_of-shape.result c.shape_of-shape.ensures.parts (seen c.loop-item.over c.args.ram.now) leaves.items so_far.0 leaves.agrees

pub run_after-requires-clause-used : goal.run_after-requires-clause-used
run_after-requires-clause-used c =
    let conf = c.args.conf.now in
    let words = c.args.ram.now in
    let mid = c.loop-item.over in
    let item = c.in-Some.item in
    let some = c.requires.some in
    let so_far = c.loop-item.invariant some.0 some.1 some.2 in
    let leaves = so_far.1.leaves in
    let last = last_of_all conf c.shape_of-shape.result c.shape_of-shape.ensures.parts (seen mid words) leaves.items so_far.0 leaves.agrees item c.in-Some.ensures in
    (leaves.items, so_far.0, last.e, (leaves.agrees, last.paired, so_far.1.full))

pub run_after-requires-clause-room : goal.run_after-requires-clause-room
run_after-requires-clause-room c =
    let conf = c.args.conf.now in
    let words = c.args.ram.now in
    let mid = c.loop-item.over in
    let item = c.in-Some.item in
    let some = c.requires.some in
    let so_far = c.loop-item.invariant some.0 some.1 some.2 in
    let leaves = so_far.1.leaves in
    let last = last_of_all conf c.shape_of-shape.result c.shape_of-shape.ensures.parts (seen mid words) leaves.items so_far.0 leaves.agrees item c.in-Some.ensures in
    room_for_more conf c.requires.conf words c.args.over.now mid some.1 so_far.0 leaves item last.e last.paired some.0 some.2 (c.requires.room some.0 some.1 some.2)

pub returns-in-Some-run_after : goal.returns-in-Some-run_after
returns-in-Some-run_after c = λ items list agrees.
    let conf = c.args.conf.now in
    let words = c.args.ram.now in
    let mid = c.loop-item.over in
    let now = c.run_after.new.over in
    let item = c.in-Some.item in
    let so_far = c.loop-item.invariant items list agrees in
    let leaves = so_far.1.leaves in
    let last = last_of_all conf c.shape_of-shape.result c.shape_of-shape.ensures.parts (seen mid words) leaves.items so_far.0 leaves.agrees item c.in-Some.ensures in
    let left =
    front_leaves conf c.requires.conf words c.args.n c.args.over.now list mid so_far.0 so_far.1 item last now c.run_after.ensures.list c.run_after.ensures.costs in
    let room = c.in-Some-run_after.ensures.fits left.items last.front left.agrees in (
      last.front,
      (
        purged_enough conf c.requires.conf words c.args.n c.args.over.now list mid so_far.0 so_far.1 item last now c.run_after.ensures.list c.run_after.ensures.costs (sym room),
        c.in-Some-run_after.ensures.run left.items last.front left.agrees,
        left,
      ),
    )

pub loop-item-smaller : goal.loop-item-smaller
loop-item-smaller c =
    let conf = c.args.conf.now in
    let words = c.args.ram.now in
    let mid = c.loop-item.over in
    let item = c.in-Some.item in
    let some = c.requires.some in
    let so_far = c.loop-item.invariant some.0 some.1 some.2 in
    let leaves = so_far.1.leaves in
    let last = last_of_all conf c.shape_of-shape.result c.shape_of-shape.ensures.parts (seen mid words) leaves.items so_far.0 leaves.agrees item c.in-Some.ensures in
    fewer_in_use conf c.requires.conf words c.args.over.now mid some.1 so_far.0 leaves item last.e last.paired c.run_after.new.over c.run_after.ensures.list c.run_after.ensures.costs

pub loop-item-preserved : goal.loop-item-preserved
loop-item-preserved c = λ items list agrees.
    let conf = c.args.conf.now in
    let words = c.args.ram.now in
    let mid = c.loop-item.over in
    let now = c.run_after.new.over in
    let item = c.in-Some.item in
    let so_far = c.loop-item.invariant items list agrees in
    let leaves = so_far.1.leaves in
    let last = last_of_all conf c.shape_of-shape.result c.shape_of-shape.ensures.parts (seen mid words) leaves.items so_far.0 leaves.agrees item c.in-Some.ensures in
    let left =
    front_leaves conf c.requires.conf words c.args.n c.args.over.now list mid so_far.0 so_far.1 item last now c.run_after.ensures.list c.run_after.ensures.costs in
    let full = c.in_default-run_after.ensures.fits left.items last.front left.agrees in (
      last.front,
      purged_more conf c.requires.conf words c.args.n c.args.over.now list mid so_far.0 so_far.1 item last now c.run_after.ensures.list c.run_after.ensures.costs (sym full),
    )

pub returns : goal.returns
returns c = λ items list agrees.
    let conf = c.args.conf.now in
    let now = c.loop-item.over in
    let so_far = c.loop-item.invariant items list agrees in
    let leaves = so_far.1.leaves in
    let none = no_last_of_all conf c.shape_of-shape.result c.shape_of-shape.ensures.parts (seen now c.args.ram.now) leaves.items so_far.0 leaves.agrees c.in_default.ensures in
    purged_all conf c.requires.conf c.args.ram.now c.args.n c.args.over.now list now so_far.0 so_far.1 none
