use Rattle.std.proofs.Common.{List, subst}
use Rattle.uw_model.specs.declared.entries.Entry.{Entry}
use Rattle.uw_model.specs.Calls.{without}
use Rattle.uw_words.specs.Parts.{seen}
use Rattle.uw_plan.specs.CallSteps.{Leaves}
use Rattle.uw_plan.proofs.OneByOne.{fewer_in_use, leaves_more, leaves_none, room_for_more, still_in_use}
use Rattle.uw_plan.proofs.Walking.{first_entry, has_recency, no_first_entry}
use Rattle.uw_plan.proofs.policies.clear.Goals as goal

pub loop-item-init : goal.loop-item-init
loop-item-init c = λ items list agrees. (list, leaves_none c.args.conf.now c.requires.conf c.args.ram.now c.args.over.now items list agrees)

pub newest-requires-clause-list : goal.newest-requires-clause-list
newest-requires-clause-list c =
    let some = c.requires.some in
    let so_far = c.loop-item.invariant some.0 some.1 some.2 in
    has_recency c.args.conf.now c.shape_of-shape.result c.shape_of-shape.ensures.parts (seen c.loop-item.over c.args.ram.now) so_far.1.items so_far.0 so_far.1.agrees

pub drop_entry-requires-clause-used : goal.drop_entry-requires-clause-used
drop_entry-requires-clause-used c =
    let conf = c.args.conf.now in
    let words = c.args.ram.now in
    let old = c.args.over.now in
    let mid = c.loop-item.over in
    let item = c.in-Some.item in
    let some = c.requires.some in
    let so_far = c.loop-item.invariant some.0 some.1 some.2 in
    let first = first_entry conf c.shape_of-shape.result c.shape_of-shape.ensures.parts (seen mid words) so_far.1.items so_far.0 so_far.1.agrees item c.in-Some.ensures in
    still_in_use conf c.requires.conf words old mid some.1 so_far.0 so_far.1 item first.e first.paired

pub drop_entry-requires-clause-room : goal.drop_entry-requires-clause-room
drop_entry-requires-clause-room c =
    let conf = c.args.conf.now in
    let words = c.args.ram.now in
    let old = c.args.over.now in
    let mid = c.loop-item.over in
    let item = c.in-Some.item in
    let some = c.requires.some in
    let so_far = c.loop-item.invariant some.0 some.1 some.2 in
    let first = first_entry conf c.shape_of-shape.result c.shape_of-shape.ensures.parts (seen mid words) so_far.1.items so_far.0 so_far.1.agrees item c.in-Some.ensures in
    room_for_more conf c.requires.conf words old mid some.1 so_far.0 so_far.1 item first.e first.paired some.0 some.2 (c.requires.room some.0 some.1 some.2)

pub loop-item-smaller : goal.loop-item-smaller
loop-item-smaller c =
    let conf = c.args.conf.now in
    let words = c.args.ram.now in
    let old = c.args.over.now in
    let mid = c.loop-item.over in
    let item = c.in-Some.item in
    let some = c.requires.some in
    let so_far = c.loop-item.invariant some.0 some.1 some.2 in
    let first = first_entry conf c.shape_of-shape.result c.shape_of-shape.ensures.parts (seen mid words) so_far.1.items so_far.0 so_far.1.agrees item c.in-Some.ensures in
    fewer_in_use conf c.requires.conf words old mid some.1 so_far.0 so_far.1 item first.e first.paired c.drop_entry.new.over c.drop_entry.ensures.list c.drop_entry.ensures.costs

pub loop-item-preserved : goal.loop-item-preserved
loop-item-preserved c = λ items list agrees.
    let conf = c.args.conf.now in
    let words = c.args.ram.now in
    let old = c.args.over.now in
    let mid = c.loop-item.over in
    let item = c.in-Some.item in
    let so_far = c.loop-item.invariant items list agrees in
    let first = first_entry conf c.shape_of-shape.result c.shape_of-shape.ensures.parts (seen mid words) so_far.1.items so_far.0 so_far.1.agrees item c.in-Some.ensures in (
      without first.e.key so_far.0,
      leaves_more conf c.requires.conf words old mid list so_far.0 so_far.1 item first.e first.paired c.drop_entry.new.over c.drop_entry.ensures.list c.drop_entry.ensures.costs,
    )

pub returns : goal.returns
returns c = record {
  list = λ items list agrees.
      let conf = c.args.conf.now in
      let now = c.loop-item.over in
      let so_far = c.loop-item.invariant items list agrees in
      let none = no_first_entry conf c.shape_of-shape.result c.shape_of-shape.ensures.parts (seen now c.args.ram.now) so_far.1.items so_far.0 so_far.1.agrees c.in_default.ensures in
      subst (λ (l : List Entry). Leaves conf c.args.ram.now c.args.over.now now list l) none so_far.1;
}
