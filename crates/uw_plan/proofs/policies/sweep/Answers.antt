use Rattle.std.proofs.Common.{ℕ, ◌≤◌, Option, None, length, sym, ap, ◌∙◌, subst, arith}
use Rattle.uw_words.specs.declared.shape.Shape.{Shape}
use Rattle.uw_words.specs.Parts.{seen}
use Rattle.uw_items.specs.Items.{HoldsFields}
use Rattle.uw_plan.proofs.OneByOne.{room_for_more, still_in_use}
use Rattle.uw_plan.proofs.Parted.{paired_item}
use Rattle.uw_plan.proofs.Sweeping.{Swept, alive_word, few_gone, kept, met, none_after, none_next, swept_alive, swept_all, swept_dead, swept_none}
use Rattle.uw_plan.proofs.Walking.{is_recent, item_short, recency_then}
use Rattle.uw_plan.proofs.policies.sweep.Goals as goal

pub loop-init : goal.loop-init
loop-init c = λ items list agrees.
    let conf = c.args.conf.now in
    let old = c.args.over.now in
    let first =
    c.newest-next.ensures items (recency_then conf c.shape_of-shape.result c.shape_of-shape.ensures.parts (seen old c.args.ram.now) items list agrees) in
    swept_none conf c.requires.conf c.args.ram.now c.args.moment old list items c.newest-next.result agrees first

pub returns-in_default-clause-list : goal.returns-in_default-clause-list
returns-in_default-clause-list c = λ items list agrees.
    let conf = c.args.conf.now in
    let words = c.args.ram.now in
    let moment = c.args.moment in
    let old = c.args.over.now in
    let mid = c.loop.over in
    let swept = subst (λ (t : Option ℕ). Swept conf words moment old mid list t c.loop.counter c.loop.gone) c.in_default.is (c.loop.invariant items list agrees) in
    let none = none_next conf c.requires.conf words moment old list mid c.loop.counter c.loop.gone swept in
    (swept_all conf c.requires.conf words moment old list mid None c.loop.counter c.loop.gone swept none).0

pub returns-in_default-clause-count : goal.returns-in_default-clause-count
returns-in_default-clause-count c = λ items list agrees.
    let conf = c.args.conf.now in
    let words = c.args.ram.now in
    let moment = c.args.moment in
    let old = c.args.over.now in
    let mid = c.loop.over in
    let swept = subst (λ (t : Option ℕ). Swept conf words moment old mid list t c.loop.counter c.loop.gone) c.in_default.is (c.loop.invariant items list agrees) in
    let none = none_next conf c.requires.conf words moment old list mid c.loop.counter c.loop.gone swept in
    (swept_all conf c.requires.conf words moment old list mid None c.loop.counter c.loop.gone swept none).1

pub older-next-requires-clause-item : goal.older-next-requires-clause-item
older-next-requires-clause-item c =
    let conf = c.args.conf.now in
    let words = c.args.ram.now in
    let moment = c.args.moment in
    let old = c.args.over.now in
    let mid = c.loop.over in
    let some = c.requires.some in
    let swept = subst (λ (t : Option ℕ). Swept conf words moment old mid some.1 t c.loop.counter c.loop.gone) c.in-Some.is (c.loop.invariant some.0 some.1 some.2) in
    let here = met conf c.requires.conf words moment old some.1 mid c.in-Some.item c.loop.counter c.loop.gone swept in
    let left = kept conf c.requires.conf words moment old some.1 mid c.in-Some.item c.loop.counter c.loop.gone swept in
    let one = paired_item swept.leaves.items left c.in-Some.item here.e here.paired in
    item_short conf c.shape_of-shape.result c.shape_of-shape.ensures.parts (seen mid words) swept.leaves.items left swept.leaves.agrees c.in-Some.item one

pub fields_of-requires-clause-item : goal.fields_of-requires-clause-item
fields_of-requires-clause-item c =
    let conf = c.args.conf.now in
    let words = c.args.ram.now in
    let moment = c.args.moment in
    let old = c.args.over.now in
    let mid = c.loop.over in
    let some = c.requires.some in
    let swept = subst (λ (t : Option ℕ). Swept conf words moment old mid some.1 t c.loop.counter c.loop.gone) c.in-Some.is (c.loop.invariant some.0 some.1 some.2) in
    let here = met conf c.requires.conf words moment old some.1 mid c.in-Some.item c.loop.counter c.loop.gone swept in
    let left = kept conf c.requires.conf words moment old some.1 mid c.in-Some.item c.loop.counter c.loop.gone swept in
    let one = paired_item swept.leaves.items left c.in-Some.item here.e here.paired in
    item_short conf c.shape_of-shape.result c.shape_of-shape.ensures.parts (seen mid words) swept.leaves.items left swept.leaves.agrees c.in-Some.item one

pub older-next-requires-clause-listed : goal.older-next-requires-clause-listed
older-next-requires-clause-listed c =
    let conf = c.args.conf.now in
    let words = c.args.ram.now in
    let moment = c.args.moment in
    let old = c.args.over.now in
    let mid = c.loop.over in
    let some = c.requires.some in
    let swept = subst (λ (t : Option ℕ). Swept conf words moment old mid some.1 t c.loop.counter c.loop.gone) c.in-Some.is (c.loop.invariant some.0 some.1 some.2) in
    let here = met conf c.requires.conf words moment old some.1 mid c.in-Some.item c.loop.counter c.loop.gone swept in
    let left = kept conf c.requires.conf words moment old some.1 mid c.in-Some.item c.loop.counter c.loop.gone swept in
    let one = paired_item swept.leaves.items left c.in-Some.item here.e here.paired in
    is_recent conf c.shape_of-shape.result c.shape_of-shape.ensures.parts (seen mid words) swept.leaves.items left swept.leaves.agrees c.in-Some.item one

pub loop-preserved-then-is_alive_until : goal.loop-preserved-then-is_alive_until
loop-preserved-then-is_alive_until c = λ items list agrees.
    let conf = c.args.conf.now in
    let words = c.args.ram.now in
    let moment = c.args.moment in
    let old = c.args.over.now in
    let mid = c.loop.over in
    let swept = subst (λ (t : Option ℕ). Swept conf words moment old mid list t c.loop.counter c.loop.gone) c.in-Some.is (c.loop.invariant items list agrees) in
    let here = met conf c.requires.conf words moment old list mid c.in-Some.item c.loop.counter c.loop.gone swept in
    let left = kept conf c.requires.conf words moment old list mid c.in-Some.item c.loop.counter c.loop.gone swept in
    let one = paired_item swept.leaves.items left c.in-Some.item here.e here.paired in
    let recency = recency_then conf c.shape_of-shape.result c.shape_of-shape.ensures.parts (seen mid words) swept.leaves.items left swept.leaves.agrees in
    let fields =
    subst (λ (s : Shape). HoldsFields (seen mid words) s c.in-Some.item c.fields_of.result) c.shape_of-shape.ensures.parts c.fields_of.ensures in
    let word = alive_word conf c.requires.conf words moment old list mid c.in-Some.item c.loop.counter c.loop.gone swept c.fields_of.result fields in
    let alive = sym word ∙ sym c.is_alive_until.ensures ∙ c.if-is_alive_until.true in
    swept_alive conf c.requires.conf words moment old list mid c.in-Some.item c.loop.counter c.loop.gone swept c.older-next.result
    (c.older-next.ensures swept.leaves.items recency one) alive

pub drop_entry-requires-clause-used : goal.drop_entry-requires-clause-used
drop_entry-requires-clause-used c =
    let conf = c.args.conf.now in
    let words = c.args.ram.now in
    let moment = c.args.moment in
    let old = c.args.over.now in
    let mid = c.loop.over in
    let some = c.requires.some in
    let swept = subst (λ (t : Option ℕ). Swept conf words moment old mid some.1 t c.loop.counter c.loop.gone) c.in-Some.is (c.loop.invariant some.0 some.1 some.2) in
    let here = met conf c.requires.conf words moment old some.1 mid c.in-Some.item c.loop.counter c.loop.gone swept in
    let left = kept conf c.requires.conf words moment old some.1 mid c.in-Some.item c.loop.counter c.loop.gone swept in
    let one = paired_item swept.leaves.items left c.in-Some.item here.e here.paired in
    still_in_use conf c.requires.conf words old mid some.1 left swept.leaves c.in-Some.item here.e here.paired

pub drop_entry-requires-clause-room : goal.drop_entry-requires-clause-room
drop_entry-requires-clause-room c =
    let conf = c.args.conf.now in
    let words = c.args.ram.now in
    let moment = c.args.moment in
    let old = c.args.over.now in
    let mid = c.loop.over in
    let some = c.requires.some in
    let swept = subst (λ (t : Option ℕ). Swept conf words moment old mid some.1 t c.loop.counter c.loop.gone) c.in-Some.is (c.loop.invariant some.0 some.1 some.2) in
    let here = met conf c.requires.conf words moment old some.1 mid c.in-Some.item c.loop.counter c.loop.gone swept in
    let left = kept conf c.requires.conf words moment old some.1 mid c.in-Some.item c.loop.counter c.loop.gone swept in
    let one = paired_item swept.leaves.items left c.in-Some.item here.e here.paired in
    room_for_more conf c.requires.conf words old mid some.1 left swept.leaves c.in-Some.item here.e here.paired some.0 some.2 (c.requires.room some.0 some.1 some.2)

pub overflow_add-gone : goal.overflow_add-gone
overflow_add-gone c =
    let some = c.requires.some in
    let few = few_gone c.args.conf.now c.requires.conf c.args.ram.now c.args.moment c.args.over.now some.1 c.loop.over c.loop.next c.loop.counter c.loop.gone
    (c.loop.invariant some.0 some.1 some.2) in
    record { fits = omega (arith, few, some.2.fits.state.few, c.requires.conf.items.1) }

pub loop-preserved : goal.loop-preserved
loop-preserved c = λ items list agrees.
    let conf = c.args.conf.now in
    let words = c.args.ram.now in
    let moment = c.args.moment in
    let old = c.args.over.now in
    let mid = c.loop.over in
    let swept = subst (λ (t : Option ℕ). Swept conf words moment old mid list t c.loop.counter c.loop.gone) c.in-Some.is (c.loop.invariant items list agrees) in
    let here = met conf c.requires.conf words moment old list mid c.in-Some.item c.loop.counter c.loop.gone swept in
    let left = kept conf c.requires.conf words moment old list mid c.in-Some.item c.loop.counter c.loop.gone swept in
    let one = paired_item swept.leaves.items left c.in-Some.item here.e here.paired in
    let recency = recency_then conf c.shape_of-shape.result c.shape_of-shape.ensures.parts (seen mid words) swept.leaves.items left swept.leaves.agrees in
    let fields =
    subst (λ (s : Shape). HoldsFields (seen mid words) s c.in-Some.item c.fields_of.result) c.shape_of-shape.ensures.parts c.fields_of.ensures in
    let word = alive_word conf c.requires.conf words moment old list mid c.in-Some.item c.loop.counter c.loop.gone swept c.fields_of.result fields in
    let dead = sym word ∙ sym c.is_alive_until.ensures ∙ c.if-is_alive_until.false in
    swept_dead conf c.requires.conf words moment old list mid c.in-Some.item c.loop.counter c.loop.gone swept c.drop_entry.new.over c.older-next.result
    (c.older-next.ensures swept.leaves.items recency one) dead c.drop_entry.ensures.list c.drop_entry.ensures.costs

pub returns-clause-list : goal.returns-clause-list
returns-clause-list c = λ items list agrees.
    let conf = c.args.conf.now in
    let words = c.args.ram.now in
    let moment = c.args.moment in
    let old = c.args.over.now in
    let mid = c.loop.over in
    let swept = c.loop.invariant items list agrees in
    let many = c.loop-test.false in
    let few : length list ≤ c.loop.counter = omega (arith, agrees.fits.state.few, ap (λ (s : Shape). s.n_items) c.shape_of-shape.ensures.parts, many) in
    let none = none_after conf c.requires.conf words moment old list mid c.loop.next c.loop.counter c.loop.gone swept few in
    (swept_all conf c.requires.conf words moment old list mid c.loop.next c.loop.counter c.loop.gone swept none).0

pub returns-clause-count : goal.returns-clause-count
returns-clause-count c = λ items list agrees.
    let conf = c.args.conf.now in
    let words = c.args.ram.now in
    let moment = c.args.moment in
    let old = c.args.over.now in
    let mid = c.loop.over in
    let swept = c.loop.invariant items list agrees in
    let many = c.loop-test.false in
    let few : length list ≤ c.loop.counter = omega (arith, agrees.fits.state.few, ap (λ (s : Shape). s.n_items) c.shape_of-shape.ensures.parts, many) in
    let none = none_after conf c.requires.conf words moment old list mid c.loop.next c.loop.counter c.loop.gone swept few in
    (swept_all conf c.requires.conf words moment old list mid c.loop.next c.loop.counter c.loop.gone swept none).1
