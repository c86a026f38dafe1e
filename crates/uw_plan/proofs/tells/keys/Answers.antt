use Rattle.std.proofs.Common.{◌∙◌, sym}
use Rattle.uw_plan.proofs.Telling.{key_fits, listed, none_after, none_next, one, passed_alive, passed_dead, passed_none, recent, short, some_listed}
use Rattle.uw_plan.proofs.tells.keys.Goals as goal

pub newest-next-requires-clause-list : goal.newest-next-requires-clause-list
newest-next-requires-clause-list c =
    let conf = c.args.conf.now in
    let some = c.requires.region in
    some_listed conf c.requires.conf c.args.ram.now c.args.over.now c.requires.empty c.shape_of-shape.result c.shape_of-shape.ensures.parts c.args.moment some.0 some.1

pub loop-init : goal.loop-init
loop-init c = λ list agrees.
    let conf = c.args.conf.now in
    passed_none conf c.requires.conf c.args.ram.now c.args.over.now c.requires.empty c.shape_of-shape.result c.shape_of-shape.ensures.parts c.args.moment list agrees
    c.newest-next.result c.new-keys.result.items (c.newest-next.ensures agrees.items (listed conf c.requires.conf c.args.ram.now c.args.over.now c.requires.empty c.shape_of-shape.result c.shape_of-shape.ensures.parts c.args.moment list agrees)) c.new-keys.ensures.items

pub returns-in_default : goal.returns-in_default
returns-in_default c = λ list agrees.
    let conf = c.args.conf.now in
    c.from_vec.ensures ∙ none_next conf c.requires.conf c.args.ram.now c.args.over.now c.requires.empty c.shape_of-shape.result c.shape_of-shape.ensures.parts c.args.moment list agrees
    c.loop.next c.loop.counter c.loop.keys.items c.in_default.is (c.loop.invariant list agrees)

pub older-next-requires-clause-item : goal.older-next-requires-clause-item
older-next-requires-clause-item c =
    let conf = c.args.conf.now in
    let some = c.requires.region in
    short conf c.requires.conf c.args.ram.now c.args.over.now c.requires.empty c.shape_of-shape.result c.shape_of-shape.ensures.parts c.args.moment some.0 some.1
    c.loop.next c.in-Some.item c.loop.counter c.loop.keys.items c.in-Some.is (c.loop.invariant some.0 some.1)

pub older-next-requires-clause-listed : goal.older-next-requires-clause-listed
older-next-requires-clause-listed c =
    let conf = c.args.conf.now in
    let some = c.requires.region in
    recent conf c.requires.conf c.args.ram.now c.args.over.now c.requires.empty c.shape_of-shape.result c.shape_of-shape.ensures.parts c.args.moment some.0 some.1
    c.loop.next c.in-Some.item c.loop.counter c.loop.keys.items c.in-Some.is (c.loop.invariant some.0 some.1)

pub fields_of-requires-clause-item : goal.fields_of-requires-clause-item
fields_of-requires-clause-item c =
    let conf = c.args.conf.now in
    let some = c.requires.region in
    short conf c.requires.conf c.args.ram.now c.args.over.now c.requires.empty c.shape_of-shape.result c.shape_of-shape.ensures.parts c.args.moment some.0 some.1
    c.loop.next c.in-Some.item c.loop.counter c.loop.keys.items c.in-Some.is (c.loop.invariant some.0 some.1)

pub loop-preserved-then-not-is_alive_until : goal.loop-preserved-then-not-is_alive_until
loop-preserved-then-not-is_alive_until c = λ list agrees.
    let conf = c.args.conf.now in
    passed_dead conf c.requires.conf c.args.ram.now c.args.over.now c.requires.empty c.shape_of-shape.result c.shape_of-shape.ensures.parts c.args.moment list agrees
    c.loop.next c.in-Some.item c.loop.counter c.loop.keys.items c.in-Some.is (c.loop.invariant list agrees)
    c.older-next.result (c.older-next.ensures agrees.items (listed conf c.requires.conf c.args.ram.now c.args.over.now c.requires.empty c.shape_of-shape.result c.shape_of-shape.ensures.parts c.args.moment list agrees)
    (one conf c.requires.conf c.args.ram.now c.args.over.now c.requires.empty c.shape_of-shape.result c.shape_of-shape.ensures.parts c.args.moment list agrees
    c.loop.next c.in-Some.item c.loop.counter c.loop.keys.items c.in-Some.is (c.loop.invariant list agrees))) c.fields_of.result c.fields_of.ensures
    (sym c.is_alive_until.ensures ∙ c.if-not-is_alive_until.true)

pub key_of-requires-clause-item : goal.key_of-requires-clause-item
key_of-requires-clause-item c =
    let conf = c.args.conf.now in
    let some = c.requires.region in
    short conf c.requires.conf c.args.ram.now c.args.over.now c.requires.empty c.shape_of-shape.result c.shape_of-shape.ensures.parts c.args.moment some.0 some.1
    c.loop.next c.in-Some.item c.loop.counter c.loop.keys.items c.in-Some.is (c.loop.invariant some.0 some.1)

pub key_of-requires-clause-key : goal.key_of-requires-clause-key
key_of-requires-clause-key c =
    let conf = c.args.conf.now in
    let some = c.requires.region in
    key_fits conf c.requires.conf c.args.ram.now c.args.over.now c.requires.empty c.shape_of-shape.result c.shape_of-shape.ensures.parts c.args.moment some.0 some.1
    c.loop.next c.in-Some.item c.loop.counter c.loop.keys.items c.in-Some.is (c.loop.invariant some.0 some.1)

pub loop-preserved : goal.loop-preserved
loop-preserved c = λ list agrees.
    let conf = c.args.conf.now in
    passed_alive conf c.requires.conf c.args.ram.now c.args.over.now c.requires.empty c.shape_of-shape.result c.shape_of-shape.ensures.parts c.args.moment list agrees
    c.loop.next c.in-Some.item c.loop.counter c.loop.keys.items c.in-Some.is (c.loop.invariant list agrees)
    c.older-next.result (c.older-next.ensures agrees.items (listed conf c.requires.conf c.args.ram.now c.args.over.now c.requires.empty c.shape_of-shape.result c.shape_of-shape.ensures.parts c.args.moment list agrees)
    (one conf c.requires.conf c.args.ram.now c.args.over.now c.requires.empty c.shape_of-shape.result c.shape_of-shape.ensures.parts c.args.moment list agrees
    c.loop.next c.in-Some.item c.loop.counter c.loop.keys.items c.in-Some.is (c.loop.invariant list agrees))) c.fields_of.result c.fields_of.ensures
    c.in_ok-key_of.field-0 c.push.new.self.items (sym c.is_alive_until.ensures ∙ c.if-not-is_alive_until.false) c.in_ok-key_of.ensures c.in_ok-push.ensures.items

pub returns : goal.returns
returns c = λ list agrees.
    let conf = c.args.conf.now in
    c.from_vec-2.ensures ∙ none_after conf c.requires.conf c.args.ram.now c.args.over.now c.requires.empty c.shape_of-shape.result c.shape_of-shape.ensures.parts c.args.moment list agrees
    c.loop.next c.loop.counter c.loop.keys.items c.loop-test.false (c.loop.invariant list agrees)
