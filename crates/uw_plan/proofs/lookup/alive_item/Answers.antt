use Rattle.uw_words.specs.Parts.{seen}
use Rattle.uw_plan.proofs.Dropping.{as_shape, as_used, used_short}
use Rattle.uw_plan.proofs.Looking.{alive_found, as_agrees, dead_found, none_alive}
use Rattle.uw_plan.proofs.lookup.alive_item.Goals as goal

pub returns-in_err-item : goal.returns-in_err-item
returns-in_err-item c = λ items list agrees.
    rw c.from_residual.ensures (none_alive c.args.key.now c.args.conf.now c.args.moment list (c.in_err-item.ensures items list agrees))

pub fields_of-fields-requires-clause-item : goal.fields_of-fields-requires-clause-item
fields_of-fields-requires-clause-item c =
    let conf = c.args.conf.now in
    let shape = c.shape_of.result in
    let reader = seen c.args.over.now c.args.ram.now in
    let item = c.in_ok-item.item in
    let same = c.shape_of.ensures.parts in
    let some = c.requires.some in
    let found = c.in_ok-item.ensures some.0 some.1 some.2 in
    used_short conf shape (as_shape conf shape same c.requires.conf) reader item (as_used conf shape same reader item (some.0, some.1, found.0, (some.2, found.1.1)))

pub returns-then-is_alive_until : goal.returns-then-is_alive_until
returns-then-is_alive_until c = λ items list agrees.
    let conf = c.args.conf.now in
    let shape = c.shape_of.result in
    let reader = seen c.args.over.now c.args.ram.now in
    let item = c.in_ok-item.item in
    let same = c.shape_of.ensures.parts in
    alive_found conf shape (as_shape conf shape same c.requires.conf) reader items list (as_agrees conf shape same reader items list agrees) c.args.key.now c.args.moment item
    c.fields_of-fields.result.dies (c.in_ok-item.ensures items list agrees) c.fields_of-fields.ensures.dies c.is_alive_until.result c.is_alive_until.ensures c.if-is_alive_until.true

pub returns-else-is_alive_until : goal.returns-else-is_alive_until
returns-else-is_alive_until c = λ items list agrees.
    let conf = c.args.conf.now in
    let shape = c.shape_of.result in
    let reader = seen c.args.over.now c.args.ram.now in
    let item = c.in_ok-item.item in
    let same = c.shape_of.ensures.parts in
    dead_found conf shape (as_shape conf shape same c.requires.conf) reader items list (as_agrees conf shape same reader items list agrees) c.args.key.now c.args.moment item
    c.fields_of-fields.result.dies (c.in_ok-item.ensures items list agrees) c.fields_of-fields.ensures.dies c.is_alive_until.result c.is_alive_until.ensures c.if-is_alive_until.false
