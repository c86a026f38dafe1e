use Rattle.std.proofs.Common.{◌≡◌, ℤ, Some, ap, ◌∙◌, arith, rules, of_z, to_z, w64}
use Rattle.std.specs.Int.{cast_signed}
use Rattle.std.proofs.lemmas.Int.{to_z-of_z}
use Rattle.uw_words.specs.Parts.{seen}
use Rattle.uw_plan.proofs.Dropping.{as_shape, as_used, used_short}
use Rattle.uw_plan.proofs.Looking.{as_agrees, block_below, no_number, some_number}
use Rattle.uw_plan.proofs.lookup.number_of_item.Goals as goal

pub fields_of-fields-requires-clause-item : goal.fields_of-fields-requires-clause-item
fields_of-fields-requires-clause-item c =
    let conf = c.args.conf.now in
    let shape = c.shape_of-shape.result in
    let reader = seen c.args.over.now c.args.ram.now in
    let same = c.shape_of-shape.ensures.parts in
    used_short conf shape (as_shape conf shape same c.requires.conf) reader c.args.item (as_used conf shape same reader c.args.item c.requires.used)

pub returns-then-fields-ne8 : goal.returns-then-fields-ne8
returns-then-fields-ne8 c = λ items list e agrees paired.
    let conf = c.args.conf.now in
    let shape = c.shape_of-shape.result in
    let reader = seen c.args.over.now c.args.ram.now in
    let same = c.shape_of-shape.ensures.parts in
    let fields = c.fields_of-fields.ensures in
    no_number conf shape (as_shape conf shape same c.requires.conf) reader items list c.args.item e (as_agrees conf shape same reader items list agrees) paired
    c.fields_of-fields.result.first c.fields_of-fields.result.length fields.first fields.bytes c.if-fields-ne8.true

pub overflow_mul-fields : goal.overflow_mul-fields
overflow_mul-fields c =
    let conf = c.args.conf.now in
    let shape = c.shape_of-shape.result in
    let reader = seen c.args.over.now c.args.ram.now in
    let fields = c.fields_of-fields.ensures in
    let same = c.shape_of-shape.ensures.parts in
    let of = as_shape conf shape same c.requires.conf in
    let below =
    block_below conf shape of reader c.args.item c.fields_of-fields.result.first c.fields_of-fields.result.length (as_used conf shape same reader c.args.item c.requires.used) fields.first
    fields.bytes in
    omega (arith, below, of.is.within)

pub overflow_add-shape : goal.overflow_add-shape
overflow_add-shape c =
    let conf = c.args.conf.now in
    let shape = c.shape_of-shape.result in
    let reader = seen c.args.over.now c.args.ram.now in
    let fields = c.fields_of-fields.ensures in
    let same = c.shape_of-shape.ensures.parts in
    let of = as_shape conf shape same c.requires.conf in
    let below =
    block_below conf shape of reader c.args.item c.fields_of-fields.result.first c.fields_of-fields.result.length (as_used conf shape same reader c.args.item c.requires.used) fields.first
    fields.bytes in
    omega (arith, below, of.is.within)

pub load-word-requires : goal.load-word-requires
load-word-requires c =
    let conf = c.args.conf.now in
    let shape = c.shape_of-shape.result in
    let reader = seen c.args.over.now c.args.ram.now in
    let fields = c.fields_of-fields.ensures in
    let same = c.shape_of-shape.ensures.parts in
    let of = as_shape conf shape same c.requires.conf in
    let below =
    block_below conf shape of reader c.args.item c.fields_of-fields.result.first c.fields_of-fields.result.length (as_used conf shape same reader c.args.item c.requires.used) fields.first
    fields.bytes in
    omega (arith, below, c.requires.region, c.shape_of-shape.ensures.words)

pub returns : goal.returns
returns c = λ items list e agrees paired.
    let conf = c.args.conf.now in
    let shape = c.shape_of-shape.result in
    let reader = seen c.args.over.now c.args.ram.now in
    let same = c.shape_of-shape.ensures.parts in
    let fields = c.fields_of-fields.ensures in
    let word = c.load-word.result in
    let signed : to_z w64 (of_z w64 c.cast_signed.result) ≡ cast_signed w64 word = to_z-of_z w64 c.cast_signed.result (search rules) ∙ c.cast_signed.ensures in
    ap (λ (n : ℤ). Some n) signed
    ∙ some_number conf shape (as_shape conf shape same c.requires.conf) reader items list c.args.item e (as_agrees conf shape same reader items list agrees) paired
    c.fields_of-fields.result.first c.fields_of-fields.result.length fields.first fields.bytes word c.if-fields-ne8.false c.load-word.ensures
