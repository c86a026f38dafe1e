use Rattle.std.proofs.Common.{◌≡◌, ℕ, ◌+◌, None, IfSome, sym, ap, ◌∙◌, subst, arith}
use Rattle.uw_words.specs.declared.shape.Shape.{Shape}
use Rattle.uw_words.specs.Parts.{seen}
use Rattle.uw_words.specs.Numbers.{without_number}
use Rattle.uw_model.specs.Calls.{without}
use Rattle.uw_bitmap.specs.Bits.{IsFreeRun, IsLeastFreeRun, is_marked}
use Rattle.uw_plan.proofs.Dropping.{as_shape, as_used, used_short}
use Rattle.uw_plan.proofs.Freed.{freed, freed_alone, freed_fewer, freed_some, freed_within}
use Rattle.uw_plan.proofs.Running.{found_fits, found_run}
use Rattle.uw_plan.proofs.policies.run_after.Goals as goal

pub fields_of-fields-requires-clause-region : goal.fields_of-fields-requires-clause-region
fields_of-fields-requires-clause-region c = c.requires.region ∙ sym c.shape_of-shape.ensures.words

pub fields_of-fields-requires-clause-item : goal.fields_of-fields-requires-clause-item
fields_of-fields-requires-clause-item c =
    let conf = c.args.conf.now in
    let shape = c.shape_of-shape.result in
    let old = seen c.args.over.now c.args.ram.now in
    let same = c.shape_of-shape.ensures.parts in
    let used = c.requires.used in
    used_short conf shape (as_shape conf shape same c.requires.conf) old c.args.item
    (as_used conf shape same old c.args.item (used.0, used.1, used.2, (used.3.0, used.3.1)))

pub drop_entry-requires-clause-used : goal.drop_entry-requires-clause-used
drop_entry-requires-clause-used c = let used = c.requires.used in (used.0, used.1, used.2, (used.3.0, used.3.1))

pub free_run-requires-clause-some : goal.free_run-requires-clause-some
free_run-requires-clause-some c =
    let used = c.requires.used in (
      without_number used.0 c.args.item,
      without used.2.key used.1,
      c.drop_entry.ensures.list used.0 used.1 used.2 used.3.0 used.3.1,
    )

pub run_near-requires-clause-len : goal.run_near-requires-clause-len
run_near-requires-clause-len c = c.requires.region ∙ sym c.shape_of-shape.ensures.words

pub run_near-requires-clause-some : goal.run_near-requires-clause-some
run_near-requires-clause-some c =
    let used = c.requires.used in
    freed_some c.args.conf.now c.requires.conf c.shape_of-shape.result c.shape_of-shape.ensures.parts (seen c.args.over.now c.args.ram.now)
    (seen c.drop_entry.new.over c.args.ram.now) used.0 used.1 c.args.item used.2 used.3.0 used.3.1
    (c.drop_entry.ensures.list used.0 used.1 used.2 used.3.0 used.3.1) c.fields_of-fields.result c.fields_of-fields.ensures c.span_of-m.result c.span_of-m.ensures

pub run_near-requires-clause-within : goal.run_near-requires-clause-within
run_near-requires-clause-within c =
    let used = c.requires.used in
    freed_within c.args.conf.now c.requires.conf c.shape_of-shape.result c.shape_of-shape.ensures.parts (seen c.args.over.now c.args.ram.now)
    (seen c.drop_entry.new.over c.args.ram.now) used.0 used.1 c.args.item used.2 used.3.0 used.3.1
    (c.drop_entry.ensures.list used.0 used.1 used.2 used.3.0 used.3.1) c.fields_of-fields.result c.fields_of-fields.ensures c.span_of-m.result c.span_of-m.ensures

pub run_near-requires-clause-freed : goal.run_near-requires-clause-freed
run_near-requires-clause-freed c =
    let used = c.requires.used in
    freed c.args.conf.now c.requires.conf c.shape_of-shape.result c.shape_of-shape.ensures.parts (seen c.args.over.now c.args.ram.now)
    (seen c.drop_entry.new.over c.args.ram.now) used.0 used.1 c.args.item used.2 used.3.0 used.3.1
    (c.drop_entry.ensures.list used.0 used.1 used.2 used.3.0 used.3.1) c.fields_of-fields.result c.fields_of-fields.ensures c.span_of-m.result c.span_of-m.ensures

pub run_near-requires-clause-none : goal.run_near-requires-clause-none
run_near-requires-clause-none c =
    let conf = c.args.conf.now in
    let old : ℕ → ℕ = seen c.args.over.now c.args.ram.now in
    let shape = c.shape_of-shape in
    let place : shape.result.head + 9 ≡ 9 = omega (arith, shape.ensures.shape.head) in
    let read : c.load.result ≡ old 9 = c.load.ensures ∙ ap old place in
    let all : shape.result.n_items ≡ conf.items = ap (λ (s : Shape). s.n_items) shape.ensures.parts in
    let used = c.requires.used in
    freed_alone conf c.requires.conf shape.result shape.ensures.parts old
    (seen c.drop_entry.new.over c.args.ram.now) used.0 used.1 c.args.item used.2 used.3.0 used.3.1
    (c.drop_entry.ensures.list used.0 used.1 used.2 used.3.0 used.3.1) c.fields_of-fields.result c.fields_of-fields.ensures c.span_of-m.result c.span_of-m.ensures
    c.args.n c.requires.n (omega (arith, c.if-all_used.false, read, all)) used.3.2

pub returns-clause-fits : goal.returns-clause-fits
returns-clause-fits c items list agrees =
    let reader : ℕ → ℕ = seen c.drop_entry.new.over c.args.ram.now in
    let shape = c.shape_of-shape in
    let used = c.requires.used in
    let fewer =
    freed_fewer c.args.conf.now c.requires.conf shape.result shape.ensures.parts (seen c.args.over.now c.args.ram.now) reader used.0 used.1 c.args.item used.2 used.3.0 used.3.1
    (c.drop_entry.ensures.list used.0 used.1 used.2 used.3.0 used.3.1) c.fields_of-fields.result c.fields_of-fields.ensures c.span_of-m.result c.span_of-m.ensures in
    found_fits reader c.args.conf.now items list agrees c.args.n c.requires.n c.run_near.result
    (subst (λ (s : Shape). IfSome c.run_near.result (λ first. IsLeastFreeRun (is_marked reader s) s.n_blocks first c.args.n)) shape.ensures.parts c.run_near.ensures.some)
    (subst (λ (s : Shape). c.run_near.result ≡ None → (first : ℕ) → IsFreeRun (is_marked reader s) s.n_blocks first c.args.n → ⊥) shape.ensures.parts c.run_near.ensures.none)
    fewer

pub returns-clause-run : goal.returns-clause-run
returns-clause-run c items list agrees =
    let reader : ℕ → ℕ = seen c.drop_entry.new.over c.args.ram.now in
    let shape = c.shape_of-shape in
    found_run reader c.args.conf.now items list agrees c.args.n c.requires.n c.run_near.result
    (subst (λ (s : Shape). IfSome c.run_near.result (λ first. IsLeastFreeRun (is_marked reader s) s.n_blocks first c.args.n)) shape.ensures.parts c.run_near.ensures.some)
    (subst (λ (s : Shape). c.run_near.result ≡ None → (first : ℕ) → IsFreeRun (is_marked reader s) s.n_blocks first c.args.n → ⊥) shape.ensures.parts c.run_near.ensures.none)
