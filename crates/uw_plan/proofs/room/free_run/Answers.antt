use Rattle.std.proofs.Common.{◌≡◌, ℕ, ◌+◌, None, IfSome, ap, ◌∙◌, subst, arith}
use Rattle.uw_words.specs.declared.shape.Shape.{Shape}
use Rattle.uw_words.specs.Parts.{seen}
use Rattle.uw_bitmap.specs.Bits.{IsFreeRun, IsLeastFreeRun, is_marked}
use Rattle.uw_plan.proofs.Running.{found_fits, found_run, full_fits}
use Rattle.uw_plan.proofs.room.free_run.Goals as goal

pub returns-then-load-shape-clause-fits : goal.returns-then-load-shape-clause-fits
returns-then-load-shape-clause-fits c items list agrees =
    let reader : ℕ → ℕ = seen c.args.over.now c.args.ram.now in
    let shape = c.shape_of-shape in
    let place : shape.result.head + 9 ≡ 9 = omega (arith, shape.ensures.shape.head) in
    let read : c.load.result ≡ reader 9 = c.load.ensures ∙ ap reader place in
    let all : shape.result.n_items ≡ c.args.conf.now.items = ap (λ (s : Shape). s.n_items) shape.ensures.parts in
    full_fits reader c.args.conf.now items list agrees c.args.n (omega (arith, c.if-load-shape.true, read, all))

pub returns-clause-fits : goal.returns-clause-fits
returns-clause-fits c items list agrees =
    let reader : ℕ → ℕ = seen c.args.over.now c.args.ram.now in
    let shape = c.shape_of-shape in
    let place : shape.result.head + 9 ≡ 9 = omega (arith, shape.ensures.shape.head) in
    let read : c.load.result ≡ reader 9 = c.load.ensures ∙ ap reader place in
    let all : shape.result.n_items ≡ c.args.conf.now.items = ap (λ (s : Shape). s.n_items) shape.ensures.parts in
    found_fits reader c.args.conf.now items list agrees c.args.n c.requires.n c.first_run.result
    (subst (λ (s : Shape). IfSome c.first_run.result (λ first. IsLeastFreeRun (is_marked reader s) s.n_blocks first c.args.n)) shape.ensures.parts c.first_run.ensures.some)
    (subst (λ (s : Shape). c.first_run.result ≡ None → (first : ℕ) → IsFreeRun (is_marked reader s) s.n_blocks first c.args.n → ⊥) shape.ensures.parts c.first_run.ensures.none)
    (omega (arith, c.if-load-shape.false, read, all))

pub returns-clause-run : goal.returns-clause-run
returns-clause-run c items list agrees =
    let reader : ℕ → ℕ = seen c.args.over.now c.args.ram.now in
    let shape = c.shape_of-shape in
    found_run reader c.args.conf.now items list agrees c.args.n c.requires.n c.first_run.result
    (subst (λ (s : Shape). IfSome c.first_run.result (λ first. IsLeastFreeRun (is_marked reader s) s.n_blocks first c.args.n)) shape.ensures.parts c.first_run.ensures.some)
    (subst (λ (s : Shape). c.first_run.result ≡ None → (first : ℕ) → IsFreeRun (is_marked reader s) s.n_blocks first c.args.n → ⊥) shape.ensures.parts c.first_run.ensures.none)
