use Rattle.std.proofs.Common.{inl, inr, ◌+◌, sym, ◌∙◌, arith}
use Rattle.std.proofs.lemmas.Option.{none-some}
use Rattle.uw_words.specs.Parts.{seen}
use Rattle.uw_bitmap.specs.Bits.{is_marked}
use Rattle.uw_bitmap.proofs.Steps.{few_blocks}
use Rattle.uw_plan.proofs.Nearby.{joined, more_behind, near_found, near_none}
use Rattle.uw_plan.proofs.near.run_near.Goals as goal
use Rattle.uw_plan.proofs.near.run_near.Goals.{then-end-shape-via-then-end-shape, then-end-shape-via-else-end-shape+then-is_marked}

pub overflow_add-end : goal.overflow_add-end
overflow_add-end c = record { fits = omega (arith, few_blocks c.args.shape.now c.requires.shape, c.requires.within) }

pub loop-end-init : goal.loop-end-init
loop-end-init c = (
  omega arith,
  c.requires.within,
  joined (is_marked (seen c.args.over.now c.args.ram.now) c.args.shape.now) c.free_back-start.result c.args.first (c.args.first + c.args.m)
      c.free_back-start.ensures.free c.requires.freed,
)

pub overflow_sub-end : goal.overflow_sub-end
overflow_sub-end c = omega (arith, c.free_back-start.ensures.before, c.loop-end.invariant.0)

pub is_marked-requires-clause-within : goal.is_marked-requires-clause-within
is_marked-requires-clause-within c = omega (arith, c.loop-end.invariant.1, c.if-end-shape.false)

pub returns-then-end-shape-clause-none : goal.returns-then-end-shape-clause-none
returns-then-end-shape-clause-none c = λ same.
    near_none (is_marked (seen c.args.over.now c.args.ram.now) c.args.shape.now) c.args.shape.now.n_blocks c.args.first c.args.m c.args.n c.requires.none
    c.free_back-start.result c.loop-end.end c.free_back-start.ensures.before c.loop-end.invariant.0 c.loop-end.invariant.1 c.free_back-start.ensures.taken
    c.loop-end-test.true
    (elim c.then-end-shape.branch [
      | then-end-shape-via-then-end-shape w ↦ inl w.if-end-shape.true
      | then-end-shape-via-else-end-shape+then-is_marked w ↦ inr (sym w.is_marked.ensures ∙ w.if-is_marked.true)
    ])

pub overflow_add-end-in-loop-end : goal.overflow_add-end-in-loop-end
overflow_add-end-in-loop-end c = record { fits = omega (arith, few_blocks c.args.shape.now c.requires.shape, c.loop-end.invariant.1) }

pub loop-end-smaller : goal.loop-end-smaller
loop-end-smaller c = omega (arith, c.loop-end.invariant.1, c.if-end-shape.false)

pub loop-end-preserved : goal.loop-end-preserved
loop-end-preserved c = (
  omega (arith, c.loop-end.invariant.0),
  omega (arith, c.loop-end.invariant.1, c.if-end-shape.false),
  more_behind (is_marked (seen c.args.over.now c.args.ram.now) c.args.shape.now) c.free_back-start.result c.loop-end.end
      (sym c.is_marked.ensures ∙ c.if-is_marked.false) c.loop-end.invariant.2,
)

pub returns-clause-some : goal.returns-clause-some
returns-clause-some c =
    near_found (is_marked (seen c.args.over.now c.args.ram.now) c.args.shape.now) c.args.shape.now.n_blocks c.args.first c.args.m c.args.n c.requires.none
    c.free_back-start.result c.loop-end.end c.free_back-start.ensures.before c.loop-end.invariant.0 c.loop-end.invariant.1 c.free_back-start.ensures.taken
    c.loop-end.invariant.2 (omega (arith, c.loop-end-test.false))

pub returns-clause-none : goal.returns-clause-none
returns-clause-none c = λ same. absurd (none-some c.free_back-start.result (sym same))
