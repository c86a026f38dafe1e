use Rattle.std.proofs.Common.{ℕ, ◌<◌, sym, ap, arith, inl, inr}
use Rattle.std.specs.Int.{bit_at}
use Rattle.std.proofs.lemmas.Bool.{cases_eq}
use Rattle.uw_words.specs.Parts.{seen}
use Rattle.uw_bitmap.specs.Bits.{is_marked}
use Rattle.uw_bitmap.proofs.Searches.{none_within, none_left}
use Rattle.uw_bitmap.proofs.Steps.{few_blocks, over_full_words, over_marked_bits, at_enough}
use Rattle.uw_bitmap.proofs.search.first_run.Goals as goal
use Rattle.uw_bitmap.proofs.search.first_run.Goals.{After-next_zero}

-- the bit at which the ones begin is one
more : (c : After-next_zero) → c.next_one-marked.result < c.next_zero.result
more c = elim (cases_eq c.next_zero.result c.next_one-marked.result) [
  | inl same ↦ absurd (omega (arith, ap (λ (i : ℕ). bit_at c.load-word.result i) same, c.next_zero.ensures.zero (omega (arith, same, c.if-marked-lt-BITS.true)), c.next_one-marked.ensures.one c.if-marked-lt-BITS.true))
  | inr other ↦ omega (arith, c.next_zero.ensures.from, other)
]

pub loop-at-preserved-then-word : goal.loop-at-preserved-then-word
loop-at-preserved-then-word c = over_full_words (seen c.args.over.now c.args.ram.now) c.args.shape.now c.args.n c.loop-at.start c.loop-at.at c.load-word.result (omega (arith, c.if-n-eq0.false)) (sym c.load-word.ensures) c.loop-at.invariant
    c.behind_full-at.result c.if-word.true c.behind_full-at.ensures.from c.behind_full-at.ensures.full

pub overflow_add-at : goal.overflow_add-at
overflow_add-at c = record { fits = omega (arith, few_blocks c.args.shape.now c.requires.shape, c.loop-at-test.true, c.next_one-marked.ensures.within) }

pub overflow_add-at-then-marked-lt-BITS : goal.overflow_add-at-then-marked-lt-BITS
overflow_add-at-then-marked-lt-BITS c = record { fits = omega (arith, few_blocks c.args.shape.now c.requires.shape, c.loop-at-test.true, c.next_zero.ensures.within) }

pub loop-at-preserved-then-marked-lt-BITS : goal.loop-at-preserved-then-marked-lt-BITS
loop-at-preserved-then-marked-lt-BITS c = over_marked_bits (seen c.args.over.now c.args.ram.now) c.args.shape.now c.args.n c.loop-at.start c.loop-at.at c.load-word.result (omega (arith, c.if-n-eq0.false)) (sym c.load-word.ensures) c.loop-at.invariant
    c.next_one-marked.result c.next_zero.result c.next_one-marked.ensures.from (more c) c.next_zero.ensures.within c.next_one-marked.ensures.zeros (omega (arith, c.if-n-at.false)) c.next_zero.ensures.ones

pub returns-then-shape-start-clause-none : goal.returns-then-shape-start-clause-none
returns-then-shape-start-clause-none c = λ none first run. none_within (is_marked (seen c.args.over.now c.args.ram.now) c.args.shape.now) c.args.n c.args.shape.now.n_blocks c.loop-at.start c.loop-at.at first c.loop-at.invariant (omega arith) run

pub returns-then-n-at-clause-some : goal.returns-then-n-at-clause-some
returns-then-n-at-clause-some c = at_enough (seen c.args.over.now c.args.ram.now) c.args.shape.now c.args.n c.loop-at.start c.loop-at.at c.load-word.result (omega (arith, c.if-n-eq0.false)) (sym c.load-word.ensures) c.loop-at.invariant
    c.next_one-marked.result c.next_one-marked.ensures.from c.next_one-marked.ensures.within c.next_one-marked.ensures.zeros (omega (arith, c.if-n-at.true)) (omega arith)

pub returns-clause-none : goal.returns-clause-none
returns-clause-none c = λ none first run. none_left (is_marked (seen c.args.over.now c.args.ram.now) c.args.shape.now) c.args.n c.args.shape.now.n_blocks c.loop-at.start c.loop-at.at first c.loop-at.invariant (omega (arith, c.loop-at-test.false)) run
