use Rattle.std.proofs.Common.{sym, ◌∙◌, arith}
use Rattle.uw_words.specs.Parts.{seen}
use Rattle.uw_bitmap.specs.Bits.{is_marked}
use Rattle.uw_plan.proofs.Nearby.{more_before, none_free}
use Rattle.uw_plan.proofs.near.free_back.Goals as goal

pub loop-start-init : goal.loop-start-init
loop-start-init c = (omega arith, none_free (is_marked (seen c.args.over.now c.args.ram.now) c.args.shape.now) c.args.first)

pub is_marked-requires-clause-within : goal.is_marked-requires-clause-within
is_marked-requires-clause-within c = omega (arith, c.loop-start.invariant.0, c.loop-start-test.true, c.requires.within)

pub returns-then-is_marked-clause-before : goal.returns-then-is_marked-clause-before
returns-then-is_marked-clause-before c = c.loop-start.invariant.0

pub returns-then-is_marked-clause-free : goal.returns-then-is_marked-clause-free
returns-then-is_marked-clause-free c = c.loop-start.invariant.1

pub returns-then-is_marked-clause-taken : goal.returns-then-is_marked-clause-taken
returns-then-is_marked-clause-taken c = λ some. sym c.is_marked.ensures ∙ c.if-is_marked.true

pub loop-start-preserved : goal.loop-start-preserved
loop-start-preserved c = (
  omega (arith, c.loop-start.invariant.0),
  more_before (is_marked (seen c.args.over.now c.args.ram.now) c.args.shape.now) c.loop-start.start c.args.first
      (sym c.is_marked.ensures ∙ c.if-is_marked.false) c.loop-start.invariant.1,
)

pub returns-clause-free : goal.returns-clause-free
returns-clause-free c = λ block from below. c.loop-start.invariant.1 block (omega (arith, c.loop-start-test.false)) below
