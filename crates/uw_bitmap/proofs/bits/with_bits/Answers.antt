use Rattle.std.proofs.Common.{ℕ, bit_and, bit_or, ◌==◌, sym, ap, ◌∙◌, arith}
use Rattle.std.specs.Int.{bit_at, bit_not, w64}
use Rattle.uw_bitmap.proofs.WordBits.{or_inside, or_before, or_after, and_inside, and_before, and_after}
use Rattle.uw_bitmap.proofs.bits.with_bits.Goals as goal

pub returns-then-value-clause-inside : goal.returns-then-value-clause-inside
returns-then-value-clause-inside c = λ i behind before.
    ap (λ (b : ℕ). b == 1) (ap (λ (m : ℕ). bit_at (bit_or c.args.word m) i) c.mask-bits.ensures ∙ or_inside c.args.word c.args.from c.args.to i behind before) ∙ sym c.if-value.true

pub returns-then-value-clause-before : goal.returns-then-value-clause-before
returns-then-value-clause-before c = λ i before. ap (λ (m : ℕ). bit_at (bit_or c.args.word m) i) c.mask-bits.ensures ∙ or_before c.args.word c.args.from c.args.to i before

pub returns-then-value-clause-after : goal.returns-then-value-clause-after
returns-then-value-clause-after c = λ i after low. ap (λ (m : ℕ). bit_at (bit_or c.args.word m) i) c.mask-bits.ensures ∙ or_after c.args.word c.args.from c.args.to i after

pub returns-else-value-clause-inside : goal.returns-else-value-clause-inside
returns-else-value-clause-inside c = λ i behind before.
    ap (λ (b : ℕ). b == 1) (ap (λ (m : ℕ). bit_at (bit_and c.args.word (bit_not w64 m)) i) c.mask-bits.ensures
    ∙ and_inside c.args.word c.args.from c.args.to i (omega (arith, c.requires)) (omega (arith, c.mask-bits.ensures)) behind before) ∙ sym c.if-value.false

pub returns-else-value-clause-before : goal.returns-else-value-clause-before
returns-else-value-clause-before c = λ i before. ap (λ (m : ℕ). bit_at (bit_and c.args.word (bit_not w64 m)) i) c.mask-bits.ensures
    ∙ and_before c.args.word c.args.from c.args.to i (omega (arith, c.requires)) (omega (arith, c.mask-bits.ensures)) before

pub returns-else-value-clause-after : goal.returns-else-value-clause-after
returns-else-value-clause-after c = λ i after low. ap (λ (m : ℕ). bit_at (bit_and c.args.word (bit_not w64 m)) i) c.mask-bits.ensures
    ∙ and_after c.args.word c.args.from c.args.to i low (omega (arith, c.mask-bits.ensures)) after
