use Rattle.std.proofs.Common.{arith}
use Rattle.std.specs.Int.{w64}
use Rattle.std.proofs.lemmas.Nat.Bits.{bit_at_not, bit_at-lt}
use Rattle.uw_bitmap.proofs.bits.next_zero.Goals as goal

pub returns-clause-ones : goal.returns-clause-ones
returns-clause-ones c = λ i behind before.
    omega (arith, c.next_one.ensures.zeros i behind before, bit_at_not w64 c.args.word i (omega arith) (omega (arith, c.next_one.ensures.within)), bit_at-lt c.args.word i)

pub returns-clause-zero : goal.returns-clause-zero
returns-clause-zero c = λ within.
    omega (arith, c.next_one.ensures.one within, bit_at_not w64 c.args.word c.next_one.result (omega arith) within, bit_at-lt c.args.word c.next_one.result)
