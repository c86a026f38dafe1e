use Rattle.std.proofs.Common.{arith}
use Rattle.std.proofs.lemmas.Nat.{one_shl}
use Rattle.uw_bitmap.proofs.WordBits.{ones_left, ones_between}
use Rattle.uw_bitmap.proofs.bits.mask.Goals as goal

pub overflow_sub-result-3 : goal.overflow_sub-result-3
overflow_sub-result-3 c = omega (arith, one_shl c.args.from 64 (omega (arith, c.requires)), ones_left c.args.to (omega (arith, c.requires)), ones_between c.args.from c.args.to c.requires.0)

pub returns : goal.returns
returns c = omega (arith, one_shl c.args.from 64 (omega (arith, c.requires)), ones_left c.args.to (omega (arith, c.requires)), ones_between c.args.from c.args.to c.requires.0)
