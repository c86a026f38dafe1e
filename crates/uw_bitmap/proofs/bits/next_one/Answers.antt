use Rattle.std.proofs.Common.{ℕ, ◌+◌, sym, subst, arith}
use Rattle.uw_bitmap.proofs.WordBits.{IsFirstOne, first_one, none_from}
use Rattle.uw_bitmap.proofs.bits.next_one.Goals as goal
use Rattle.uw_bitmap.proofs.bits.next_one.Goals.{After-from}

first : (c : After-from) → IsFirstOne c.args.word c.args.from (c.args.from + c.from.result)
first c = subst (λ (t : ℕ). IsFirstOne c.args.word c.args.from (c.args.from + t)) (sym c.from.ensures)
    (first_one c.args.word c.args.from (omega arith) (omega (arith, c.if-rest-eq0.false)))

pub returns-then-rest-eq0-clause-zeros : goal.returns-then-rest-eq0-clause-zeros
returns-then-rest-eq0-clause-zeros c = λ i behind within. none_from c.args.word c.args.from i c.if-rest-eq0.true behind

pub returns-clause-within : goal.returns-clause-within
returns-clause-within c = omega (arith, (first c).within)

pub returns-clause-zeros : goal.returns-clause-zeros
returns-clause-zeros c = (first c).before

pub returns-clause-one : goal.returns-clause-one
returns-clause-one c = λ within. (first c).is
