use Rattle.std.proofs.Common.{sym, ◌∙◌, arith}
use Rattle.uw_base.proofs.VariableLemmas.{value_of-before, value_of-here}
use Rattle.uw_base.proofs.variables.Vars.get.Goals as goal

pub returns-then-eq : goal.returns-then-eq
returns-then-eq c =
    value_of-here c.args.self.now c.args.key.now c.loop-place.place _ (omega arith) (omega arith) c.pair-pair.ensures (sym c.eq.ensures ∙ c.if-eq.true) c.loop-place.invariant

pub loop-place-preserved : goal.loop-place-preserved
loop-place-preserved c =
    value_of-before c.args.self.now c.args.key.now c.loop-place.place _ (omega arith) (omega arith) c.pair-pair.ensures (sym c.eq.ensures ∙ c.if-eq.false) c.loop-place.invariant
