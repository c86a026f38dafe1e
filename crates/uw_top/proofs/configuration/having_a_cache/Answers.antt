use Rattle.std.proofs.Common.{inr, refl, arith}
use Rattle.uw_top.proofs.configuration.having_a_cache.Goals as goal

pub returns-then-len-eq0-clause-gives : goal.returns-then-len-eq0-clause-gives
returns-then-len-eq0-clause-gives c = λ before after text said. inr (c.args.conf, said, omega (arith, c.len.ensures, c.if-len-eq0.true), refl)
