use Rattle.std.proofs.Common.{refl, arith}
use Rattle.uw_reply.proofs.LineLemmas.{count_head}
use Rattle.uw_reply.proofs.laws.lines_are_counted.Goals as goal

pub returns-clause-feeds : goal.returns-clause-feeds
returns-clause-feeds c = λ reply. omega (arith, count_head 10 1 reply refl refl refl)

pub returns-clause-returns : goal.returns-clause-returns
returns-clause-returns c = λ reply. omega (arith, count_head 13 1 reply refl refl refl)

pub returns-clause-zeros : goal.returns-clause-zeros
returns-clause-zeros c = λ reply. omega (arith, count_head 0 0 reply refl refl refl)
