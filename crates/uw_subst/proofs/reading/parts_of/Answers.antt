use Rattle.uw_subst.proofs.PartLemmas.{read_none, read_all}
use Rattle.uw_subst.proofs.reading.parts_of.Goals as goal

pub loop-at-init : goal.loop-at-init
loop-at-init c = rw c.new-parts.ensures.items (read_none c.args.text.now)

pub returns-clause-parts : goal.returns-clause-parts
returns-clause-parts c = read_all c.args.text.now c.loop-at.parts.items c.loop-at.at c.loop-at-test.false c.loop-at.invariant
