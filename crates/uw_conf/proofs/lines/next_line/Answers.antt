use Rattle.uw_conf.proofs.TextLemmas.{lines_first}
use Rattle.uw_conf.proofs.lines.next_line.Goals as goal

pub returns-in-Some-clause-line : goal.returns-in-Some-clause-line
returns-in-Some-clause-line c =
    rw c.without_return.ensures (lines_first c.args.text.now c.cut.result.0.now c.in-Some.rest.now (rw c.in-Some.is at c.cut.ensures.parts))
