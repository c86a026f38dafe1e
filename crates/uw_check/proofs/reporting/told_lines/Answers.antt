use Rattle.std.proofs.Common.{ℕ, ◌+◌, List, take, sym, subst, arith}
use Rattle.uw_check.specs.Reports.{TellsEach}
use Rattle.uw_check.proofs.ReportLemmas.{told_next}
use Rattle.uw_check.proofs.reporting.told_lines.Goals as goal

pub loop-fault-preserved : goal.loop-fault-preserved
loop-fault-preserved c =
    let place = c.loop-fault.fault-index in
    subst (λ (text : List ℕ). TellsEach c.args.path.now (take (place + 1) c.args.told.now) text) (sym c.in_ok-put_fault.ensures)
    (told_next c.args.path.now c.args.told.now place _ c.loop-fault.out c.as_slice.result.now (omega arith) c.loop-fault.invariant)
