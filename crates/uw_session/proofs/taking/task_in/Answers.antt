use Rattle.std.proofs.Common.{arith}
use Rattle.uw_cachecmd.proofs.Lengths.{are_bytes}
use Rattle.uw_session.proofs.TakingLemmas.{pairs_have_block}
use Rattle.uw_session.proofs.taking.task_in.Goals as goal

pub returns-in_ok-vars-in-Ok-clause-answerable : goal.returns-in_ok-vars-in-Ok-clause-answerable
returns-in_ok-vars-in-Ok-clause-answerable c = λ parts.
    let block = c.args.block.now in
    c.in_ok-vars-in-Ok.ensures.2 (pairs_have_block block c.in-Ok.pairs (are_bytes block (λ i. omega (arith, c.type_inv.block i))) c.requires.short c.in-Ok.ensures)
