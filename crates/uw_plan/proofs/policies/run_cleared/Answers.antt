use Rattle.std.proofs.Common.{[], ◌∙◌, sym}
use Rattle.uw_plan.proofs.Roomy.{run_when_empty}
use Rattle.uw_plan.proofs.policies.run_cleared.Goals as goal

pub free_run-requires-clause-some : goal.free_run-requires-clause-some
free_run-requires-clause-some c =
    let some = c.requires.some in
    let left = c.clear.ensures.list some.0 some.1 some.2 in
    (left.items, [], left.agrees)

pub returns-clause-room : goal.returns-clause-room
returns-clause-room c = let some = c.requires.some in (c.clear.ensures.list some.0 some.1 some.2).costs.room

pub returns-clause-list : goal.returns-clause-list
returns-clause-list c = λ items list agrees.
    let left = c.clear.ensures.list items list agrees in
    let run =
    run_when_empty c.args.conf.now c.requires.conf c.args.n c.free_run.result (c.free_run.ensures.fits left.items [] left.agrees) (c.free_run.ensures.run left.items [] left.agrees) in
    (c.if-not-conf.false, run ∙ sym c.unwrap_or.ensures, left)
