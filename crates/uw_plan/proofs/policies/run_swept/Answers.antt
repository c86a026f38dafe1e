use Rattle.std.proofs.Common.{Bool, List, ◌&&◌, ◌∙◌, sym, ap, subst}
use Rattle.std.proofs.lemmas.Bool.{cond-false, cond-true}
use Rattle.uw_model.specs.declared.entries.Entry.{Entry}
use Rattle.uw_model.specs.Placement.{alive_of, fits}
use Rattle.uw_plan.specs.CallSteps.{Leaves}
use Rattle.uw_plan.proofs.OneByOne.{leaves_none}
use Rattle.uw_plan.proofs.policies.run_swept.Goals as goal

pub returns-then-not-conf-clause-list : goal.returns-then-not-conf-clause-list
returns-then-not-conf-clause-list c = λ items list agrees.
    let conf = c.args.conf.now in
    let old = c.args.over.now in
    subst (λ (l : List Entry). Leaves conf c.args.ram.now old old list l) (sym (cond-false conf.sweep_on_full (alive_of conf c.args.moment list) list c.if-not-conf.true))
    (leaves_none conf c.requires.conf c.args.ram.now old items list agrees)

pub free_run-requires-clause-some : goal.free_run-requires-clause-some
free_run-requires-clause-some c =
    let some = c.requires.some in
    let left = c.sweep.ensures.list some.0 some.1 some.2 in
    (left.items, alive_of c.args.conf.now c.args.moment some.1, left.agrees)

pub returns-clause-list : goal.returns-clause-list
returns-clause-list c = λ items list agrees.
    let conf = c.args.conf.now in
    subst (λ (l : List Entry). Leaves conf c.args.ram.now c.args.over.now c.sweep.new.over list l)
    (sym (cond-true conf.sweep_on_full (alive_of conf c.args.moment list) list c.if-not-conf.false))
    (c.sweep.ensures.list items list agrees)

pub returns-clause-fits : goal.returns-clause-fits
returns-clause-fits c = λ items list agrees.
    let conf = c.args.conf.now in
    let left = c.sweep.ensures.list items list agrees in
    let alive = alive_of conf c.args.moment list in
    c.free_run.ensures.fits left.items alive left.agrees ∙ sym (ap (λ (b : Bool). b && fits conf alive c.args.n) c.if-not-conf.false)

pub returns-clause-run : goal.returns-clause-run
returns-clause-run c = λ items list agrees.
    let left = c.sweep.ensures.list items list agrees in
    c.free_run.ensures.run left.items (alive_of c.args.conf.now c.args.moment list) left.agrees
