use Rattle.std.proofs.Common.{◌≡◌, sym, ◌∙◌}
use Rattle.uw_base.specs.declared.variables.Pair.{Pair}
use Rattle.uw_chain.proofs.TaskLemmas.{with_variable, without_body}
use Rattle.uw_chain.proofs.spooling.vars_of_task.Goals as goal
use Rattle.uw_chain.proofs.spooling.vars_of_task.Goals.{then-not-is+in_ok-set, else-not-is}

pub loop-place-preserved : goal.loop-place-preserved
loop-place-preserved c =
    let pair : Pair = record { key = c.pair.result.0.now; value = c.pair.result.1.now } in
    elim c.if-not-is.branch [
      | then-not-is+in_ok-set w ↦
          with_variable c.args.pairs.now c.loop-place.vars c.if-not-is.vars c.loop-place.place pair c.pair.ensures (sym c.is.ensures ∙ w.if-not-is.true) (w.vars-is ∙ w.in_ok-set.ensures.ok)
          c.loop-place.invariant
      | else-not-is w ↦ rw w.vars-is (without_body c.args.pairs.now c.loop-place.vars c.loop-place.place pair c.pair.ensures (sym c.is.ensures ∙ w.if-not-is.false) c.loop-place.invariant)
    ]
