use Rattle.std.proofs.Common.{◌∙◌}
use Rattle.uw_chain.proofs.TaskLemmas.{task_has_block}
use Rattle.uw_chain.proofs.spooling.task_of.Goals as goal

pub returns : goal.returns
returns c = (
  c.in_ok-vars.ensures,
  c.in_ok-body.ensures ∙ c.get.ensures,
  task_has_block c.args.pairs.now c.in_ok-vars.vars c.in_ok-vars.ensures,
)
