use Rattle.uw_chain.specs.Actions.{filled_pairs}
use Rattle.uw_chain.specs.Tests.{filled_within}
use Rattle.uw_chain.proofs.TaskLemmas.{behind_none}
use Rattle.uw_chain.proofs.wanting.filled_pairs.Goals as goal

pub loop-pair-init : goal.loop-pair-init
loop-pair-init c =
    rw c.new-filled.ensures
    (behind_none (filled_pairs (λ one. filled_within one c.args.request.now.vars c.args.captures.now c.args.moment) c.args.pairs.now))
