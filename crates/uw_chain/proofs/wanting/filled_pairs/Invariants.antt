use Rattle.std.proofs.Common.{◌≡◌, drop}
use Rattle.uw_chain.specs.Actions.{filled_pairs}
use Rattle.uw_chain.specs.RoutingSteps.{behind_pairs}
use Rattle.uw_chain.specs.Tests.{filled_within}
use Rattle.uw_chain.proofs.wanting.filled_pairs.Given as goal

-- the pairs so far and the other ones, if each has a text, are all of them
abbrev pub invariant-loop-pair : goal.invariant-loop-pair
invariant-loop-pair l =
    behind_pairs l.filled (filled_pairs (λ one. filled_within one l.request.vars l.captures l.moment) (drop l.pair-index l.pairs))
    ≡ filled_pairs (λ one. filled_within one l.request.vars l.captures l.moment) l.pairs
