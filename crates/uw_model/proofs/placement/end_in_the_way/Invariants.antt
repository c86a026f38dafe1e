use Rattle.std.proofs.Common.{◌≡◌, true, not, take}
use Rattle.std.specs.List.{list_all}
use Rattle.uw_model.specs.PlacementSteps.{is_in_the_way}
use Rattle.uw_model.proofs.placement.end_in_the_way.Given as goal

abbrev pub invariant-loop-entry : goal.invariant-loop-entry
invariant-loop-entry l = list_all (λ e. not (is_in_the_way l.conf l.at l.n l.place e)) (take l.entry-index l.entries) ≡ true
