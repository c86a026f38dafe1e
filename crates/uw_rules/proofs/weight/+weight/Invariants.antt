use Rattle.std.proofs.Common.{◌≡◌, ◌-◌, ◌^◌, min, take}
use Rattle.std.specs.List.{sum_by}
use Rattle.uw_rules.specs.Weight.{weight}
use Rattle.uw_rules.proofs.weight.+weight.Given as goal

abbrev pub invariant-weight_of_all-loop-tree : goal.invariant-weight_of_all-loop-tree
invariant-weight_of_all-loop-tree l = l.total ≡ min (sum_by weight (take l.tree-index l.trees)) (2 ^ 64 - 1)
