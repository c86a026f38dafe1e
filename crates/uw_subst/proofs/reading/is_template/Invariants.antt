use Rattle.std.proofs.Common.{◌≡◌, ◌-◌, ◌≤◌, length, drop}
use Rattle.uw_subst.specs.Templates.{fault_of, first_bad, pieces_of}
use Rattle.uw_subst.proofs.reading.is_template.Given as goal

-- up to the place no form is bad
abbrev pub invariant-loop-at : goal.invariant-loop-at
invariant-loop-at l = record {
  good : first_bad l.at (pieces_of (drop l.at l.text)) ≡ fault_of l.text;
  inside : l.at ≤ length l.text;
}

abbrev pub decreases-loop-at : goal.decreases-loop-at
decreases-loop-at l = length l.text - l.at
