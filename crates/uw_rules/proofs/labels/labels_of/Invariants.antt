use Rattle.std.proofs.Common.{◌≡◌, ℕ, List, take}
use Rattle.std.specs.List.{position_from}
use Rattle.uw_rules.specs.LabelSteps.{label_place}
use Rattle.uw_rules.specs.Rules.{is_label_of, table_of}
use Rattle.uw_rules.proofs.labels.labels_of.Given as goal

-- the labels are those of the lines so far
abbrev pub invariant-loop-place : goal.invariant-loop-place
invariant-loop-place l = (text : List ℕ) → label_place l.labels text ≡ position_from (is_label_of text) 0 (table_of (take l.place l.lines))
