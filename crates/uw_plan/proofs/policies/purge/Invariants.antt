use Rattle.std.proofs.Common.{ℕ, List}
use Rattle.uw_model.specs.declared.entries.Entry.{Entry}
use Rattle.uw_words.specs.Parts.{seen}
use Rattle.uw_plan.specs.Agreement.{AgreesAs}
use Rattle.uw_plan.specs.Regions.{shape_of}
use Rattle.uw_plan.proofs.Purging.{Purged}
use Rattle.uw_plan.proofs.policies.purge.Given as goal

abbrev pub invariant-loop-item : goal.invariant-loop-item
invariant-loop-item l =
    (items : List ℕ) (list : List Entry) → AgreesAs (seen l.fn.over l.ram) (shape_of l.conf) l.conf items list
    → (kept : List Entry) × Purged l.conf l.ram l.n l.fn.over l.over list kept

abbrev pub decreases-loop-item : goal.decreases-loop-item
decreases-loop-item l = seen l.over l.ram 9
