use Rattle.std.proofs.Common.{ℕ, List}
use Rattle.uw_model.specs.declared.entries.Entry.{Entry}
use Rattle.uw_words.specs.Parts.{seen}
use Rattle.uw_plan.specs.Agreement.{AgreesAs}
use Rattle.uw_plan.specs.Regions.{shape_of}
use Rattle.uw_plan.proofs.Sweeping.{Swept}
use Rattle.uw_plan.proofs.policies.sweep.Given as goal

abbrev pub invariant-loop : goal.invariant-loop
invariant-loop l =
    (items : List ℕ) (list : List Entry) → AgreesAs (seen l.fn.over l.ram) (shape_of l.conf) l.conf items list
    → Swept l.conf l.ram l.moment l.fn.over l.over list l.next l.counter l.gone
