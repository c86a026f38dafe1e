use Rattle.std.proofs.Common.{List}
use Rattle.uw_model.specs.declared.entries.Entry.{Entry}
use Rattle.uw_plan.specs.Agreement.{Agrees}
use Rattle.uw_plan.proofs.Telling.{Passed}
use Rattle.uw_plan.proofs.tells.keys.Given as goal

abbrev pub invariant-loop : goal.invariant-loop
invariant-loop l =
    (list : List Entry) → (agrees : Agrees l.conf l.ram list) → Passed l.conf l.moment agrees.items list l.next l.counter l.keys.items
