use Rattle.std.proofs.Common.{◌≡◌, None, Option, Some, sym, ap, subst}
use Rattle.uw_model.specs.declared.entries.Entry.{Entry}
use Rattle.uw_model.specs.Calls.{is_no_number, number_at}
use Rattle.uw_plan.specs.CallPlanSteps.{IsNumberAt}
use Rattle.uw_plan.specs.CallSteps.{IsItemOf}
use Rattle.uw_plan.proofs.Calling.{number_found}
use Rattle.uw_plan.proofs.lookup.number_found.Goals as goal

pub returns-in-None : goal.returns-in-None
returns-in-None c = λ items list entry agrees found.
    let none : entry ≡ None = subst (IsItemOf items list entry) c.in-None.is found in
    (ap is_no_number none, ap number_at (sym none))

pub returns-in-Some : goal.returns-in-Some
returns-in-Some c = λ items list entry agrees found.
    let some : IsItemOf items list entry (Some c.in-Some.item) = subst (IsItemOf items list entry) c.in-Some.is found in
    subst (λ (e : Option Entry). IsNumberAt e c.number_of_item.result) (sym some.1.0)
    (number_found some.0 c.number_of_item.result (c.number_of_item.ensures items list some.0 agrees some.1.1))
