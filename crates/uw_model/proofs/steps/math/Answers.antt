-- What is written after each test that refuses the call is what the call writes.
use Rattle.std.proofs.Common.{◌≡◌, IfOk, OnOk, List, ℕ, option_copied, w64, FitsSigned, rules, subst, sym, ap, ◌∙◌}
use Rattle.std.proofs.lemmas.Int.{to_z-of_z}
use Rattle.uw_model.specs.declared.calls.Answer.TheVariants as answers
use Rattle.uw_model.specs.declared.calls.Call.TheVariants as calls
use Rattle.uw_model.specs.Calls.{Outcome, written, outcome}
use Rattle.uw_model.specs.Entries.{new_entry}
use Rattle.uw_model.proofs.MathLemmas.{math_outcome}
use Rattle.uw_model.proofs.steps.math.Goals as goal
use Rattle.uw_model.proofs.steps.math.Goals.{After-write}

-- what the last step is given makes it the whole call
same : (c : After-write) → written c.args.conf.now c.args.entries.now.items c.args.moment c.in_ok-entry.entry.key c.in_ok-entry.entry.value c.in_ok-entry.entry.dies (answers.Number c.in-Some-result_of.number) ≡ outcome c.args.conf.now c.args.entries.now.items c.args.moment (calls.Math c.args.reckoning.op c.args.key.now c.args.reckoning.by c.args.reckoning.ttl)
same c =
    let r = c.args.reckoning in
    let number = c.in-Some.number in
    let result = c.in-Some-result_of.number in
    let by_fits : FitsSigned w64 r.by = search rules in
    let number_fits : FitsSigned w64 number = search rules in
    let result_fits : FitsSigned w64 result = search rules in
    let by_is = to_z-of_z w64 r.by by_fits in
    let bytes = rw (to_z-of_z w64 result result_fits) at c.to_le_bytes.ensures in
    let entry_of = λ (v : List ℕ). new_entry c.args.key.now v c.dies_of_number-dies.result 0 c.args.moment in
    let is = c.in_ok-entry.ensures ∙ ap entry_of bytes in
    math_outcome c.args.conf.now c.args.entries.now.items c.args.moment r.op c.args.key.now r.by r.ttl (option_copied c.alive-alive.result) number result c.dies_of_number-dies.result c.in_ok-entry.entry
    (sym c.is_bad_key.ensures ∙ c.if-is_bad_key.false) (rw c.deref.ensures.value at c.alive-alive.ensures) c.in-Some.ensures
    (sym (rw by_is at c.is_zero_division.ensures) ∙ c.if-is_zero_division.false)
    (c.dies_of_number-dies.ensures (option_copied c.alive-alive.result) c.dies_of.ensures)
    (rw (to_z-of_z w64 number number_fits, by_is) at c.in-Some-result_of.ensures) is

pub returns-clause-answer : goal.returns-clause-answer
returns-clause-answer c =
    let result = c.in-Some-result_of.number in
    let result_fits : FitsSigned w64 result = search rules in
    let e = c.in_ok-entry.entry in
    let whole = ap (λ n. written c.args.conf.now c.args.entries.now.items c.args.moment e.key e.value e.dies (answers.Number n)) (to_z-of_z w64 result result_fits) ∙ same c in
    subst (λ (o : Outcome). IfOk c.write.result (λ a. a ≡ o.answer)) whole c.write.ensures.answer

pub returns-clause-next : goal.returns-clause-next
returns-clause-next c =
    let result = c.in-Some-result_of.number in
    let result_fits : FitsSigned w64 result = search rules in
    let e = c.in_ok-entry.entry in
    let whole = ap (λ n. written c.args.conf.now c.args.entries.now.items c.args.moment e.key e.value e.dies (answers.Number n)) (to_z-of_z w64 result result_fits) ∙ same c in
    subst (λ (o : Outcome). OnOk c.write.result (c.write.new.entries.items ≡ o.list)) whole c.write.ensures.next
