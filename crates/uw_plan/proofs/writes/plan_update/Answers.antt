use Rattle.std.proofs.Common.{◌≡◌, ◌∙◌, List, false, true, refl, sym, ap}
use Rattle.uw_model.specs.declared.entries.Entry.{Entry}
use Rattle.uw_model.specs.declared.calls.Call.TheVariants as calls
use Rattle.uw_model.specs.declared.calls.Answer.TheVariants as answers
use Rattle.uw_model.specs.Calls.{Outcome, is_bad_key, is_too_long, outcome, written}
use Rattle.uw_plan.specs.Agreement.{Agrees}
use Rattle.uw_plan.proofs.Calling.{unchanged}
use Rattle.uw_plan.proofs.Setting.{bad_update, full_answer, full_plan, good_update, long_update, wrote_answer, wrote_plan}
use Rattle.uw_plan.proofs.writes.plan_update.Goals as goal
use Rattle.uw_plan.proofs.writes.plan_update.Goals.{After-write}

-- a write of the value
is : (c : After-write) (list : List Entry) → Agrees c.args.conf.now c.args.ram.now list
    → outcome c.args.conf.now list c.args.moment (calls.Update c.args.key.now c.args.value.now c.args.ttl)
    ≡ written c.args.conf.now list c.args.moment c.args.key.now c.args.value.now c.dies_at.result answers.Done
is c list agrees =
    let good : is_bad_key c.args.conf.now c.args.key.now ≡ false = sym c.is_bad_key.ensures ∙ c.if-is_bad_key.false in
    let short : is_too_long c.args.conf.now c.args.value.now ≡ false = sym c.is_too_long.ensures ∙ c.if-is_too_long.false in
    good_update c.args.conf.now list c.args.moment c.args.key.now c.args.value.now c.args.ttl c.dies_at.result c.dies_at.ensures good short

pub returns-then-is_bad_key-clause-plan : goal.returns-then-is_bad_key-clause-plan
returns-then-is_bad_key-clause-plan c = λ list agrees.
    let bad : is_bad_key c.args.conf.now c.args.key.now ≡ true = sym c.is_bad_key.ensures ∙ c.if-is_bad_key.true in
    unchanged c.args.conf.now c.args.ram.now c.args.over.now c.requires list agrees c.args.moment (calls.Update c.args.key.now c.args.value.now c.args.ttl)
    (ap (λ (o : Outcome). o.list) (bad_update c.args.conf.now list c.args.moment c.args.key.now c.args.value.now c.args.ttl bad))

pub returns-then-is_too_long-clause-plan : goal.returns-then-is_too_long-clause-plan
returns-then-is_too_long-clause-plan c = λ list agrees.
    let good : is_bad_key c.args.conf.now c.args.key.now ≡ false = sym c.is_bad_key.ensures ∙ c.if-is_bad_key.false in
    let long : is_too_long c.args.conf.now c.args.value.now ≡ true = sym c.is_too_long.ensures ∙ c.if-is_too_long.true in
    unchanged c.args.conf.now c.args.ram.now c.args.over.now c.requires list agrees c.args.moment (calls.Update c.args.key.now c.args.value.now c.args.ttl)
    (ap (λ (o : Outcome). o.list) (long_update c.args.conf.now list c.args.moment c.args.key.now c.args.value.now c.args.ttl good long))

pub returns-then-write-clause-plan : goal.returns-then-write-clause-plan
returns-then-write-clause-plan c = λ list agrees.
    wrote_plan c.args.conf.now c.args.ram.now c.args.over.now c.write.new.over c.requires list agrees c.args.moment (calls.Update c.args.key.now c.args.value.now c.args.ttl)
    c.args.key.now c.args.value.now c.dies_at.result answers.Done (is (goal.at.returns-then-write-clause-plan c).After-write list agrees) (c.if-write.ensures.list list agrees) refl refl

pub returns-then-write-clause-answer : goal.returns-then-write-clause-answer
returns-then-write-clause-answer c = λ list agrees.
    wrote_answer c.args.conf.now c.args.ram.now c.args.over.now c.write.new.over c.requires list agrees c.args.moment (calls.Update c.args.key.now c.args.value.now c.args.ttl)
    c.args.key.now c.args.value.now c.dies_at.result answers.Done (is (goal.at.returns-then-write-clause-answer c).After-write list agrees) (c.if-write.ensures.list list agrees)

pub returns-clause-plan : goal.returns-clause-plan
returns-clause-plan c = λ list agrees.
    full_plan c.args.conf.now c.args.ram.now c.args.over.now c.write.new.over c.requires list agrees c.args.moment (calls.Update c.args.key.now c.args.value.now c.args.ttl)
    c.args.key.now c.args.value.now c.dies_at.result answers.Done (is (goal.at.returns-clause-plan c).After-write list agrees) (c.if-write.ensures.list list agrees) (c.if-write.ensures.none refl)

pub returns-clause-answer : goal.returns-clause-answer
returns-clause-answer c = λ list agrees.
    full_answer c.args.conf.now c.args.ram.now c.args.over.now c.write.new.over c.requires list agrees c.args.moment (calls.Update c.args.key.now c.args.value.now c.args.ttl)
    c.args.key.now c.args.value.now c.dies_at.result answers.Done (is (goal.at.returns-clause-answer c).After-write list agrees) (c.if-write.ensures.list list agrees)
