use Rattle.std.proofs.Common.{◌≡◌, ◌∙◌, IfSome, List, Some, false, true, refl, sym, ap, rules, w64, FitsSigned}
use Rattle.std.proofs.lemmas.Int.{to_z-of_z}
use Rattle.uw_model.specs.declared.entries.Entry.{Entry}
use Rattle.uw_model.specs.declared.calls.Call.TheVariants as calls
use Rattle.uw_model.specs.declared.calls.Answer.TheVariants as answers
use Rattle.uw_model.specs.Calls.{Outcome, alive_at, is_bad_key, is_too_long, is_zero_division, outcome, refused, written}
use Rattle.uw_words.specs.Parts.{seen}
use Rattle.uw_plan.specs.Agreement.{Agrees}
use Rattle.uw_plan.specs.Plans.{IsInUse}
use Rattle.uw_plan.specs.Regions.{shape_of}
use Rattle.uw_plan.specs.CallPlanSteps.{IsNumberAt}
use Rattle.uw_plan.proofs.Calling.{has_entries, region_length, seen_agrees, unchanged}
use Rattle.uw_plan.proofs.Setting.{bad_math, full_answer, full_plan, good_math, no_number_math, number_short, range_math, used_found, wrote_answer, wrote_plan, zero_math}
use Rattle.uw_plan.proofs.writes.plan_math.Goals as goal
use Rattle.uw_plan.proofs.writes.plan_math.Goals.{After-alive_item-item, In_default, In_default-result_of, Then-is_zero_division, After-write}

-- the item that is found is in use
used : (c : After-alive_item-item) → IfSome c.alive_item-item.result (λ i. IsInUse (seen c.args.over.now c.args.ram.now) (shape_of c.args.conf.now) c.args.conf.now i)
used c =
    let some = has_entries c.args.conf.now c.args.ram.now c.args.over.now c.requires in
    used_found (seen c.args.over.now c.args.ram.now) c.args.conf.now some.0 some.1 (alive_at c.args.conf.now some.1 c.args.moment c.args.key.now) c.alive_item-item.result some.2
    (c.alive_item-item.ensures some.0 some.1 some.2)

-- a value that is none of a number
no_number : (c : In_default) (list : List Entry) → Agrees c.args.conf.now c.args.ram.now list
    → outcome c.args.conf.now list c.args.moment (calls.Math c.args.reckoning.op c.args.key.now c.args.reckoning.by c.args.reckoning.ttl) ≡ refused answers.NotNumber list
no_number c list agrees =
    let r = c.args.reckoning in
    let held = seen_agrees c.args.conf.now c.args.ram.now c.args.over.now c.requires list agrees in
    let good : is_bad_key c.args.conf.now c.args.key.now ≡ false = sym c.is_bad_key.ensures ∙ c.if-is_bad_key.false in
    let none = c.in_default.ensures agrees.items list (alive_at c.args.conf.now list c.args.moment c.args.key.now) held (c.alive_item-item.ensures agrees.items list held) in
    no_number_math c.args.conf.now list c.args.moment r.op c.args.key.now r.by r.ttl good none

-- a division by 0
zero : (c : Then-is_zero_division) (list : List Entry) → Agrees c.args.conf.now c.args.ram.now list
    → outcome c.args.conf.now list c.args.moment (calls.Math c.args.reckoning.op c.args.key.now c.args.reckoning.by c.args.reckoning.ttl) ≡ refused answers.ZeroDivisor list
zero c list agrees =
    let r = c.args.reckoning in
    let by_fits : FitsSigned w64 r.by = search rules in
    let held = seen_agrees c.args.conf.now c.args.ram.now c.args.over.now c.requires list agrees in
    let good : is_bad_key c.args.conf.now c.args.key.now ≡ false = sym c.is_bad_key.ensures ∙ c.if-is_bad_key.false in
    let found : IsNumberAt (alive_at c.args.conf.now list c.args.moment c.args.key.now) (Some c.in-Some.number) =
    c.in-Some.ensures agrees.items list (alive_at c.args.conf.now list c.args.moment c.args.key.now) held (c.alive_item-item.ensures agrees.items list held) in
    let divides : is_zero_division r.op r.by ≡ true = sym (rw (to_z-of_z w64 r.by by_fits) at c.is_zero_division.ensures) ∙ c.if-is_zero_division.true in
    zero_math c.args.conf.now list c.args.moment r.op c.args.key.now r.by r.ttl good c.in-Some.number found divides

-- a result out of range
range : (c : In_default-result_of) (list : List Entry) → Agrees c.args.conf.now c.args.ram.now list
    → outcome c.args.conf.now list c.args.moment (calls.Math c.args.reckoning.op c.args.key.now c.args.reckoning.by c.args.reckoning.ttl) ≡ refused answers.Range list
range c list agrees =
    let r = c.args.reckoning in
    let by_fits : FitsSigned w64 r.by = search rules in
    let number_fits : FitsSigned w64 c.in-Some.number = search rules in
    let by_is = to_z-of_z w64 r.by by_fits in
    let held = seen_agrees c.args.conf.now c.args.ram.now c.args.over.now c.requires list agrees in
    let good : is_bad_key c.args.conf.now c.args.key.now ≡ false = sym c.is_bad_key.ensures ∙ c.if-is_bad_key.false in
    let found : IsNumberAt (alive_at c.args.conf.now list c.args.moment c.args.key.now) (Some c.in-Some.number) =
    c.in-Some.ensures agrees.items list (alive_at c.args.conf.now list c.args.moment c.args.key.now) held (c.alive_item-item.ensures agrees.items list held) in
    let divides : is_zero_division r.op r.by ≡ false = sym (rw by_is at c.is_zero_division.ensures) ∙ c.if-is_zero_division.false in
    range_math c.args.conf.now list c.args.moment r.op c.args.key.now r.by r.ttl good c.in-Some.number found divides
    (rw (to_z-of_z w64 c.in-Some.number number_fits, by_is) at c.in_default-result_of.ensures)

-- a write of the result
is : (c : After-write) (list : List Entry) → Agrees c.args.conf.now c.args.ram.now list
    → outcome c.args.conf.now list c.args.moment (calls.Math c.args.reckoning.op c.args.key.now c.args.reckoning.by c.args.reckoning.ttl)
    ≡ written c.args.conf.now list c.args.moment c.args.key.now c.to_le_bytes.result c.dies_of_number-dies.result (answers.Number c.in-Some-result_of.number)
is c list agrees =
    let r = c.args.reckoning in
    let result = c.in-Some-result_of.number in
    let by_fits : FitsSigned w64 r.by = search rules in
    let number_fits : FitsSigned w64 c.in-Some.number = search rules in
    let result_fits : FitsSigned w64 result = search rules in
    let by_is = to_z-of_z w64 r.by by_fits in
    let held = seen_agrees c.args.conf.now c.args.ram.now c.args.over.now c.requires list agrees in
    let alive = alive_at c.args.conf.now list c.args.moment c.args.key.now in
    let item = c.alive_item-item.ensures agrees.items list held in
    let good : is_bad_key c.args.conf.now c.args.key.now ≡ false = sym c.is_bad_key.ensures ∙ c.if-is_bad_key.false in
    let found : IsNumberAt alive (Some c.in-Some.number) = c.in-Some.ensures agrees.items list alive held item in
    let divides : is_zero_division r.op r.by ≡ false = sym (rw by_is at c.is_zero_division.ensures) ∙ c.if-is_zero_division.false in
    good_math c.args.conf.now list c.args.moment r.op c.args.key.now r.by r.ttl good c.in-Some.number found divides result c.dies_of_number-dies.result c.to_le_bytes.result
    (rw (to_z-of_z w64 c.in-Some.number number_fits, by_is) at c.in-Some-result_of.ensures)
    (c.dies_of_number-dies.ensures alive (c.dies_found.ensures agrees.items list alive held item))
    (rw (to_z-of_z w64 result result_fits) at c.to_le_bytes.ensures)

pub returns-then-is_bad_key-clause-plan : goal.returns-then-is_bad_key-clause-plan
returns-then-is_bad_key-clause-plan c = λ list agrees.
    let r = c.args.reckoning in
    let bad : is_bad_key c.args.conf.now c.args.key.now ≡ true = sym c.is_bad_key.ensures ∙ c.if-is_bad_key.true in
    unchanged c.args.conf.now c.args.ram.now c.args.over.now c.requires list agrees c.args.moment (calls.Math r.op c.args.key.now r.by r.ttl)
    (ap (λ (o : Outcome). o.list) (bad_math c.args.conf.now list c.args.moment r.op c.args.key.now r.by r.ttl bad))

pub alive_item-item-requires-clause-region : goal.alive_item-item-requires-clause-region
alive_item-item-requires-clause-region c = region_length c.args.conf.now c.args.ram.now c.args.over.now c.requires

pub alive_item-item-requires-clause-some : goal.alive_item-item-requires-clause-some
alive_item-item-requires-clause-some c = has_entries c.args.conf.now c.args.ram.now c.args.over.now c.requires

pub number_found-requires-clause-region : goal.number_found-requires-clause-region
number_found-requires-clause-region c = region_length c.args.conf.now c.args.ram.now c.args.over.now c.requires

pub number_found-requires-clause-used : goal.number_found-requires-clause-used
number_found-requires-clause-used c = used c

pub dies_found-requires-clause-region : goal.dies_found-requires-clause-region
dies_found-requires-clause-region c = region_length c.args.conf.now c.args.ram.now c.args.over.now c.requires

pub dies_found-requires-clause-used : goal.dies_found-requires-clause-used
dies_found-requires-clause-used c = used (goal.at.dies_found-requires-clause-used c).After-alive_item-item

pub result_of-requires : goal.result_of-requires
result_of-requires c = sym c.is_zero_division.ensures ∙ c.if-is_zero_division.false

pub write-requires-clause-value : goal.write-requires-clause-value
write-requires-clause-value c =
    let result = c.in-Some-result_of.number in
    let result_fits : FitsSigned w64 result = search rules in
    let good : is_bad_key c.args.conf.now c.args.key.now ≡ false = sym c.is_bad_key.ensures ∙ c.if-is_bad_key.false in
    ap (is_too_long c.args.conf.now) (rw (to_z-of_z w64 result result_fits) at c.to_le_bytes.ensures) ∙ number_short c.args.conf.now c.args.key.now result c.requires.is good

pub returns-in_default-clause-plan : goal.returns-in_default-clause-plan
returns-in_default-clause-plan c = λ list agrees.
    let r = c.args.reckoning in
    unchanged c.args.conf.now c.args.ram.now c.args.over.now c.requires list agrees c.args.moment (calls.Math r.op c.args.key.now r.by r.ttl)
    (ap (λ (o : Outcome). o.list) (no_number c list agrees))

pub returns-in_default-clause-answer : goal.returns-in_default-clause-answer
returns-in_default-clause-answer c = λ list agrees. sym (ap (λ (o : Outcome). o.answer) (no_number c list agrees))

pub returns-then-is_zero_division-clause-plan : goal.returns-then-is_zero_division-clause-plan
returns-then-is_zero_division-clause-plan c = λ list agrees.
    let r = c.args.reckoning in
    unchanged c.args.conf.now c.args.ram.now c.args.over.now c.requires list agrees c.args.moment (calls.Math r.op c.args.key.now r.by r.ttl)
    (ap (λ (o : Outcome). o.list) (zero c list agrees))

pub returns-then-is_zero_division-clause-answer : goal.returns-then-is_zero_division-clause-answer
returns-then-is_zero_division-clause-answer c = λ list agrees. sym (ap (λ (o : Outcome). o.answer) (zero c list agrees))

pub returns-in_default-result_of-clause-plan : goal.returns-in_default-result_of-clause-plan
returns-in_default-result_of-clause-plan c = λ list agrees.
    let r = c.args.reckoning in
    unchanged c.args.conf.now c.args.ram.now c.args.over.now c.requires list agrees c.args.moment (calls.Math r.op c.args.key.now r.by r.ttl)
    (ap (λ (o : Outcome). o.list) (range c list agrees))

pub returns-in_default-result_of-clause-answer : goal.returns-in_default-result_of-clause-answer
returns-in_default-result_of-clause-answer c = λ list agrees. sym (ap (λ (o : Outcome). o.answer) (range c list agrees))

pub returns-then-write-clause-plan : goal.returns-then-write-clause-plan
returns-then-write-clause-plan c = λ list agrees.
    let r = c.args.reckoning in
    wrote_plan c.args.conf.now c.args.ram.now c.args.over.now c.write.new.over c.requires list agrees c.args.moment (calls.Math r.op c.args.key.now r.by r.ttl) c.args.key.now c.to_le_bytes.result
    c.dies_of_number-dies.result (answers.Number c.in-Some-result_of.number) (is (goal.at.returns-then-write-clause-plan c).After-write list agrees) (c.if-write.ensures.list list agrees) refl refl

pub returns-then-write-clause-answer : goal.returns-then-write-clause-answer
returns-then-write-clause-answer c = λ list agrees.
    let r = c.args.reckoning in
    let result = c.in-Some-result_of.number in
    let result_fits : FitsSigned w64 result = search rules in
    ap answers.Number (to_z-of_z w64 result result_fits)
    ∙ wrote_answer c.args.conf.now c.args.ram.now c.args.over.now c.write.new.over c.requires list agrees c.args.moment (calls.Math r.op c.args.key.now r.by r.ttl) c.args.key.now c.to_le_bytes.result
    c.dies_of_number-dies.result (answers.Number c.in-Some-result_of.number) (is (goal.at.returns-then-write-clause-answer c).After-write list agrees) (c.if-write.ensures.list list agrees)

pub returns-clause-plan : goal.returns-clause-plan
returns-clause-plan c = λ list agrees.
    let r = c.args.reckoning in
    full_plan c.args.conf.now c.args.ram.now c.args.over.now c.write.new.over c.requires list agrees c.args.moment (calls.Math r.op c.args.key.now r.by r.ttl) c.args.key.now c.to_le_bytes.result
    c.dies_of_number-dies.result (answers.Number c.in-Some-result_of.number) (is (goal.at.returns-clause-plan c).After-write list agrees) (c.if-write.ensures.list list agrees) (c.if-write.ensures.none refl)

pub returns-clause-answer : goal.returns-clause-answer
returns-clause-answer c = λ list agrees.
    let r = c.args.reckoning in
    full_answer c.args.conf.now c.args.ram.now c.args.over.now c.write.new.over c.requires list agrees c.args.moment (calls.Math r.op c.args.key.now r.by r.ttl) c.args.key.now c.to_le_bytes.result
    c.dies_of_number-dies.result (answers.Number c.in-Some-result_of.number) (is (goal.at.returns-clause-answer c).After-write list agrees) (c.if-write.ensures.list list agrees)
