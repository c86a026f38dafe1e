use Rattle.std.proofs.Common.{◌∙◌, ◌≤◌, not, filter, length, pos, w64, refl, ap, arith}
use Rattle.std.proofs.lemmas.Int.{to_z_pos}
use Rattle.uw_model.specs.declared.entries.Entry.{Entry}
use Rattle.uw_model.specs.declared.calls.Answer.TheVariants as answers
use Rattle.uw_model.specs.declared.calls.Call.TheVariants as calls
use Rattle.uw_model.specs.Placement.{is_alive}
use Rattle.uw_plan.proofs.Planned.{planned_leaves}
use Rattle.uw_plan.proofs.Losing.{passed_few}
use Rattle.uw_plan.proofs.Calling.{has_entries, has_spare, region_length, seen_agrees}
use Rattle.uw_plan.proofs.removes.plan_sweep.Goals as goal

pub sweep-gone-requires-clause-region : goal.sweep-gone-requires-clause-region
sweep-gone-requires-clause-region c = region_length c.args.conf.now c.args.ram.now c.args.over.now c.requires

pub sweep-gone-requires-clause-some : goal.sweep-gone-requires-clause-some
sweep-gone-requires-clause-some c = has_entries c.args.conf.now c.args.ram.now c.args.over.now c.requires

pub sweep-gone-requires-clause-room : goal.sweep-gone-requires-clause-room
sweep-gone-requires-clause-room c = λ items list held. has_spare c.args.conf.now c.args.ram.now c.args.over.now c.requires list 0 held.fits.state.few (omega arith)

pub overflow_cast-result : goal.overflow_cast-result
overflow_cast-result c =
    let some = has_entries c.args.conf.now c.args.ram.now c.args.over.now c.requires in
    let few : length (filter (λ (e : Entry). not (is_alive c.args.conf.now c.args.moment e)) some.1) ≤ length some.1 =
    passed_few (λ (e : Entry). not (is_alive c.args.conf.now c.args.moment e)) some.1 in
    omega (arith, c.sweep-gone.ensures.count some.0 some.1 some.2, few, some.2.fits.state.few, c.requires.is.items.1)

pub returns-clause-room : goal.returns-clause-room
returns-clause-room c =
    let some = has_entries c.args.conf.now c.args.ram.now c.args.over.now c.requires in
    (c.sweep-gone.ensures.list some.0 some.1 some.2).costs.room

pub returns-clause-plan : goal.returns-clause-plan
returns-clause-plan c = λ list agrees.
    let held = seen_agrees c.args.conf.now c.args.ram.now c.args.over.now c.requires list agrees in
    planned_leaves c.args.conf.now c.requires.is c.args.ram.now list held.fits.state.few c.args.moment calls.Sweep c.args.over.now c.sweep-gone.new.over refl c.requires.empty refl refl
    (c.sweep-gone.ensures.list agrees.items list held)

pub returns-clause-answer : goal.returns-clause-answer
returns-clause-answer c = λ list agrees.
    let held = seen_agrees c.args.conf.now c.args.ram.now c.args.over.now c.requires list agrees in
    let dead = λ (e : Entry). not (is_alive c.args.conf.now c.args.moment e) in
    let count = c.sweep-gone.ensures.count agrees.items list held in
    let few : length (filter dead list) ≤ length list = passed_few dead list in
    ap answers.Number (to_z_pos w64 c.sweep-gone.result (omega (arith, count, few, held.fits.state.few, c.requires.is.items.1)) ∙ ap pos count)
