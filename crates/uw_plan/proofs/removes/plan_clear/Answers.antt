use Rattle.std.proofs.Common.{refl, arith}
use Rattle.uw_model.specs.declared.calls.Call.TheVariants as calls
use Rattle.uw_plan.proofs.Planned.{planned_leaves}
use Rattle.uw_plan.proofs.Calling.{has_entries, has_spare, region_length, seen_agrees}
use Rattle.uw_plan.proofs.removes.plan_clear.Goals as goal

pub clear-requires-clause-region : goal.clear-requires-clause-region
clear-requires-clause-region c = region_length c.args.conf.now c.args.ram.now c.args.over.now c.requires

pub clear-requires-clause-some : goal.clear-requires-clause-some
clear-requires-clause-some c = has_entries c.args.conf.now c.args.ram.now c.args.over.now c.requires

pub clear-requires-clause-room : goal.clear-requires-clause-room
clear-requires-clause-room c = λ items list held. has_spare c.args.conf.now c.args.ram.now c.args.over.now c.requires list 0 held.fits.state.few (omega arith)

pub returns-clause-room : goal.returns-clause-room
returns-clause-room c =
    let some = has_entries c.args.conf.now c.args.ram.now c.args.over.now c.requires in
    (c.clear.ensures.list some.0 some.1 some.2).costs.room

pub returns-clause-plan : goal.returns-clause-plan
returns-clause-plan c = λ moment list agrees.
    let held = seen_agrees c.args.conf.now c.args.ram.now c.args.over.now c.requires list agrees in
    planned_leaves c.args.conf.now c.requires.is c.args.ram.now list held.fits.state.few moment calls.Clear c.args.over.now c.clear.new.over refl c.requires.empty refl refl
    (c.clear.ensures.list agrees.items list held)
