use Rattle.uw_model.specs.declared.calls.Call.TheVariants as calls
use Rattle.uw_plan.proofs.Calling.{num_leaves, unchanged}
use Rattle.uw_plan.proofs.reads.plan_num.Goals as goal

pub returns-then-is_bad_key-clause-plan : goal.returns-then-is_bad_key-clause-plan
returns-then-is_bad_key-clause-plan c = λ list agrees.
    unchanged c.args.conf.now c.args.ram.now c.args.over.now c.requires list agrees c.args.moment (calls.Num c.args.key.now)
    (num_leaves c.args.conf.now list c.args.moment c.args.key.now)

pub returns-in-None-clause-plan : goal.returns-in-None-clause-plan
returns-in-None-clause-plan c = λ list agrees.
    unchanged c.args.conf.now c.args.ram.now c.args.over.now c.requires list agrees c.args.moment (calls.Num c.args.key.now)
    (num_leaves c.args.conf.now list c.args.moment c.args.key.now)

pub returns-in-Some-clause-plan : goal.returns-in-Some-clause-plan
returns-in-Some-clause-plan c = λ list agrees.
    unchanged c.args.conf.now c.args.ram.now c.args.over.now c.requires list agrees c.args.moment (calls.Num c.args.key.now)
    (num_leaves c.args.conf.now list c.args.moment c.args.key.now)
