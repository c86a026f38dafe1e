use Rattle.uw_plan.proofs.Planning.{distinct, fits_record, is_right}
use Rattle.uw_plan.proofs.plan.plan_call.Goals as goal

pub returns-clause-fits : goal.returns-clause-fits
returns-clause-fits c =
    let some = c.requires.region in
    fits_record c.args.conf.now c.requires.conf c.args.ram.now c.planned.new.over some.0 c.args.moment c.args.call.now some.1 (c.planned.ensures.plan some.0 some.1)

pub returns-clause-distinct : goal.returns-clause-distinct
returns-clause-distinct c =
    let some = c.requires.region in
    distinct c.args.conf.now c.requires.conf c.args.ram.now c.planned.new.over some.0 c.args.moment c.args.call.now some.1 (c.planned.ensures.plan some.0 some.1)

pub returns-clause-right : goal.returns-clause-right
returns-clause-right c = λ list agrees.
    is_right c.args.conf.now c.requires.conf c.args.ram.now c.planned.new.over list c.args.moment c.args.call.now agrees (c.planned.ensures.plan list agrees)

pub returns-clause-refused : goal.returns-clause-refused
returns-clause-refused c = λ list agrees. (c.planned.ensures.plan list agrees).bare
