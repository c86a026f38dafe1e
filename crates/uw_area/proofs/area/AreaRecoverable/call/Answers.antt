use Rattle.uw_area.proofs.area.AreaRecoverable.call.Goals as goal

pub returns-clause-right : goal.returns-clause-right
returns-clause-right g c area agrees = c.call.ensures.operated.right area c.args.moment agrees

pub returns-clause-answer : goal.returns-clause-answer
returns-clause-answer g c area agrees = c.call.ensures.operated.answer area c.args.moment agrees

pub returns-clause-stands : goal.returns-clause-stands
returns-clause-stands g c area agrees = c.call.ensures.operated.stands area c.args.moment agrees
