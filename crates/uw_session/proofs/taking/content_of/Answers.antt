use Rattle.uw_conf.specs.Given.{parts_in}
use Rattle.uw_session.proofs.taking.content_of.Goals as goal

pub returns-in-17-clause-answerable : goal.returns-in-17-clause-answerable
returns-in-17-clause-answerable c = c.task_in.ensures.answerable (parts_in c.args.conf.now)
