use Rattle.std.proofs.Common.{refl}
use Rattle.uw_conf.proofs.deciding.read_table.Goals as goal

pub returns-in-Ok-clause-reads : goal.returns-in-Ok-clause-reads
returns-in-Ok-clause-reads g c = (c.in-Ok.ensures.reads, c.in-Ok.ensures.cause.kept refl)
