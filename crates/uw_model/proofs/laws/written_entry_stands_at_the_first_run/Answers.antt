use Rattle.uw_model.proofs.WrittenLemmas.{set_writes, update_writes, math_writes}
use Rattle.uw_model.proofs.laws.written_entry_stands_at_the_first_run.Goals as goal

pub returns-clause-set : goal.returns-clause-set
returns-clause-set c conf list now ttl key value is done = set_writes conf list now key ttl value is done

pub returns-clause-update : goal.returns-clause-update
returns-clause-update c conf list now ttl key value is done = update_writes conf list now key ttl value is done

pub returns-clause-math : goal.returns-clause-math
returns-clause-math c conf list now ttl key op by number is said = math_writes conf list now key ttl op by number is said
