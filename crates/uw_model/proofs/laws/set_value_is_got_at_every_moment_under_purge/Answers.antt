use Rattle.uw_model.proofs.LawLemmas.{set_reads_always}
use Rattle.uw_model.proofs.laws.set_value_is_got_at_every_moment_under_purge.Goals as goal

pub returns : goal.returns
returns c = set_reads_always
