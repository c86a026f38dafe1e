use Rattle.uw_model.proofs.LawLemmas.{set_reads}
use Rattle.uw_model.proofs.laws.set_value_is_got.Goals as goal

pub returns : goal.returns
returns c = set_reads
