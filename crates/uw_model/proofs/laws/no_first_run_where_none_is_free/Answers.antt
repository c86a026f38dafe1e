use Rattle.uw_model.proofs.LawLemmas.{no_run}
use Rattle.uw_model.proofs.laws.no_first_run_where_none_is_free.Goals as goal

pub returns : goal.returns
returns c = no_run
