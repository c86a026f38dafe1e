use Rattle.uw_model.proofs.LawLemmas.{refused_keeps}
use Rattle.uw_model.proofs.laws.refused_call_changes_nothing.Goals as goal

pub returns : goal.returns
returns c = refused_keeps
