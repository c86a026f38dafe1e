use Rattle.uw_model.proofs.AreaLemmas.{refused_exactly, refused_same}
use Rattle.uw_model.proofs.area_laws.refused_operation_changes_nothing.Goals as goal

pub returns-clause-refused : goal.returns-clause-refused
returns-clause-refused c = refused_exactly

pub returns-clause-same : goal.returns-clause-same
returns-clause-same c = refused_same
