use Rattle.uw_model.proofs.AreaLemmas.{increments_added}
use Rattle.uw_model.proofs.area_laws.increments_add_up.Goals as goal

pub returns : goal.returns
returns c = increments_added
