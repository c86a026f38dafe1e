use Rattle.uw_recency.proofs.Lists.{depends}
use Rattle.uw_recency.proofs.laws.recency_depends_on_its_places.Goals as goal

pub returns : goal.returns
returns c = depends
