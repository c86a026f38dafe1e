use Rattle.uw_intent.proofs.Allowed.{happens_allowed}
use Rattle.uw_intent.proofs.laws.events_happen_where_allowed.Goals as goal

pub returns : goal.returns
returns g c start w now event step happens = happens_allowed g.K.RegionKind.kind start w event step now happens
