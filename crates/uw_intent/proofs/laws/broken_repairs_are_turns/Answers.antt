use Rattle.uw_intent.proofs.Turns.{broken_turn}
use Rattle.uw_intent.proofs.laws.broken_repairs_are_turns.Goals as goal

pub returns : goal.returns
returns g c start w made now told left unheld part = broken_turn g.K.RegionKind.kind start made w unheld now told left part
