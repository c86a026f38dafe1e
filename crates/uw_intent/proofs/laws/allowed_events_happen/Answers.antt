use Rattle.uw_intent.proofs.Worlds.{fresh_holds, run_holds}
use Rattle.uw_intent.proofs.Allowed.{allowed_happens}
use Rattle.uw_intent.proofs.laws.allowed_events_happen.Goals as goal

pub returns : goal.returns
returns g c start w now events steps is rights fresh runs event allowed =
    let k = g.K.RegionKind.kind in
    allowed_happens k start is rights now event (run_holds k start is events steps w now (fresh_holds k start is w fresh) runs) allowed
