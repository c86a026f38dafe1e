use Rattle.uw_intent.proofs.Worlds.{holding_stands, fresh_holds, run_holds}
use Rattle.uw_intent.proofs.laws.every_world_stands.Goals as goal

pub returns : goal.returns
returns g c start w now events steps is fresh runs =
    let k = g.K.RegionKind.kind in holding_stands k start is now now.lock (run_holds k start is events steps w now (fresh_holds k start is w fresh) runs)
