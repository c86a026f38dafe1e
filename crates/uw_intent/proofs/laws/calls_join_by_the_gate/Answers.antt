use Rattle.std.proofs.Common.{subst}
use Rattle.uw_intent.proofs.Worlds.{Holds, fresh_holds, run_holds}
use Rattle.uw_intent.proofs.laws.calls_join_by_the_gate.Goals as goal

pub returns : goal.returns
returns g c start w now events steps is fresh runs made answer todo joined held =
    let k = g.K.RegionKind.kind in subst (Holds k start now) held (run_holds k start is events steps w now (fresh_holds k start is w fresh) runs)
