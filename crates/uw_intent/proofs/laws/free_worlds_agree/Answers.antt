use Rattle.std.proofs.Common.{subst}
use Rattle.uw_intent.proofs.Worlds.{Holds, fresh_holds, run_holds}
use Rattle.uw_intent.proofs.laws.free_worlds_agree.Goals as goal

pub returns : goal.returns
returns g c start w now events steps is fresh runs free =
    let k = g.K.RegionKind.kind in subst (Holds k start now) free (run_holds k start is events steps w now (fresh_holds k start is w fresh) runs)
