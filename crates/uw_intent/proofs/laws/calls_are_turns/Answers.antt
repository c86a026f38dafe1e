use Rattle.uw_intent.proofs.Turns.{call_turn}
use Rattle.uw_intent.proofs.laws.calls_are_turns.Goals as goal

pub returns : goal.returns
returns g c start w made before now told mid left todo end unheld repaired call =
    call_turn g.K.RegionKind.kind start made w unheld before now told mid left todo end repaired call
