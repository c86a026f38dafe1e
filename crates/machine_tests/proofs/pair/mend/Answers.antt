use Rattle.machine_tests.proofs.PairLemmas.{standing_frame}
use Rattle.machine_tests.proofs.pair.mend.Goals as goal

pub recover-requires-clause-frame : goal.recover-requires-clause-frame
recover-requires-clause-frame g c = standing_frame c.args.ram.now c.requires.standing.number c.requires.standing.stands
