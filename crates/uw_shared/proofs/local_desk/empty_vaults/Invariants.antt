use Rattle.std.proofs.Common.{take}
use Rattle.std.specs.List.{AllZip}
use Rattle.uw_shared.specs.BeginningSteps.{BeginsAsCache}
use Rattle.uw_shared.proofs.local_desk.empty_vaults.Given as goal

abbrev pub invariant-loop-conf : goal.invariant-loop-conf
invariant-loop-conf l = AllZip BeginsAsCache (take l.conf-index l.confs) l.vaults.items
