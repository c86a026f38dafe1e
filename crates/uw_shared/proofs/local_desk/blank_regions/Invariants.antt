use Rattle.std.proofs.Common.{take}
use Rattle.std.specs.List.{AllZip}
use Rattle.uw_shared.specs.BeginningSteps.{BeginsAsArea}
use Rattle.uw_shared.proofs.local_desk.blank_regions.Given as goal

abbrev pub invariant-loop-size : goal.invariant-loop-size
invariant-loop-size l = AllZip BeginsAsArea (take l.size-index l.sizes) l.areas.items
