use Rattle.std.proofs.Common.{◌≡◌, take}
use Rattle.uw_conf.specs.Regions.{area_bytes}
use Rattle.uw_conf.proofs.sizes.area_bytes.Given as goal

abbrev pub invariant-loop-size : goal.invariant-loop-size
invariant-loop-size l = l.bytes ≡ area_bytes (take l.size-index l.areas)
