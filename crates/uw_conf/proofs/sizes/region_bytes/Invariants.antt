use Rattle.std.proofs.Common.{◌≡◌, take}
use Rattle.uw_conf.specs.Regions.{region_bytes}
use Rattle.uw_conf.proofs.sizes.region_bytes.Given as goal

abbrev pub invariant-loop-conf : goal.invariant-loop-conf
invariant-loop-conf l = l.bytes ≡ region_bytes (take l.conf-index l.caches)
