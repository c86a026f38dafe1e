use Rattle.std.proofs.Common.{◌≡◌, ◌++◌, codes, take}
use Rattle.std.specs.List.{flat_map}
use Rattle.uw_model.specs.declared.conf.CacheConf.{CacheConf}
use Rattle.uw_check.specs.Reports.{shown_cache}
use Rattle.uw_check.proofs.site.put_more_caches.Given as goal

-- the caches so far
abbrev pub invariant-loop-cache : goal.invariant-loop-cache
invariant-loop-cache l =
    l.out ≡ l.fn.out ++ flat_map (λ (more : CacheConf). codes ", " ++ shown_cache more) (take l.cache-index l.caches)
