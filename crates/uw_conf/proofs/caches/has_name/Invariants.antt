use Rattle.std.proofs.Common.{◌≡◌, drop}
use Rattle.std.specs.List.{list_any}
use Rattle.std.specs.Str.{bytes_eq}
use Rattle.uw_model.specs.declared.conf.CacheConf.{CacheConf}
use Rattle.uw_conf.proofs.caches.has_name.Given as goal

-- none of the caches so far has it
abbrev pub invariant-loop-earlier : goal.invariant-loop-earlier
invariant-loop-earlier l =
    list_any (λ (earlier : CacheConf). bytes_eq earlier.name l.fn.name) (drop l.earlier-index l.caches)
    ≡ list_any (λ (earlier : CacheConf). bytes_eq earlier.name l.fn.name) l.caches
