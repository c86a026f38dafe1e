-- What holds of each configuration: every number lies within its limits (own rule).
use Rattle.std.specs.Prelude.{◌≢◌, ◌≤◌, ℕ, List, [], ◌∷◌, length}
use Rattle.std.specs.List.{AllByRecursion}
use Rattle.uw_model.specs.declared.conf.CacheConf.{CacheConf}
use Rattle.uw_model.specs.Entries.{IsCacheConf}
use Rattle.uw_model.specs.AreaOps.{IsAreaSize}
use Rattle.uw_conf.specs.declared.conf.Options.{Options}
use Rattle.uw_conf.specs.Regions.{all_bytes, most_region_bytes}

-- no two caches have one name
abbrev pub HaveOwnNames : List CacheConf → Type 0
HaveOwnNames [] = Unit {0}
HaveOwnNames (conf ∷ caches) = AllByRecursion (λ (other : CacheConf). other.name ≢ conf.name) caches × HaveOwnNames caches

-- at most 16 caches, each within its limits and with a name of its own, and at most 16 areas, each within its limits; all regions together are within theirs
pub record ArePartsOfSite (caches : List CacheConf) (areas : List ℕ) : Type 0 where
  pub each : AllByRecursion IsCacheConf caches
  pub few : length caches ≤ 16
  pub names : HaveOwnNames caches
  pub sizes : AllByRecursion IsAreaSize areas
  pub few_areas : length areas ≤ 16
  pub small : all_bytes caches areas ≤ most_region_bytes

-- each number of a configuration lies within its limits
pub record HasLimits (conf : Options) : Type 0 where
  pub buffer_size : (1 ≤ conf.buffer_size) × (conf.buffer_size ≤ 65535)
  pub workers : (1 ≤ conf.workers) × (conf.workers ≤ 64)
  pub harakiri : conf.harakiri ≤ 86400
  pub expire_freq : (1 ≤ conf.expire_freq) × (conf.expire_freq ≤ 3600)
  pub spoolers : (1 ≤ conf.spoolers) × (conf.spoolers ≤ 16)
  pub spool_freq : (1 ≤ conf.spool_freq) × (conf.spool_freq ≤ 3600)
