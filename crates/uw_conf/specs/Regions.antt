-- The bytes of all regions together (own rule).
use Rattle.std.specs.Prelude.{ℕ, ◌+◌, ◌*◌, List, sum_by}
use Rattle.uw_model.specs.declared.conf.CacheConf.{CacheConf}
use Rattle.uw_model.specs.AreaLayout.{area_words}
use Rattle.uw_model.specs.Layout.{words_of}

-- the most bytes of all regions, eight for each word
abbrev pub most_region_bytes : ℕ
most_region_bytes = 1073741824

-- the bytes of the caches' regions, eight for each word
abbrev pub region_bytes : List CacheConf → ℕ
region_bytes caches = sum_by (λ conf. 8 * words_of conf) caches

-- the bytes of the areas' regions, eight for each word
abbrev pub area_bytes : List ℕ → ℕ
area_bytes areas = sum_by (λ size. 8 * area_words size) areas

-- the bytes of all regions
abbrev pub all_bytes : List CacheConf → List ℕ → ℕ
all_bytes caches areas = region_bytes caches + area_bytes areas
