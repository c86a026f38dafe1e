-- The regions of a desk, and the plain lists for which they stand (own rule).
use Rattle.std.specs.Prelude.{◌≡◌, ℕ, ◌==◌, ◌&&◌, Bool, List, length}
use Rattle.std.specs.List.{AllByRecursion, AllZip, list_all}
use Rattle.std.proofs.Common.{ap₂}
use Rattle.std.proofs.lemmas.Slice.Zip.{AllZip-long}
use Rattle.uw_model.specs.Asks.{DeskParts}
use Rattle.uw_model.specs.Entries.{IsCacheConf}
use Rattle.uw_model.specs.Lists.{Lists, parts_of}
use Rattle.uw_words.specs.Plans.{region}
use Rattle.uw_cache.specs.Vaults.{VaultView, vault_frame}
use Rattle.uw_area.specs.AreaWords.{area_frame}
use Rattle.uw_area.specs.AreaViews.{AreaView}
use Rattle.uw_shared.specs.Parts.{Stands, area_reading, cache_reading}

-- the regions of a desk: those of its caches, and those of its areas
pub record Regions : Type 0 where
  pub caches : List VaultView
  pub areas : List AreaView

-- how many caches and areas the regions are of
abbrev pub parts_of_regions : Regions → DeskParts
parts_of_regions regions = record { caches = length regions.caches; areas = length regions.areas }

-- place by place, and as many: the vaults stand for the caches, and the areas for their bytes
pub record RegionsStandFor (regions : Regions) (lists : Lists) : Type 0 where
  pub caches : AllZip (Stands cache_reading) regions.caches lists.caches
  pub areas : AllZip (Stands area_reading) regions.areas lists.areas

-- the regions are as many as the lists
pub RegionsStandFor-parts : (regions : Regions) (lists : Lists) → RegionsStandFor regions lists → parts_of lists ≡ parts_of_regions regions
RegionsStandFor-parts regions lists stand =
    ap₂ (λ (caches areas : ℕ). let parts : DeskParts = record { caches = caches; areas = areas } in parts)
    (AllZip-long (Stands cache_reading) regions.caches lists.caches stand.caches) (AllZip-long (Stands area_reading) regions.areas lists.areas stand.areas)

-- the gate of a vault is closed: no repair is pending
abbrev pub is_vault_closed : VaultView → Bool
is_vault_closed vault = region vault.words (vault_frame vault).gate == 0

-- the same of an area
abbrev pub is_area_closed : AreaView → Bool
is_area_closed area = region area.words (area_frame area.size).gate == 0

-- no region has an open gate
abbrev pub is_settled : Regions → Bool
is_settled regions = list_all is_vault_closed regions.caches && list_all is_area_closed regions.areas

-- what the regions of a desk are at any time: the configurations are within their limits, and the words stand for some lists
pub record AreRegions (regions : Regions) : Type 0 where
  pub limits : AllByRecursion (λ (vault : VaultView). IsCacheConf vault.conf) regions.caches
  pub lists : Lists
  pub stand : RegionsStandFor regions lists
