-- How the regions of a desk begin: they stand for empty caches and blank areas, and no gate is open.
use Rattle.std.proofs.Common.{◌≡◌, ℕ, true, List, [], ◌∷◌, refl, sym, ◌∙◌, subst, eq-eqb}
use Rattle.std.specs.List.{AllByRecursion, AllZip, list_all}
use Rattle.uw_model.specs.declared.conf.CacheConf.{CacheConf}
use Rattle.uw_model.specs.AreaOps.{blank_area}
use Rattle.uw_model.specs.Areas.{blank_areas}
use Rattle.uw_model.specs.Caches.{empty_caches}
use Rattle.uw_model.specs.Entries.{IsCacheConf}
use Rattle.uw_words.specs.Plans.{region}
use Rattle.uw_intent.specs.Standing.{StandsFor}
use Rattle.uw_intent.proofs.Rights.{agreeing_stand}
use Rattle.uw_plan.specs.CacheKind.{cache_kind}
use Rattle.uw_plan.proofs.Agreeing.{regions_local}
use Rattle.uw_cache.specs.Vaults.{VaultView}
use Rattle.uw_area.specs.AreaKind.{area_kind}
use Rattle.uw_area.specs.AreaViews.{AreaView}
use Rattle.uw_area.proofs.Standing.{area_local}
use Rattle.uw_shared.specs.BeginningSteps.{BeginsAsArea, BeginsAsCache}
use Rattle.uw_shared.specs.Parts.{Stands, area_reading, cache_reading}
use Rattle.uw_shared.specs.Regions.{is_area_closed, is_vault_closed}
use Rattle.uw_shared.proofs.Places.{join_true}

-- ---- caches

cache_stands : (conf : CacheConf) (vault : VaultView) → IsCacheConf conf → BeginsAsCache conf vault
    → Stands cache_reading vault (record { conf = conf; list = [] })
cache_stands conf vault is begins = record {
  conf = begins.conf;
  stands = subst (λ (c : CacheConf). StandsFor (cache_kind c) vault.words []) (sym begins.conf)
      (agreeing_stand (cache_kind conf) (regions_local conf is) vault.words [] begins.empty);
}

pub caches_stand : (confs : List CacheConf) (vaults : List VaultView) → AllByRecursion IsCacheConf confs → AllZip BeginsAsCache confs vaults
    → AllZip (Stands cache_reading) vaults (empty_caches confs)
caches_stand [] [] is begin = tt
caches_stand [] (vault ∷ vaults) is begin = absurd begin
caches_stand (conf ∷ confs) [] is begin = absurd begin
caches_stand (conf ∷ confs) (vault ∷ vaults) is begin = (cache_stands conf vault is.0 begin.0, caches_stand confs vaults is.1 begin.1)

pub caches_within : (confs : List CacheConf) (vaults : List VaultView) → AllByRecursion IsCacheConf confs → AllZip BeginsAsCache confs vaults
    → AllByRecursion (λ (vault : VaultView). IsCacheConf vault.conf) vaults
caches_within [] [] is begin = tt
caches_within [] (vault ∷ vaults) is begin = absurd begin
caches_within (conf ∷ confs) [] is begin = absurd begin
caches_within (conf ∷ confs) (vault ∷ vaults) is begin = (subst IsCacheConf (sym begin.0.conf) is.0, caches_within confs vaults is.1 begin.1)

pub caches_closed : (confs : List CacheConf) (vaults : List VaultView) → AllZip BeginsAsCache confs vaults
    → list_all is_vault_closed vaults ≡ true
caches_closed [] [] begin = refl
caches_closed [] (vault ∷ vaults) begin = absurd begin
caches_closed (conf ∷ confs) [] begin = absurd begin
caches_closed (conf ∷ confs) (vault ∷ vaults) begin =
    join_true (is_vault_closed vault) (list_all is_vault_closed vaults)
    (eq-eqb (region vault.words 10) 0 begin.0.empty.closed) (caches_closed confs vaults begin.1)

-- ---- areas

area_stands : (size : ℕ) (area : AreaView) → BeginsAsArea size area → Stands area_reading area (blank_area size)
area_stands size area begins =
    let stands : StandsFor (area_kind size) area.words (blank_area size) =
    agreeing_stand (area_kind size) (area_local size) area.words (blank_area size) begins.blank in
    record {
      conf = begins.size ∙ sym begins.blank.holds.many;
      stands = subst (λ (n : ℕ). StandsFor (area_kind n) area.words (blank_area size)) (sym begins.size) stands;
    }

pub areas_stand : (sizes : List ℕ) (areas : List AreaView) → AllZip BeginsAsArea sizes areas → AllZip (Stands area_reading) areas (blank_areas sizes)
areas_stand [] [] begin = tt
areas_stand [] (area ∷ areas) begin = absurd begin
areas_stand (size ∷ sizes) [] begin = absurd begin
areas_stand (size ∷ sizes) (area ∷ areas) begin = (area_stands size area begin.0, areas_stand sizes areas begin.1)

pub areas_closed : (sizes : List ℕ) (areas : List AreaView) → AllZip BeginsAsArea sizes areas
    → list_all is_area_closed areas ≡ true
areas_closed [] [] begin = refl
areas_closed [] (area ∷ areas) begin = absurd begin
areas_closed (size ∷ sizes) [] begin = absurd begin
areas_closed (size ∷ sizes) (area ∷ areas) begin =
    join_true (is_area_closed area) (list_all is_area_closed areas)
    (eq-eqb (region area.words 10) 0 begin.0.blank.closed) (areas_closed sizes areas begin.1)
