-- The parts of the regions that a configuration begins with.
use Rattle.std.proofs.Common.{◌≡◌, sym, ap₂, ◌∙◌, arith}
use Rattle.std.proofs.lemmas.List.{length-map}
use Rattle.uw_model.specs.Asks.{DeskParts}
use Rattle.uw_model.specs.Lists.{empty_lists}
use Rattle.uw_conf.specs.declared.conf.Conf.{Conf}
use Rattle.uw_conf.specs.Given.{parts_in}
use Rattle.uw_session.specs.Exchange.{HasParts}
use Rattle.uw_shared.specs.Regions.{Regions, RegionsStandFor, RegionsStandFor-parts, parts_of_regions}

-- regions that stand for empty lists have the parts of their configuration
pub region_parts : (conf : Conf) (regions : Regions) → RegionsStandFor regions (empty_lists conf.caches conf.areas) → parts_of_regions regions ≡ parts_in conf
region_parts conf regions stand =
    sym (RegionsStandFor-parts regions (empty_lists conf.caches conf.areas) stand)
    ∙ ap₂ (λ caches areas. let parts : DeskParts = record { caches = caches; areas = areas } in parts) (length-map conf.caches _) (length-map conf.areas _)

-- a configuration's own parts are enough for it
pub has_own_parts : (conf : Conf) → HasParts (parts_in conf) conf
has_own_parts conf = record { caches = omega arith; areas = omega arith }
