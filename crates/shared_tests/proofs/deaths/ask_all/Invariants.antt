use Rattle.std.proofs.Common.{◌≡◌, true}
use Rattle.uw_model.specs.Lists.{parts_of}
use Rattle.uw_shared.specs.Regions.{parts_of_regions}
use Rattle.shared_tests.proofs.deaths.ask_all.Given as goal

abbrev pub invariant-loop-what : goal.invariant-loop-what
invariant-loop-what l =
    (parts_of_regions l.regions ≡ record { caches = 2; areas = 1 }) × (parts_of l.lists ≡ record { caches = 2; areas = 1 }) × (l.life.alive ≡ true)
