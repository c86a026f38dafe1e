use Rattle.std.proofs.Common.{◌≡◌, ◌-◌, ◌++◌, min}
use Rattle.regex.specs.Locations.{AreLocationsOf, location_count}
use Rattle.regex.specs.Patterns.{Match}
use Rattle.uw_chain.specs.Tests.{group_texts}
use Rattle.uw_chain.proofs.searches.captures.Given as goal

abbrev pub invariant-loop-group : goal.invariant-loop-group
invariant-loop-group l =
    (found : Match) → AreLocationsOf found l.locations
    → l.texts ++ group_texts l.subject found (l.group-end - l.group) l.group ≡ group_texts l.subject found (min 9 (location_count l.locations - 1)) 1
