-- A cache twice: as a region and as a plain list.
use Rattle.std.specs.Prelude.{◌≡◌, ◌≤◌, []}
use Rattle.uw_model.specs.Entries.{IsCacheConf}
use Rattle.uw_model.specs.Layout.{plan_room}
use Rattle.uw_plan.specs.Agreement.{Agrees}
use Rattle.plan_tests.specs.declared.twins.Twin.{Twin}

-- the region agrees with the list of the plain cache, both have one configuration, and nothing is planned in an overlay with
-- room for a call
pub record AreTwins (twin : Twin) : Type 0 where
  pub is : IsCacheConf twin.conf
  pub agrees : Agrees twin.conf twin.ram twin.list.list
  pub same : twin.list.conf ≡ twin.conf
  pub empty : twin.over.writes ≡ []
  pub room : plan_room twin.conf ≤ twin.over.room
