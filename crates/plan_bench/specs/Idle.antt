-- A cache between two calls (own rule).
use Rattle.std.specs.Prelude.{◌≡◌, ◌≤◌, ℕ, List, []}
use Rattle.uw_model.specs.declared.conf.CacheConf.{CacheConf}
use Rattle.uw_model.specs.declared.entries.Entry.{Entry}
use Rattle.uw_model.specs.Entries.{IsCacheConf}
use Rattle.uw_model.specs.Layout.{plan_room}
use Rattle.uw_words.specs.Plans.{Plan}
use Rattle.uw_plan.specs.Agreement.{Agrees}

-- the words agree with some list, and nothing is planned in an overlay with room for a call
pub record IsIdle (conf : CacheConf) (words : List ℕ) (plan : Plan) : Type 0 where
  pub is : IsCacheConf conf
  pub some : (list : List Entry) × Agrees conf words list
  pub empty : plan.writes ≡ []
  pub room : plan_room conf ≤ plan.room
