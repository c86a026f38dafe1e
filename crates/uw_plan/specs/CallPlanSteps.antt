-- The words that are planned for a call (own rule).
use Rattle.std.specs.Prelude.{◌≡◌, ℕ, ◌+◌, ◌*◌, ◌≤◌, List, [], length, true, false, Option, MatchOption, ℤ}
use Rattle.uw_model.specs.declared.conf.CacheConf.{CacheConf}
use Rattle.uw_model.specs.declared.entries.Entry.{Entry}
use Rattle.uw_model.specs.declared.calls.Call.{Call}
use Rattle.uw_model.specs.Entries.{IsCacheConf}
use Rattle.uw_model.specs.Laws.{is_refusal}
use Rattle.uw_model.specs.Calls.{answer, is_no_number, next_state, number_at}
use Rattle.uw_model.specs.Layout.{plan_room}
use Rattle.uw_words.specs.Shapes.{shape_words}
use Rattle.uw_words.specs.Numbers.{AreDistinct, IsOneOf}
use Rattle.uw_words.specs.Parts.{places_of, seen}
use Rattle.uw_words.specs.Plans.{Plan}
use Rattle.uw_intent.specs.RedoRecord.{IsTarget}
use Rattle.uw_plan.specs.Agreement.{Agrees, AgreesAs}
use Rattle.uw_plan.specs.Bounds.{most_writes}
use Rattle.uw_plan.specs.Regions.{frame_of, shape_of}

-- the words that are planned for a call on a list, from an overlay on that plans nothing: read through them a region agrees
-- with the next list; they are no more than the redo record has room for, their places are once each and may be written, a
-- commit of them makes no more writes than the call may, and for a refusal there are none
pub record IsPlanned (conf : CacheConf) (words : List ℕ) (plan : Plan) (list : List Entry) (now : ℕ) (call : Call) : Type 0 where
  pub items : List ℕ
  pub agrees : AgreesAs (seen plan words) (shape_of conf) conf items (next_state conf list now call)
  pub fits : length plan.writes ≤ plan_room conf
  pub once : AreDistinct (places_of plan.writes)
  pub targets : (at : ℕ) → IsOneOf (places_of plan.writes) at → IsTarget (frame_of (shape_of conf)) (shape_words (shape_of conf)) at
  pub few : 4 * length plan.writes + 3 ≤ most_writes conf list now call
  pub bare : is_refusal (answer conf list now call) ≡ true → plan.writes ≡ []

-- a region agrees with a list, and nothing is planned for it in an overlay with room for a call
pub record IsUnplanned (conf : CacheConf) (words : List ℕ) (plan : Plan) : Type 0 where
  pub is : IsCacheConf conf
  pub some : (list : List Entry) × Agrees conf words list
  pub empty : plan.writes ≡ []
  pub room : plan_room conf ≤ plan.room

-- the words planned for a call are those of each list with which the region agrees, which is one
abbrev pub PlansFor : CacheConf → List ℕ → Plan → ℕ → Call → Type 0
PlansFor conf words plan now call = (list : List Entry) → Agrees conf words list → IsPlanned conf words plan list now call

-- the number of an alive entry, 0 where there is none, or none where its value is none of a number
abbrev pub IsNumberAt : Option Entry → Option ℤ → Type 0
IsNumberAt alive number = MatchOption number (is_no_number alive ≡ true) (λ n. (is_no_number alive ≡ false) × (n ≡ number_at alive))
