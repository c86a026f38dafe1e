-- A cache as a region, with what its last call planned (own rule).
use Rattle.std.specs.Prelude.{◌≡◌, ℕ, true, List, [], length, Option}
use Rattle.uw_model.specs.declared.conf.CacheConf.{CacheConf}
use Rattle.uw_model.specs.declared.entries.Entry.{Entry}
use Rattle.uw_model.specs.declared.calls.Call.{Call}
use Rattle.uw_model.specs.declared.calls.Answer.{Answer}
use Rattle.uw_model.specs.Entries.{IsCacheConf}
use Rattle.uw_model.specs.Calls.{answer}
use Rattle.uw_model.specs.Layout.{plan_room, words_of}
use Rattle.uw_words.specs.Plans.{Plan}
use Rattle.uw_intent.specs.declared.frame.Frame.{Frame}
use Rattle.uw_intent.specs.declared.frame.WordWrite.{WordWrite}
use Rattle.uw_intent.specs.RedoRecord.{commit_writes}
use Rattle.uw_intent.specs.Standing.{StandsFor}
use Rattle.uw_intent.specs.RightWrites.{IsRight}
use Rattle.uw_intent.specs.CallTurns.{CallEnd, no_memory}
use Rattle.uw_intent.specs.OneTurn.{AnswersAs, IsCommitted, state_behind}
use Rattle.uw_plan.specs.Agreement.{Agrees}
use Rattle.uw_plan.specs.CacheKind.{cache_kind}
use Rattle.uw_plan.specs.Regions.{frame_of, shape_of}
use Rattle.uw_plan.specs.Told.{may_copy}

-- a vault: its configuration, its words, and the words that its last call planned
pub record VaultView : Type 0 where
  pub conf : CacheConf
  pub words : List ℕ
  pub plan : List (ℕ × ℕ)

-- where the redo record of a vault stands
abbrev pub vault_frame : VaultView → Frame
vault_frame vault = frame_of (shape_of vault.conf)

-- the writes of a vault's last call, those too that a death left unmade
abbrev pub vault_writes : VaultView → List WordWrite
vault_writes vault = commit_writes (vault_frame vault) vault.plan

-- what a vault is at any time: the configuration is within its limits, the words are as many as it says and stand for some
-- list, one overlay has room for the plan of any call, and the other plans nothing
pub record IsVault (conf : CacheConf) (words : List ℕ) (over blank : Plan) : Type 0 where
  pub is : IsCacheConf conf
  pub len : length words ≡ words_of conf
  pub room : over.room ≡ plan_room conf
  pub empty : blank.writes ≡ []
  pub list : List Entry
  pub stands : StandsFor (cache_kind conf) words list

-- a call led from one vault to another and ended so, whatever was planned before it: its writes are right for each list with
-- which the words agreed, and so many of them were made as the end tells; the answer is the list's, and the words stand for the
-- list behind the call; and memory was wanting only for a call that may copy
pub record IsVaultCall (before now : VaultView) (told left : Option (List ℕ)) (moment : ℕ) (call : Call) (end : CallEnd Answer) : Type 0 where
  pub right : (list : List Entry) → Agrees before.conf before.words list
      → IsRight (cache_kind before.conf) before.words list moment call (answer before.conf list moment call) (vault_writes now)
  pub writes : IsCommitted (vault_frame before) (vault_writes now) before.words now.words told left end
  pub answer : (list : List Entry) → Agrees before.conf before.words list → AnswersAs (cache_kind before.conf) list moment call end
  pub stands : (list : List Entry) → Agrees before.conf before.words list
      → StandsFor (cache_kind before.conf) now.words (state_behind (cache_kind before.conf) list moment call end)
  pub conf : now.conf ≡ before.conf
  pub memory : end ≡ no_memory → may_copy call ≡ true
