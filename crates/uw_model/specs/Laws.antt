-- What the laws of the definitions speak of.
use Rattle.std.specs.Prelude.{◌≡◌, ℕ, ℤ, ◌+◌, ◌<◌, ◌≤◌, Bool, true, false, List, [], ◌∷◌, take, length, IsTrue, Some}
use Rattle.uw_model.specs.declared.conf.CacheConf.{CacheConf}
use Rattle.uw_model.specs.declared.entries.Entry.{Entry}
use Rattle.uw_model.specs.declared.calls.Answer.{Answer}
use Rattle.uw_model.specs.declared.calls.Answer.TheVariants as answers
use Rattle.uw_model.specs.declared.calls.MathOp.TheVariants as ops
use Rattle.uw_model.specs.declared.calls.Call.TheVariants as calls
use Rattle.uw_model.specs.Entries.{new_entry, span}
use Rattle.uw_model.specs.Placement.{is_free, first_run, fits, room}
use Rattle.uw_model.specs.Calls.{without, answer, next_state}

-- the answer refuses the call
abbrev pub is_refusal : Answer → Bool
is_refusal answers.Exists = true
is_refusal answers.Full = true
is_refusal answers.KeyLength = true
is_refusal answers.TooLong = true
is_refusal answers.NotNumber = true
is_refusal answers.Range = true
is_refusal answers.ZeroDivisor = true
is_refusal _ = false

-- n blocks exist from the place on and are free, and from no place before it
pub record IsLeastRun (conf : CacheConf) (list : List Entry) (n place : ℕ) : Type 0 where
  pub within : place + n ≤ conf.blocks
  pub free : IsTrue (is_free conf list n place)
  pub least : (before : ℕ) → before < place → is_free conf list n before ≡ false

-- the front of the list of `count` entries, which leaves room for one more of n blocks; no longer one does
pub record IsLongestFront (conf : CacheConf) (list : List Entry) (n : ℕ) (front : List Entry) : Type 0 where
  pub count : ℕ
  pub within : count ≤ length list
  pub same : front ≡ take count list
  pub room : IsTrue (fits conf front n)
  pub longest : (more : ℕ) → count < more → more ≤ length list → fits conf (take more list) n ≡ false

-- the list after amounts were added to the number of a key, one after the other at one moment
abbrev pub list_after_amounts : CacheConf → List Entry → ℕ → List ℕ → ℕ → List ℤ → List Entry
list_after_amounts conf list now key ttl [] = list
list_after_amounts conf list now key ttl (by ∷ amounts) = list_after_amounts conf (next_state conf list now (calls.Math ops.Inc key by ttl)) now key ttl amounts

-- none of these calls is refused
abbrev pub TakesAmounts : CacheConf → List Entry → ℕ → List ℕ → ℕ → List ℤ → Type 0
TakesAmounts conf list now key ttl [] = Unit {0}
TakesAmounts conf list now key ttl (by ∷ amounts) =
    (is_refusal (answer conf list now (calls.Math ops.Inc key by ttl)) ≡ false)
    × TakesAmounts conf (next_state conf list now (calls.Math ops.Inc key by ttl)) now key ttl amounts

-- a value written under a key left this list: the entry stands in front of the list that had room for it, at that list's first run
pub record IsWritten (conf : CacheConf) (list : List Entry) (now : ℕ) (key value : List ℕ) (dies : ℕ) (after : List Entry) : Type 0 where
  pub kept : List Entry
  pub place : ℕ
  pub room : room conf (without key list) (span conf value) now ≡ Some kept
  pub run : first_run conf kept (span conf value) ≡ Some place
  pub front : after ≡ new_entry key value dies place now ∷ kept
