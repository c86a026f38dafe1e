-- The redo record of a region: the word writes that a commit makes, those by which a recovery finishes them, and what the words stand for meanwhile (own rule).
use Rattle.std.specs.Prelude.{◌≡◌, ◌≢◌, ◌⊎◌, ℕ, zero, suc, ◌+◌, ◌*◌, ◌<◌, ◌≤◌, List, [], ◌∷◌, ◌++◌, All, map, take, drop, length, if◌then◌else◌, ◌==◌}
use Rattle.uw_words.specs.Plans.{region}
use Rattle.uw_intent.specs.declared.frame.WordWrite.{WordWrite}
use Rattle.uw_intent.specs.declared.frame.Frame.{Frame}
use Rattle.uw_intent.specs.Stores.{words_after}

-- the gate and the used word stand before the record, which lies within a region of so many words
pub record IsFrame (frame : Frame) (len : ℕ) : Type 0 where
  pub gate : frame.gate ≡ 10
  pub used : frame.used ≡ 11
  pub start : 11 < frame.start
  pub within : frame.start + frame.room ≤ len

-- the place is none of the record's, nor the gate or the used word
pub record IsBeyond (frame : Frame) (at : ℕ) : Type 0 where
  pub outside : (at < frame.start) ⊎ (frame.start + frame.room ≤ at)
  pub gate : at ≢ frame.gate
  pub used : at ≢ frame.used

-- a place of a region of so many words that a run may write to
pub record IsTarget (frame : Frame) (len at : ℕ) : Type 0 where
  pub within : at < len
  pub beyond : IsBeyond frame at

-- The text of a record is runs, one after the other: a run is a place, a number of words, and the words.

-- the writes of a text that begins so many words before the end of a run, the next of which goes to the target
abbrev pub run_writes : (target left : ℕ) → List ℕ → List WordWrite
run_writes target zero [] = []
run_writes target zero (place ∷ []) = []
run_writes target zero (place ∷ count ∷ text) = run_writes place count text
run_writes target (suc left) [] = []
run_writes target (suc left) (word ∷ text) = record { at = target; word = word } ∷ run_writes (target + 1) left text

-- a text that begins so many words before the end of a run has whole runs, each of one word at least
abbrev pub IsWholeText : (left : ℕ) → List ℕ → Type 0
IsWholeText zero [] = Unit {0}
IsWholeText zero (place ∷ []) = ⊥
IsWholeText zero (place ∷ zero ∷ text) = ⊥
IsWholeText zero (place ∷ suc count ∷ text) = IsWholeText (suc count) text
IsWholeText (suc left) [] = ⊥
IsWholeText (suc left) (word ∷ text) = IsWholeText left text

-- the words of the record that are in use
abbrev pub record_text : Frame → List ℕ → List ℕ
record_text frame words = take (region words frame.used) (drop frame.start words)

-- the gate closes
abbrev pub closing : Frame → WordWrite
closing frame = record { at = frame.gate; word = 0 }

-- the writes that are left to be made: none where the gate is closed, else those of the runs, and the gate closes
abbrev pub repairs : Frame → List ℕ → List WordWrite
repairs frame words = if region words frame.gate == 0 then [] else run_writes 0 0 (record_text frame words) ++ closing frame ∷ []

-- what the words stand for: themselves, with the writes that are left
abbrev pub applied : Frame → List ℕ → List ℕ
applied frame words = words_after (repairs frame words) words

-- the record is whole, and its runs write to places beyond it
pub record IsRecord (frame : Frame) (words : List ℕ) : Type 0 where
  pub within : region words frame.used ≤ frame.room
  pub whole : IsWholeText 0 (record_text frame words)
  pub targets : All (λ write. IsTarget frame (length words) write.at) (run_writes 0 0 (record_text frame words))

-- the gate is closed, or it is open over a whole record
abbrev pub IsIntact : Frame → List ℕ → Type 0
IsIntact frame words = (region words frame.gate ≡ 0) ⊎ ((region words frame.gate ≡ 1) × IsRecord frame words)

-- what the words stand for is what a reader sees, beyond the record
abbrev pub StandsAs : Frame → List ℕ → (ℕ → ℕ) → Type 0
StandsAs frame words reader = (at : ℕ) → IsBeyond frame at → region (applied frame words) at ≡ reader at

-- the writes of words one behind the other
abbrev pub laid : ℕ → List ℕ → List WordWrite
laid at [] = []
laid at (word ∷ words) = record { at = at; word = word } ∷ laid (at + 1) words

-- a plan as runs of one word
abbrev pub runs_of : List (ℕ × ℕ) → List ℕ
runs_of [] = []
runs_of (planned ∷ plan) = planned.0 ∷ 1 ∷ planned.1 ∷ runs_of plan

-- the planned words at their places
abbrev pub copies : List (ℕ × ℕ) → List WordWrite
copies plan = map (λ planned. record { at = planned.0; word = planned.1 }) plan

-- the writes of a commit: the record, the used word, the gate opens, the planned words, the gate closes
abbrev pub commit_writes : Frame → List (ℕ × ℕ) → List WordWrite
commit_writes frame [] = []
commit_writes frame (planned ∷ plan) =
    let whole = planned ∷ plan in
    laid frame.start (runs_of whole) ++ record { at = frame.used; word = 3 * length whole } ∷ record { at = frame.gate; word = 1 } ∷ copies whole ++ closing frame ∷ []

-- a plan that the record has room for, and that names places beyond it
pub record FitsRecord (frame : Frame) (len : ℕ) (plan : List (ℕ × ℕ)) : Type 0 where
  pub room : 3 * length plan ≤ frame.room
  pub targets : All (λ planned. IsTarget frame len planned.0) plan
