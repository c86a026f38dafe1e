-- Which lists of word writes are right for a call on a region (own rule).
use Rattle.std.specs.Prelude.{◌≡◌, ◌⊎◌, ℕ, ◌+◌, ◌<◌, ◌≤◌, ◌==◌, ◌&&◌, Bool, List, [], ◌∷◌, ◌++◌, All, length, map}
use Rattle.std.specs.List.{list_any}
use Rattle.uw_words.specs.Plans.{region}
use Rattle.uw_words.specs.Numbers.{IsOneOf}
use Rattle.uw_intent.specs.declared.frame.WordWrite.{WordWrite}
use Rattle.uw_intent.specs.declared.frame.Frame.{Frame}
use Rattle.uw_intent.specs.Stores.{words_after}
use Rattle.uw_intent.specs.RedoRecord.{IsRecord, applied, closing, record_text, run_writes}
use Rattle.uw_intent.specs.Standing.{Kind}

-- the gate opens
abbrev pub opens : Frame → WordWrite
opens frame = record { at = frame.gate; word = 1 }

-- the write is the one by which the gate opens
abbrev pub is_opening : Frame → WordWrite → Bool
is_opening frame write = write.at == frame.gate && write.word == 1

-- one of the writes opens the gate
abbrev pub has_opened : Frame → List WordWrite → Bool
has_opened frame writes = list_any (is_opening frame) writes

-- the place is the used word or one of the record's
abbrev pub IsOfRecord : Frame → ℕ → Type 0
IsOfRecord frame at = (at ≡ frame.used) ⊎ ((frame.start ≤ at) × (at < frame.start + frame.room))

-- the words when the record is filled and the gate has opened
abbrev pub opened_by : Frame → List WordWrite → List ℕ → List ℕ
opened_by frame fill words = words_after (fill ++ opens frame ∷ []) words

-- the places to which the runs of the record write
abbrev pub copy_places : Frame → List ℕ → List ℕ
copy_places frame words = map (λ write. write.at) (run_writes 0 0 (record_text frame words))

-- the write puts the word that the words stand for to a place of a run
pub record IsCopy (frame : Frame) (words : List ℕ) (write : WordWrite) : Type 0 where
  pub target : IsOneOf (copy_places frame words) write.at
  pub word : write.word ≡ region (applied frame words) write.at

-- the writes fill the record, open the gate, copy and close it: once the gate has opened the words stand for the state after, and at the end they agree with it
pub record IsGated {S C A : Type 0} (k : Kind S C A) (words : List ℕ) (after : S) (todo : List WordWrite) : Type 0 where
  pub fill : List WordWrite
  pub copied : List WordWrite
  pub is : todo ≡ fill ++ opens k.frame ∷ copied ++ closing k.frame ∷ []
  pub only : All (λ write. IsOfRecord k.frame write.at) fill
  pub whole : IsRecord k.frame (opened_by k.frame fill words)
  pub stands : k.agrees (applied k.frame (opened_by k.frame fill words)) after
  pub copies : All (IsCopy k.frame (opened_by k.frame fill words)) copied
  pub last : (at : ℕ) → ¬ IsOfRecord k.frame at → region (words_after todo words) at ≡ region (applied k.frame (opened_by k.frame fill words)) at

-- the answer and the writes are right for a call on words that agree with a state: the answer is the call's; there are no writes and the words agree with the
-- next state too, or the writes lead through the gate to that state; and they are not too many
pub record IsRight {S C A : Type 0} (k : Kind S C A) (words : List ℕ) (s : S) (moment : ℕ) (call : C) (answer : A) (todo : List WordWrite) : Type 0 where
  pub told : answer ≡ k.answer s moment call
  pub plan : ((todo ≡ []) × k.agrees words (k.next s moment call)) ⊎ IsGated k words (k.next s moment call) todo
  pub few : length todo ≤ k.most s moment call
