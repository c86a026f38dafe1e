-- One call on a region that nobody holds, behind the repair where one is pending, as a turn of the region's world (own rule).
use Rattle.std.specs.Prelude.{◌≡◌, ℕ, Bool, true, false, List, [], Option, Result, Ok, Err, take, if◌then◌else◌}
use Rattle.uw_outside.specs.Lives.{Spends}
use Rattle.uw_intent.specs.declared.frame.Frame.{Frame}
use Rattle.uw_intent.specs.declared.frame.WordWrite.{WordWrite}
use Rattle.uw_intent.specs.declared.recoverable.CallFault.{CallFault}
use Rattle.uw_intent.specs.declared.recoverable.CallFault.TheVariants as faults
use Rattle.uw_intent.specs.Stores.{AllMade, SomeMade}
use Rattle.uw_intent.specs.Standing.{Kind, StandsFor}
use Rattle.uw_intent.specs.RightWrites.{has_opened}
use Rattle.uw_intent.specs.World.{Called, Event, leaving, dying, Step, left_with, left_dead, World, dead, Happens, with_call}
use Rattle.uw_intent.specs.CallTurns.{CallEnd, given, died, no_memory, IsCallTurn}

-- how a call with this result ended
abbrev pub end_of : {A : Type 0} → Result A CallFault → CallEnd A
end_of (Ok answer) = given answer
end_of (Err (faults.Died whole)) = died whole
end_of (Err faults.Memory) = no_memory

-- the call ended by a death
abbrev pub has_call_died : {A : Type 0} → Result A CallFault → Bool
has_call_died (Ok answer) = false
has_call_died (Err (faults.Died whole)) = true
has_call_died (Err faults.Memory) = false

-- a call that ended so is in the history
abbrev pub joins : {A : Type 0} → CallEnd A → Bool
joins (given answer) = true
joins (died whole) = whole
joins no_memory = false

-- the writes of a call that ended so: all of them with an answer; with a death as many as the life let through, and it says whether one of these opened the gate;
-- and none where there was no memory
abbrev pub IsCommitted : {A : Type 0} → Frame → List WordWrite → (before now : List ℕ) → (told left : Option (List ℕ)) → CallEnd A → Type 0
IsCommitted frame todo before now told left (given answer) = AllMade todo before now told left
IsCommitted frame todo before now told left (died whole) =
    (made : SomeMade todo before now told left) × (whole ≡ has_opened frame (take made.count todo))
IsCommitted frame todo before now told left no_memory = (now ≡ before) × (left ≡ told)

-- a region's words as a world before its next call: whoever held the lock is gone, and the history begins
abbrev pub world_of : {C A : Type 0} → List ℕ → World C A
world_of words = record { words = words; lock = dead; history = [] }

-- the event by which a call that ended so lets go of the lock: one that finds no memory is given up, as by a death before its first write
abbrev pub last_event : {C A : Type 0} → ℕ → CallEnd A → Event C
last_event who (given answer) = leaving who
last_event who (died whole) = dying who
last_event who no_memory = dying who

-- what that event answers
abbrev pub last_step : {A : Type 0} → CallEnd A → Step A
last_step (given answer) = left_with answer
last_step (died whole) = left_dead whole
last_step no_memory = left_dead false

module _ {S C A : Type 0} (k : Kind S C A) (s : S) where
  -- an answer that was given is the one of the state
  abbrev pub AnswersAs : ℕ → C → CallEnd A → Type 0
  AnswersAs moment call (given answer) = answer ≡ k.answer s moment call
  AnswersAs moment call (died whole) = Unit {0}
  AnswersAs moment call no_memory = Unit {0}

  -- the state behind a call that ended so
  abbrev pub state_behind : ℕ → C → CallEnd A → S
  state_behind moment call end = if joins end then k.next s moment call else s

  -- the lock is let go: of what has happened the history has just the call, where it joins
  pub record EndsTurn (w : World C A) (made : Called C) (end : CallEnd A) : Type 0 where
    pub after : World C A
    pub happens : Happens k s w (last_event made.who end) (last_step end) after
    pub history : after.history ≡ with_call (joins end) [] made
    pub words : after.words ≡ w.words

  -- words that stand for a state led by one call to these: in the world that begins with them the lock was taken, just so many writes were made, and the lock was
  -- let go; the answer is the state's, and the words stand for the state behind the call
  pub record IsOneTurn (before now : List ℕ) (told left : Option (List ℕ)) (writes : ℕ) (made : Called C) (end : CallEnd A) : Type 0 where
    pub turn : IsCallTurn k s (world_of before) made now told left end
    pub many : turn.writes ≡ writes
    pub ends : EndsTurn turn.after made end
    pub answer : AnswersAs made.moment made.call end
    pub stands : StandsFor k now (state_behind made.moment made.call end)

-- so many writes were let through, and for each state that the words stood for they led there by one call
pub record LedByTurn {S C A : Type 0} (k : Kind S C A) (before now : List ℕ) (told left : Option (List ℕ)) (made : Called C) (end : CallEnd A) : Type 0 where
  pub writes : ℕ
  pub spent : Spends told left writes
  pub turn : (s : S) → StandsFor k before s → IsOneTurn k s before now told left writes made end
