-- The world of a region: its words, its lock and the calls of its history, and what each event does to them (own rule).
use Rattle.std.specs.Prelude.{◌≡◌, ◌≢◌, ◌⊎◌, ℕ, ◌&&◌, ◌||◌, Bool, true, false, not, if◌then◌else◌, List, [], ◌∷◌, ◌++◌, slice_set, Option, Some, None, IfSome}
use Rattle.uw_words.specs.Plans.{region}
use Rattle.uw_intent.specs.declared.frame.WordWrite.{WordWrite}
use Rattle.uw_intent.specs.Stores.{words_after}
use Rattle.uw_intent.specs.RedoRecord.{repairs}
use Rattle.uw_intent.specs.Standing.{Kind, StandsFor}
use Rattle.uw_intent.specs.RightWrites.{is_opening, has_opened, IsRight}

-- a call that a worker makes at a moment
pub record Called (C : Type 0) : Type 0 where
  pub who : ℕ
  pub moment : ℕ
  pub call : C

-- one action that happens whole or not at all: a worker takes the lock for a call, makes a word write, leaves the lock, or dies
pub data Event (C : Type 0) : Type 0 where
  taking : Called C → Event C
  writing : ℕ → Event C
  leaving : ℕ → Event C
  dying : ℕ → Event C

-- what an event answers: of a leave the call's answer, of a death whether the call is in the history
pub data Step (A : Type 0) : Type 0 where
  taken : Step A
  wrote : Step A
  left_with : A → Step A
  left_dead : Bool → Step A

-- what the holder of a lock is at: the writes that are left of a repair, or of its call, with the answer and whether the call has joined the history
pub data Phase (A : Type 0) : Type 0 where
  repairing : List WordWrite → Phase A
  calling : A → List WordWrite → Bool → Phase A

-- a lock is free, or its last holder died, or it is held for a call
pub data Lock (C A : Type 0) : Type 0 where
  free : Lock C A
  dead : Lock C A
  held : Called C → Phase A → Lock C A

-- words, a lock over them, and the calls that have joined the history, in their order
pub record World (C A : Type 0) : Type 0 where
  pub words : List ℕ
  pub lock : Lock C A
  pub history : List (Called C)

-- the state that calls leave, from a state on
abbrev pub state_of : {S C A : Type 0} → Kind S C A → S → List (Called C) → S
state_of k s [] = s
state_of k s (made ∷ history) = state_of k (k.next s made.moment made.call) history

-- whether the holder's call has joined the history
abbrev pub has_joined : {A : Type 0} → Phase A → Bool
has_joined (repairing todo) = false
has_joined (calling answer todo joined) = joined

-- the writes that are left
abbrev pub writes_left : {A : Type 0} → Phase A → List WordWrite
writes_left (repairing todo) = todo
writes_left (calling answer todo joined) = todo

-- a history, and the call where it joins
abbrev pub with_call : {C : Type 0} → Bool → List (Called C) → Called C → List (Called C)
with_call joins history made = if joins then history ++ made ∷ [] else history

module _ {C A : Type 0} where
  -- nobody holds the lock
  abbrev pub IsUnheld : Lock C A → Type 0
  IsUnheld free = Unit {0}
  IsUnheld dead = Unit {0}
  IsUnheld (held made phase) = ⊥

  -- this worker holds the lock, and so it is with its call and its phase
  abbrev pub HeldBy : ℕ → Lock C A → (Called C → Phase A → Type 0) → Type 0
  HeldBy who free so = ⊥
  HeldBy who dead so = ⊥
  HeldBy who (held made phase) so = (made.who ≡ who) × so made phase

  -- whether an event may happen under a lock: a take where nobody holds it; of the holder a write while one is left, a leave when none is, a death
  abbrev pub IsAllowed : Lock C A → Event C → Type 0
  IsAllowed lock (taking made) = IsUnheld lock
  IsAllowed lock (writing who) = HeldBy who lock (λ made phase. writes_left phase ≢ [])
  IsAllowed lock (leaving who) = HeldBy who lock (λ made phase. (answer : A) × (joined : Bool) × (phase ≡ calling answer [] joined))
  IsAllowed lock (dying who) = HeldBy who lock (λ made phase. Unit {0})

  -- a world after one word write
  abbrev pub with_write : World C A → WordWrite → World C A
  with_write w write = record w { words = slice_set w.words write.at write.word }

module _ {S C A : Type 0} (k : Kind S C A) (start : S) where
  -- the holder begins its call, with any answer and writes that are right
  pub record Begins (w : World C A) (made : Called C) (now : World C A) : Type 0 where
    pub answer : A
    pub todo : List WordWrite
    pub right : IsRight k w.words (state_of k start w.history) made.moment made.call answer todo
    pub is : now ≡ record w { lock = held made (calling answer todo false) }

  -- a worker takes the lock: where the gate is closed it begins its call, and where it is open it is first at the repair
  abbrev pub TakesLock : World C A → Called C → World C A → Type 0
  TakesLock w made now =
      ((region w.words k.frame.gate ≡ 0) × Begins w made now)
      ⊎ ((region w.words k.frame.gate ≢ 0) × (now ≡ record w { lock = held made (repairing (repairs k.frame w.words)) }))

  -- the holder makes the first write that is left: after the last one of a repair its call begins, and by the one that opens the gate it joins the history
  abbrev pub MakesWrite : World C A → Called C → Phase A → World C A → Type 0
  MakesWrite w made (repairing []) now = ⊥
  MakesWrite w made (repairing (write ∷ [])) now = Begins (with_write w write) made now
  MakesWrite w made (repairing (write ∷ later ∷ todo)) now = now ≡ record (with_write w write) { lock = held made (repairing (later ∷ todo)) }
  MakesWrite w made (calling answer [] joined) now = ⊥
  MakesWrite w made (calling answer (write ∷ todo) joined) now = now ≡ record {
    words = slice_set w.words write.at write.word;
    lock = held made (calling answer todo (joined || is_opening k.frame write));
    history = with_call (not joined && is_opening k.frame write) w.history made;
  }

  -- the holder, which has no write left, leaves the lock: a call that had no write joins the history here
  abbrev pub LeavesLock : World C A → Called C → Phase A → Step A → World C A → Type 0
  LeavesLock w made (repairing todo) step now = ⊥
  LeavesLock w made (calling answer (write ∷ todo) joined) step now = ⊥
  LeavesLock w made (calling answer [] joined) step now =
      (step ≡ left_with answer) × (now ≡ record w { lock = free; history = with_call (not joined) w.history made })

  -- what each event does: what is not said here does not happen
  abbrev pub Happens : World C A → Event C → Step A → World C A → Type 0
  Happens w (taking made) step now = IsUnheld w.lock × (step ≡ taken) × TakesLock w made now
  Happens w (writing who) step now = HeldBy who w.lock (λ made phase. (step ≡ wrote) × MakesWrite w made phase now)
  Happens w (leaving who) step now = HeldBy who w.lock (λ made phase. LeavesLock w made phase step now)
  Happens w (dying who) step now = HeldBy who w.lock (λ made phase. (step ≡ left_dead (has_joined phase)) × (now ≡ record w { lock = dead }))

  -- events one after the other, and what each answers
  abbrev pub RunsTo : World C A → List (Event C) → List (Step A) → World C A → Type 0
  RunsTo w [] [] now = now ≡ w
  RunsTo w [] (step ∷ steps) now = ⊥
  RunsTo w (event ∷ events) [] now = ⊥
  RunsTo w (event ∷ events) (step ∷ steps) now = (mid : World C A) × Happens w event step mid × RunsTo mid events steps now

  -- a world before its first event: its history is empty, and its lock is free over words that agree with the first state, or dead over words that stand for it
  pub record IsFresh (w : World C A) : Type 0 where
    pub none : w.history ≡ []
    pub fits : ((w.lock ≡ free) × k.agrees w.words start) ⊎ ((w.lock ≡ dead) × StandsFor k w.words start)

  -- a call under way: it began on words that agreed with the state of the history then, its writes are right, some are done and the others left, and it has
  -- joined the history exactly where one that is done opened the gate
  pub record IsUnderWay (w : World C A) (made : Called C) (answer : A) (todo : List WordWrite) (joined : Bool) : Type 0 where
    pub before : List ℕ
    pub past : List (Called C)
    pub done : List WordWrite
    pub agreed : k.agrees before (state_of k start past)
    pub right : IsRight k before (state_of k start past) made.moment made.call answer (done ++ todo)
    pub words : w.words ≡ words_after done before
    pub history : w.history ≡ with_call joined past made
    pub joins : joined ≡ has_opened k.frame done

-- each call on words that agree with a state has an answer and writes that are right
abbrev pub HasRightWrites : {S C A : Type 0} → Kind S C A → Type 0
HasRightWrites {S = S} {C = C} {A = A} k =
    (words : List ℕ) (s : S) (moment : ℕ) (call : C) → k.agrees words s → (answer : A) × (todo : List WordWrite) × IsRight k words s moment call answer todo

-- a call of a history, and its answer where it was given one
pub record Ended (C A : Type 0) : Type 0 where
  pub made : Called C
  pub answer : Option A

-- the call for which the lock is held, behind an event
abbrev pub holder_after : {C : Type 0} → Option (Called C) → Event C → Option (Called C)
holder_after holder (taking made) = Some made
holder_after holder (writing who) = holder
holder_after holder (leaving who) = None
holder_after holder (dying who) = None

-- the calls of the takes among events, in their order
abbrev pub takes_of : {C : Type 0} → List (Event C) → List (Called C)
takes_of [] = []
takes_of (taking made ∷ events) = made ∷ takes_of events
takes_of (writing who ∷ events) = takes_of events
takes_of (leaving who ∷ events) = takes_of events
takes_of (dying who ∷ events) = takes_of events

module _ {C A : Type 0} where
  -- the holder's call, where an event ended it and it counts: it was left, or the death says that it is whole
  abbrev pub ended_by : Option (Called C) → Event C → Step A → List (Ended C A)
  ended_by (Some made) (leaving who) (left_with answer) = record { made = made; answer = Some answer } ∷ []
  ended_by (Some made) (dying who) (left_dead true) = record { made = made; answer = None } ∷ []
  ended_by holder event step = []

  -- the calls of a run that ended so, one for each take at most, in their order; the first holder is the one before the run
  abbrev pub ended : Option (Called C) → List (Event C) → List (Step A) → List (Ended C A)
  ended holder [] steps = []
  ended holder (event ∷ events) [] = []
  ended holder (event ∷ events) (step ∷ steps) = ended_by holder event step ++ ended (holder_after holder event) events steps

  -- the call for which a lock is held, where it has joined the history
  abbrev pub joined_of : Lock C A → List (Called C)
  joined_of free = []
  joined_of dead = []
  joined_of (held made phase) = with_call (has_joined phase) [] made

-- each answer that was given is the one of the state that the calls before it leave
abbrev pub AreAnswers : {S C A : Type 0} → Kind S C A → S → List (Ended C A) → Type 0
AreAnswers k s [] = Unit {0}
AreAnswers k s (e ∷ ended) = IfSome e.answer (λ answer. answer ≡ k.answer s e.made.moment e.made.call) × AreAnswers k (k.next s e.made.moment e.made.call) ended
