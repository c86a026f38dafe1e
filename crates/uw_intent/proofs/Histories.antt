-- Which calls are in the history after a run, and with which answers.
use Rattle.std.proofs.Common.{◌≡◌, inl, inr, ℕ, ◌+◌, ◌≤◌, arith, cond, Bool, true, false, not, ◌||◌, ◌&&◌, List, [], ◌∷◌, ◌++◌, Option, Some, None, map, refl}
use Rattle.std.proofs.Common.{sym, ap, ◌∙◌, subst, append_assoc}
use Rattle.std.specs.List.{count_by}
use Rattle.std.specs.Option.{option_to_list}
use Rattle.std.proofs.lemmas.List.Sums.{sum_by-append}
use Rattle.std.proofs.lemmas.List.{append-nil, append_cancel_right, map-append}
use Rattle.uw_intent.specs.declared.frame.WordWrite.{WordWrite}
use Rattle.uw_intent.specs.Standing.{Kind, IsLocal}
use Rattle.uw_intent.specs.RightWrites.{is_opening}
use Rattle.uw_intent.specs.World.{Called, Event, taking, writing, leaving, dying, Step, taken, wrote, left_with, left_dead, Phase, repairing, calling, Lock}
use Rattle.uw_intent.specs.World.{free, dead, held, World, state_of, IsUnheld, HeldBy, has_joined, with_call, with_write, TakesLock, MakesWrite, LeavesLock}
use Rattle.uw_intent.specs.World.{Happens, RunsTo, IsFresh, Ended, holder_after, ended_by, ended, takes_of, joined_of, AreAnswers}
use Rattle.uw_intent.proofs.Worlds.{Holds, happens_holds, fresh_holds}

-- the call for which a lock is held
abbrev pub holder_of : {C A : Type 0} → Lock C A → Option (Called C)
holder_of free = None
holder_of dead = None
holder_of (held made phase) = Some made

-- the calls that ended
abbrev pub calls_of : {C A : Type 0} → List (Ended C A) → List (Called C)
calls_of all = map (λ e. e.made) all

-- a history that was the base, and the holder's call where it had joined, after one more write, after a leave, and after a death

module _ {C : Type 0} where
  grown : (joined opening : Bool) (history base : List (Called C)) (made : Called C) → history ≡ base ++ with_call joined [] made
      → with_call (not joined && opening) history made ≡ (base ++ []) ++ with_call (joined || opening) [] made
  grown true opening history base made before = before ∙ ap (λ (l : List (Called C)). l ++ made ∷ []) (sym (append-nil base))
  grown false true history base made before = ap (λ (l : List (Called C)). l ++ made ∷ []) before
  grown false false history base made before = before ∙ sym (append-nil (base ++ []))

  grown_last : (joined : Bool) (history base : List (Called C)) (made : Called C) → history ≡ base ++ with_call joined [] made
      → with_call (not joined) history made ≡ (base ++ made ∷ []) ++ []
  grown_last true history base made before = before ∙ sym (append-nil (base ++ made ∷ []))
  grown_last false history base made before =
      ap (λ (l : List (Called C)). l ++ made ∷ []) (before ∙ append-nil base) ∙ sym (append-nil (base ++ made ∷ []))

  cut_off : (A : Type 0) (joined : Bool) (who : ℕ) (history base : List (Called C)) (made : Called C) → history ≡ base ++ with_call joined [] made
      → history ≡ (base ++ calls_of (ended_by {C = C} {A = A} (Some made) (dying who) (left_dead joined))) ++ []
  cut_off A true who history base made before = before ∙ sym (append-nil (base ++ made ∷ []))
  cut_off A false who history base made before = before ∙ sym (append-nil (base ++ []))

module _ {C A : Type 0} where
  -- what an event does to a history that was the base, and the holder's call where it had joined
  pub record Moves (base : List (Called C)) (lock : Lock C A) (event : Event C) (step : Step A) (now : World C A) : Type 0 where
    pub history : now.history ≡ (base ++ calls_of (ended_by (holder_of lock) event step)) ++ joined_of now.lock
    pub holder : holder_of now.lock ≡ holder_after (holder_of lock) event

  -- the history stays, and the holder's call has not joined it
  stays_out : (w : World C A) (base : List (Called C)) (made : Called C) (phase : Phase A) (now : World C A) → w.history ≡ base ++ [] → has_joined phase ≡ false
      → now ≡ record w { lock = held made phase } → (now.history ≡ (base ++ []) ++ joined_of now.lock) × (holder_of now.lock ≡ Some made)
  stays_out w base made phase now before out same =
      subst (λ (v : World C A). (v.history ≡ (base ++ []) ++ joined_of v.lock) × (holder_of v.lock ≡ Some made)) (sym same)
      (before ∙ sym (ap (λ (b : Bool). (base ++ []) ++ with_call b [] made) out ∙ append-nil (base ++ [])), refl)

module _ {S C A : Type 0} (k : Kind S C A) (start : S) where
  take_moves : (w : World C A) (lock : Lock C A) (base : List (Called C)) (made : Called C) (step : Step A) (now : World C A)
      → w.history ≡ base ++ joined_of lock → IsUnheld lock
      → TakesLock k start w made now → Moves base lock (taking made) step now
  take_moves w lock base made step now before unheld takes = go lock before unheld
    where
      took : w.history ≡ base ++ [] → (now.history ≡ (base ++ []) ++ joined_of now.lock) × (holder_of now.lock ≡ Some made)
      took before = elim takes [
        | inl begun ↦ stays_out w base made (calling begun.1.answer begun.1.todo false) now before refl begun.1.is
        | inr pending ↦ stays_out w base made _ now before refl pending.1
      ]

      go : (lock : Lock C A) → w.history ≡ base ++ joined_of lock → IsUnheld lock → Moves base lock (taking made) step now
      go free before unheld = let moved = took before in record { history = moved.0; holder = moved.1 }
      go dead before unheld = let moved = took before in record { history = moved.0; holder = moved.1 }
      go (held other phase) before unheld = absurd unheld

  write_moves : (w : World C A) (base : List (Called C)) (who : ℕ) (made : Called C) (phase : Phase A) (step : Step A) (now : World C A)
      → w.history ≡ base ++ joined_of (held made phase)
      → MakesWrite k start w made phase now → Moves base (held made phase) (writing who) step now
  write_moves w base who made (repairing []) step now before writes = absurd writes
  write_moves w base who made (repairing (write ∷ [])) step now before begins =
      let moved = stays_out (with_write w write) base made (calling begins.answer begins.todo false) now before refl begins.is in
      record { history = moved.0; holder = moved.1 }
  write_moves w base who made (repairing (write ∷ later ∷ todo)) step now before same =
      let moved = stays_out (with_write w write) base made (repairing (later ∷ todo)) now before refl same in record { history = moved.0; holder = moved.1 }
  write_moves w base who made (calling answer [] joined) step now before writes = absurd writes
  write_moves w base who made (calling answer (write ∷ todo) joined) step now before same =
      subst (λ (v : World C A). Moves base (held made (calling answer (write ∷ todo) joined)) (writing who) step v) (sym same)
      record { history = grown joined (is_opening k.frame write) w.history base made before; holder = refl }

  leave_moves : (w : World C A) (base : List (Called C)) (who : ℕ) (made : Called C) (phase : Phase A) (step : Step A) (now : World C A)
      → w.history ≡ base ++ joined_of (held made phase)
      → LeavesLock k start w made phase step now → Moves base (held made phase) (leaving who) step now
  leave_moves w base who made (repairing todo) step now before leaves = absurd leaves
  leave_moves w base who made (calling answer (write ∷ todo) joined) step now before leaves = absurd leaves
  leave_moves w base who made (calling answer [] joined) step now before leaves =
      subst (λ (t : Step A). Moves base (held made (calling answer [] joined)) (leaving who) t now) (sym leaves.0)
      (subst (λ (v : World C A). Moves base (held made (calling answer [] joined)) (leaving who) (left_with answer) v) (sym leaves.1)
      record { history = grown_last joined w.history base made before; holder = refl })

  die_moves : (w : World C A) (base : List (Called C)) (who : ℕ) (made : Called C) (phase : Phase A) (step : Step A) (now : World C A)
      → w.history ≡ base ++ joined_of (held made phase)
      → step ≡ left_dead (has_joined phase) → now ≡ record w { lock = dead } → Moves base (held made phase) (dying who) step now
  die_moves w base who made phase step now before told same =
      subst (λ (t : Step A). Moves base (held made phase) (dying who) t now) (sym told)
      (subst (λ (v : World C A). Moves base (held made phase) (dying who) (left_dead (has_joined phase)) v) (sym same)
      record { history = cut_off A (has_joined phase) who w.history base made before; holder = refl })

  event_moves : (w : World C A) (base : List (Called C)) (event : Event C) (step : Step A) (now : World C A) → w.history ≡ base ++ joined_of w.lock
      → Happens k start w event step now
      → Moves base w.lock event step now
  event_moves w base (taking made) step now before happens = take_moves w w.lock base made step now before happens.0 happens.2
  event_moves w base (writing who) step now before happens = go w.lock before happens
    where
      go : (lock : Lock C A) → w.history ≡ base ++ joined_of lock → HeldBy who lock (λ made phase. (step ≡ wrote) × MakesWrite k start w made phase now)
          → Moves base lock (writing who) step now
      go free before none = absurd none
      go dead before none = absurd none
      go (held made phase) before writes = write_moves w base who made phase step now before writes.1.1
  event_moves w base (leaving who) step now before happens = go w.lock before happens
    where
      go : (lock : Lock C A) → w.history ≡ base ++ joined_of lock → HeldBy who lock (λ made phase. LeavesLock k start w made phase step now)
          → Moves base lock (leaving who) step now
      go free before none = absurd none
      go dead before none = absurd none
      go (held made phase) before leaves = leave_moves w base who made phase step now before leaves.1
  event_moves w base (dying who) step now before happens = go w.lock before happens
    where
      go : (lock : Lock C A) → w.history ≡ base ++ joined_of lock
          → HeldBy who lock (λ made phase. (step ≡ left_dead (has_joined phase)) × (now ≡ record w { lock = dead }))
          → Moves base lock (dying who) step now
      go free before none = absurd none
      go dead before none = absurd none
      go (held made phase) before dies = die_moves w base who made phase step now before dies.1.0 dies.1.1

  -- the history of a run
  pub run_history : (events : List (Event C)) (steps : List (Step A)) (w now : World C A) (base : List (Called C)) → w.history ≡ base ++ joined_of w.lock
      → RunsTo k start w events steps now
      → now.history ≡ (base ++ calls_of (ended (holder_of w.lock) events steps)) ++ joined_of now.lock
  run_history [] [] w now base before same =
      subst (λ (v : World C A). v.history ≡ (base ++ []) ++ joined_of v.lock) (sym same)
      (before ∙ ap (λ (l : List (Called C)). l ++ joined_of w.lock) (sym (append-nil base)))
  run_history [] (step ∷ steps) w now base before runs = absurd runs
  run_history (event ∷ events) [] w now base before runs = absurd runs
  run_history (event ∷ events) (step ∷ steps) w now base before runs =
      let mid = runs.0 in
      let first = ended_by (holder_of w.lock) event step in
      let moves = event_moves w base event step mid before runs.1 in
      let later = run_history events steps mid now (base ++ calls_of first) moves.history runs.2 in
      let rest = ended (holder_after (holder_of w.lock) event) events steps in
      later
      ∙ ap (λ (o : Option (Called C)). ((base ++ calls_of first) ++ calls_of (ended o events steps)) ++ joined_of now.lock) moves.holder
      ∙ ap (λ (l : List (Called C)). l ++ joined_of now.lock)
      (append_assoc base (calls_of first) (calls_of rest) ∙ ap (λ (l : List (Called C)). base ++ l) (sym (map-append (λ (e : Ended C A). e.made) first rest)))

  -- answers of calls one behind the other

  state_of-append : (s : S) (early late : List (Called C)) → state_of k s (early ++ late) ≡ state_of k (state_of k s early) late
  state_of-append s [] late = refl
  state_of-append s (made ∷ early) late = state_of-append (k.next s made.moment made.call) early late

  answers-append : (s : S) (early late : List (Ended C A)) → AreAnswers k s early → AreAnswers k (state_of k s (calls_of early)) late
      → AreAnswers k s (early ++ late)
  answers-append s [] late first then = then
  answers-append s (e ∷ early) late first then = (first.0, answers-append (k.next s e.made.moment e.made.call) early late first.1 then)

  -- what was in the history when a call began
  same_past : (joined : Bool) (history past base : List (Called C)) (made : Called C) → history ≡ with_call joined past made
      → history ≡ base ++ with_call joined [] made → past ≡ base
  same_past true history past base made is before = append_cancel_right past base (made ∷ []) (sym is ∙ before)
  same_past false history past base made is before = sym is ∙ before ∙ append-nil base

  leave_answers : (w : World C A) (base : List (Called C)) (who : ℕ) (made : Called C) (phase : Phase A) (step : Step A) (now : World C A)
      → Holds k start w (held made phase)
      → w.history ≡ base ++ joined_of (held made phase) → LeavesLock k start w made phase step now
      → AreAnswers k (state_of k start base) (ended_by (Some made) (leaving who) step)
  leave_answers w base who made (repairing todo) step now holds before leaves = absurd leaves
  leave_answers w base who made (calling answer (write ∷ todo) joined) step now holds before leaves = absurd leaves
  leave_answers w base who made (calling answer [] joined) step now call before leaves =
      let past : call.past ≡ base = same_past joined w.history call.past base made call.history before in
      subst (λ (t : Step A). AreAnswers k (state_of k start base) (ended_by (Some made) (leaving who) t)) (sym leaves.0)
      (call.right.told ∙ ap (λ (l : List (Called C)). k.answer (state_of k start l) made.moment made.call) past, tt)

  die_answers : (s : S) (made : Called C) (who : ℕ) (whole : Bool) → AreAnswers k s (ended_by (Some made) (dying who) (left_dead whole))
  die_answers s made who true = (tt, tt)
  die_answers s made who false = tt

  event_answers : (w : World C A) (base : List (Called C)) (event : Event C) (step : Step A) (now : World C A) → Holds k start w w.lock
      → w.history ≡ base ++ joined_of w.lock
      → Happens k start w event step now → AreAnswers k (state_of k start base) (ended_by (holder_of w.lock) event step)
  event_answers w base (taking made) step now holds before happens = go w.lock happens.0
    where
      go : (lock : Lock C A) → IsUnheld lock → AreAnswers k (state_of k start base) (ended_by (holder_of lock) (taking made) step)
      go free unheld = tt
      go dead unheld = tt
      go (held other phase) unheld = absurd unheld
  event_answers w base (writing who) step now holds before happens = go w.lock happens
    where
      go : (lock : Lock C A) → HeldBy who lock (λ made phase. (step ≡ wrote) × MakesWrite k start w made phase now)
          → AreAnswers k (state_of k start base) (ended_by (holder_of lock) (writing who) step)
      go free none = absurd none
      go dead none = absurd none
      go (held made phase) writes = tt
  event_answers w base (leaving who) step now holds before happens = go w.lock holds before happens
    where
      go : (lock : Lock C A) → Holds k start w lock → w.history ≡ base ++ joined_of lock
          → HeldBy who lock (λ made phase. LeavesLock k start w made phase step now)
          → AreAnswers k (state_of k start base) (ended_by (holder_of lock) (leaving who) step)
      go free holds before none = absurd none
      go dead holds before none = absurd none
      go (held made phase) holds before leaves = leave_answers w base who made phase step now holds before leaves.1
  event_answers w base (dying who) step now holds before happens = go w.lock happens
    where
      go : (lock : Lock C A) → HeldBy who lock (λ made phase. (step ≡ left_dead (has_joined phase)) × (now ≡ record w { lock = dead }))
          → AreAnswers k (state_of k start base) (ended_by (holder_of lock) (dying who) step)
      go free none = absurd none
      go dead none = absurd none
      go (held made phase) dies =
          subst (λ (t : Step A). AreAnswers k (state_of k start base) (ended_by (Some made) (dying who) t)) (sym dies.1.0)
          (die_answers (state_of k start base) made who (has_joined phase))

  -- the answers of a run
  pub run_answers : IsLocal k → (events : List (Event C)) (steps : List (Step A)) (w now : World C A) (base : List (Called C)) → Holds k start w w.lock
      → w.history ≡ base ++ joined_of w.lock
      → RunsTo k start w events steps now → AreAnswers k (state_of k start base) (ended (holder_of w.lock) events steps)
  run_answers is [] steps w now base holds before runs = tt
  run_answers is (event ∷ events) [] w now base holds before runs = tt
  run_answers is (event ∷ events) (step ∷ steps) w now base holds before runs =
      let mid = runs.0 in
      let first = ended_by (holder_of w.lock) event step in
      let moves = event_moves w base event step mid before runs.1 in
      let later = run_answers is events steps mid now (base ++ calls_of first) (happens_holds k start is w event step mid holds runs.1) moves.history runs.2 in
      answers-append (state_of k start base) first (ended (holder_after (holder_of w.lock) event) events steps)
      (event_answers w base event step mid holds before runs.1)
      (subst (λ (s : S). AreAnswers k s (ended (holder_after (holder_of w.lock) event) events steps)) (state_of-append start base (calls_of first))
      (subst (λ (o : Option (Called C)). AreAnswers k (state_of k start (base ++ calls_of first)) (ended o events steps)) moves.holder later))

  -- before the first event nobody holds the lock, and the history is empty
  pub fresh_history : (w : World C A) → IsFresh k start w → (w.history ≡ [] ++ joined_of w.lock) × (holder_of w.lock ≡ None)
  fresh_history w fresh = elim fresh.fits [
    | inl settled ↦ (fresh.none ∙ ap joined_of (sym settled.0), ap holder_of settled.0)
    | inr stands ↦ (fresh.none ∙ ap joined_of (sym stands.0), ap holder_of stands.0)
  ]

  pub history_of_run : (events : List (Event C)) (steps : List (Step A)) (w now : World C A) → IsFresh k start w → RunsTo k start w events steps now
      → now.history ≡ calls_of (ended None events steps) ++ joined_of now.lock
  history_of_run events steps w now fresh runs =
      let first = fresh_history w fresh in
      subst (λ (o : Option (Called C)). now.history ≡ calls_of (ended o events steps) ++ joined_of now.lock) first.1
      (run_history events steps w now [] first.0 runs)

  pub answers_of_run : IsLocal k → (events : List (Event C)) (steps : List (Step A)) (w now : World C A) → IsFresh k start w → RunsTo k start w events steps now
      → AreAnswers k start (ended None events steps)
  answers_of_run is events steps w now fresh runs =
      let first = fresh_history w fresh in
      subst (λ (o : Option (Called C)). AreAnswers k start (ended o events steps)) first.1
      (run_answers is events steps w now [] (fresh_holds k start is w fresh) first.0 runs)

  -- a death in a repair
  pub repair_death : (w now : World C A) (made : Called C) (todo : List WordWrite) (who : ℕ) (step : Step A) → w.lock ≡ held made (repairing todo)
      → Happens k start w (dying who) step now
      → (step ≡ left_dead false) × (now.words ≡ w.words) × (now.history ≡ w.history)
  repair_death w now made todo who step is dies =
      let Dies : Lock C A → Type 0 = λ lock. HeldBy who lock (λ made phase. (step ≡ left_dead (has_joined phase)) × (now ≡ record w { lock = dead })) in
      let died = subst Dies is dies in
      (died.1.0, ap (λ (v : World C A). v.words) died.1.1, ap (λ (v : World C A). v.history) died.1.1)

-- how many calls of a history pass a test, against how many takes do
module _ {C : Type 0} (p : Called C → Bool) where
  -- 1 or 0 for the call for which a lock is held
  abbrev of_holder : Option (Called C) → ℕ
  of_holder holder = count_by p (option_to_list holder)

  counts-append : (early late : List (Called C)) → count_by p (early ++ late) ≡ count_by p early + count_by p late
  counts-append early late = sum_by-append (λ (c : Called C). cond (p c) 1 0) early late

  one_event : (A : Type 0) (holder : Option (Called C)) (event : Event C) (step : Step A)
      → count_by p (calls_of (ended_by holder event step)) + of_holder (holder_after holder event) ≤ of_holder holder + count_by p (takes_of (event ∷ []))
  one_event A None (taking made) step = omega arith
  one_event A None (writing who) step = omega arith
  one_event A None (leaving who) step = omega arith
  one_event A None (dying who) step = omega arith
  one_event A (Some other) (taking made) step = omega arith
  one_event A (Some other) (writing who) step = omega arith
  one_event A (Some other) (leaving who) taken = omega arith
  one_event A (Some other) (leaving who) wrote = omega arith
  one_event A (Some other) (leaving who) (left_with answer) = omega arith
  one_event A (Some other) (leaving who) (left_dead whole) = omega arith
  one_event A (Some other) (dying who) taken = omega arith
  one_event A (Some other) (dying who) wrote = omega arith
  one_event A (Some other) (dying who) (left_with answer) = omega arith
  one_event A (Some other) (dying who) (left_dead true) = omega arith
  one_event A (Some other) (dying who) (left_dead false) = omega arith

  takes-more : (event : Event C) (events : List (Event C))
      → count_by p (takes_of (event ∷ events)) ≡ count_by p (takes_of (event ∷ [])) + count_by p (takes_of events)
  takes-more (taking made) events = counts-append (made ∷ []) (takes_of events)
  takes-more (writing who) events = omega arith
  takes-more (leaving who) events = omega arith
  takes-more (dying who) events = omega arith

  joined_held : {A : Type 0} → (lock : Lock C A) → count_by p (joined_of lock) ≤ of_holder (holder_of lock)
  joined_held free = omega arith
  joined_held dead = omega arith
  joined_held (held made phase) = go (has_joined phase)
    where
      go : (joined : Bool) → count_by p (with_call joined [] made) ≤ count_by p (made ∷ [])
      go true = omega arith
      go false = omega arith

  module _ {S A : Type 0} (k : Kind S C A) (start : S) where
    run_counts : (events : List (Event C)) (steps : List (Step A)) (w now : World C A) (base : List (Called C)) → w.history ≡ base ++ joined_of w.lock
        → RunsTo k start w events steps now
        → count_by p (calls_of (ended (holder_of w.lock) events steps)) + of_holder (holder_of now.lock)
        ≤ of_holder (holder_of w.lock) + count_by p (takes_of events)
    run_counts [] [] w now base before same =
        let lock : of_holder (holder_of now.lock) ≡ of_holder (holder_of w.lock) = ap (λ (v : World C A). of_holder (holder_of v.lock)) same in omega arith
    run_counts [] (step ∷ steps) w now base before runs = absurd runs
    run_counts (event ∷ events) [] w now base before runs = absurd runs
    run_counts (event ∷ events) (step ∷ steps) w now base before runs =
        let mid = runs.0 in
        let holder = holder_of w.lock in
        let first = ended_by holder event step in
        let moves = event_moves k start w base event step mid before runs.1 in
        let rest = ended (holder_after holder event) events steps in
        let later : count_by p (calls_of rest) + of_holder (holder_of now.lock) ≤ of_holder (holder_after holder event) + count_by p (takes_of events) =
        subst
        (λ (o : Option (Called C)). count_by p (calls_of (ended o events steps)) + of_holder (holder_of now.lock) ≤ of_holder o + count_by p (takes_of events))
        moves.holder
        (run_counts events steps mid now (base ++ calls_of first) moves.history runs.2) in
        let both : count_by p (calls_of (first ++ rest)) ≡ count_by p (calls_of first) + count_by p (calls_of rest) =
        ap (count_by p) (map-append (λ (e : Ended C A). e.made) first rest) ∙ counts-append (calls_of first) (calls_of rest) in
        omega (arith, one_event A holder event step, takes-more event events)

    pub take_counts : (events : List (Event C)) (steps : List (Step A)) (w now : World C A) → IsFresh k start w → RunsTo k start w events steps now
        → count_by p now.history ≤ count_by p (takes_of events)
    take_counts events steps w now fresh runs =
        let first = fresh_history k start w fresh in
        let calls = calls_of (ended (holder_of w.lock) events steps) in
        let whole : count_by p now.history ≡ count_by p calls + count_by p (joined_of now.lock) =
        ap (count_by p) (run_history k start events steps w now [] first.0 runs) ∙ counts-append calls (joined_of now.lock) in
        let bound = run_counts events steps w now [] first.0 runs in
        let last = joined_held now.lock in
        let nobody : of_holder (holder_of w.lock) ≡ 0 = ap (λ (o : Option (Called C)). of_holder o) first.1 in
        omega arith
