-- Which events happen.
use Rattle.std.proofs.Common.{◌≡◌, ◌≢◌, inl, inr, Bool, false, [], ◌∷◌, refl, sym, subst}
use Rattle.std.proofs.lemmas.Bool.{cases_eq}
use Rattle.uw_words.specs.Plans.{region}
use Rattle.uw_intent.specs.Standing.{Kind, IsLocal, StandsFor}
use Rattle.uw_intent.specs.World.{Called, Event, taking, writing, leaving, dying, Step, taken, wrote, left_with, left_dead, Phase, repairing, calling}
use Rattle.uw_intent.specs.World.{Lock, free, dead, held, World, state_of, has_joined, writes_left, HeldBy, IsAllowed, with_write, Begins, TakesLock}
use Rattle.uw_intent.specs.World.{MakesWrite, LeavesLock, Happens, HasRightWrites}
use Rattle.uw_intent.proofs.Rights.{standing_agree}
use Rattle.uw_intent.proofs.Worlds.{Holds, holding_stands, last_repair}

module _ {S C A : Type 0} (k : Kind S C A) (start : S) where
  -- an event that happens is allowed
  pub happens_allowed : (w : World C A) (event : Event C) (step : Step A) (now : World C A) → Happens k start w event step now → IsAllowed w.lock event
  happens_allowed w (taking made) step now happens = happens.0
  happens_allowed w (writing who) step now happens = go w.lock happens
    where
      left : (made : Called C) (phase : Phase A) → MakesWrite k start w made phase now → writes_left phase ≢ []
      left made (repairing []) none = absurd none
      left made (repairing (write ∷ todo)) writes = λ e. cc
      left made (calling answer [] joined) none = absurd none
      left made (calling answer (write ∷ todo) joined) writes = λ e. cc

      go : (lock : Lock C A) → HeldBy who lock (λ made phase. (step ≡ wrote) × MakesWrite k start w made phase now) → IsAllowed lock (writing who)
      go free none = absurd none
      go dead none = absurd none
      go (held made phase) writes = (writes.0, left made phase writes.1.1)
  happens_allowed w (leaving who) step now happens = go w.lock happens
    where
      done : (made : Called C) (phase : Phase A) → LeavesLock k start w made phase step now
          → (answer : A) × (joined : Bool) × (phase ≡ calling answer [] joined)
      done made (repairing todo) none = absurd none
      done made (calling answer [] joined) leaves = (answer, joined, refl)
      done made (calling answer (write ∷ todo) joined) none = absurd none

      go : (lock : Lock C A) → HeldBy who lock (λ made phase. LeavesLock k start w made phase step now) → IsAllowed lock (leaving who)
      go free none = absurd none
      go dead none = absurd none
      go (held made phase) leaves = (leaves.0, done made phase leaves.1)
  happens_allowed w (dying who) step now happens = go w.lock happens
    where
      go : (lock : Lock C A) → HeldBy who lock (λ made phase. (step ≡ left_dead (has_joined phase)) × (now ≡ record w { lock = dead }))
          → IsAllowed lock (dying who)
      go free none = absurd none
      go dead none = absurd none
      go (held made phase) dies = (dies.0, tt)

  module _ (is : IsLocal k) (rights : HasRightWrites k) where
    -- an event happens in some way
    abbrev HappensSo : World C A → Event C → Type 0
    HappensSo w event = (step : Step A) × (now : World C A) × Happens k start w event step now

    begins : (w : World C A) (made : Called C) → k.agrees w.words (state_of k start w.history) → (now : World C A) × Begins k start w made now
    begins w made agrees =
        let right = rights w.words (state_of k start w.history) made.moment made.call agrees in
        let now : World C A = record w { lock = held made (calling right.0 right.1 false) } in
        (now, record { answer = right.0; todo = right.1; right = right.2; is = refl })

    takes : (w : World C A) (made : Called C) → StandsFor k w.words (state_of k start w.history) → (now : World C A) × TakesLock k start w made now
    takes w made stands = elim (cases_eq (region w.words k.frame.gate) 0) [
      | inl closed ↦ let begun = begins w made (standing_agree k w.words (state_of k start w.history) stands closed) in (begun.0, inl (closed, begun.1))
      | inr pending ↦ (_, inr (pending, refl))
    ]

    writes : (w : World C A) (made : Called C) (phase : Phase A) → Holds k start w (held made phase) → writes_left phase ≢ []
        → (now : World C A) × MakesWrite k start w made phase now
    writes w made (repairing []) holds some = absurd (some refl)
    writes w made (repairing (write ∷ [])) holds some =
        begins (with_write w write) made (last_repair k start is (state_of k start w.history) w.words write holds)
    writes w made (repairing (write ∷ later ∷ todo)) holds some = (_, refl)
    writes w made (calling answer [] joined) holds some = absurd (some refl)
    writes w made (calling answer (write ∷ todo) joined) holds some = (_, refl)

    -- an allowed event happens
    pub allowed_happens : (w : World C A) (event : Event C) → Holds k start w w.lock → IsAllowed w.lock event → HappensSo w event
    allowed_happens w (taking made) holds allowed =
        let took = takes w made (holding_stands k start is w w.lock holds) in (taken, took.0, (allowed, refl, took.1))
    allowed_happens w (writing who) holds allowed = go w.lock holds allowed
      where
        go : (lock : Lock C A) → Holds k start w lock → IsAllowed lock (writing who)
            → (step : Step A) × (now : World C A) × HeldBy who lock (λ made phase. (step ≡ wrote) × MakesWrite k start w made phase now)
        go free holds none = absurd none
        go dead holds none = absurd none
        go (held made phase) holds left = let written = writes w made phase holds left.1 in (wrote, written.0, (left.0, (refl, written.1)))
    allowed_happens w (leaving who) holds allowed = go w.lock allowed
      where
        go : (lock : Lock C A) → IsAllowed lock (leaving who)
            → (step : Step A) × (now : World C A) × HeldBy who lock (λ made phase. LeavesLock k start w made phase step now)
        go free none = absurd none
        go dead none = absurd none
        go (held made phase) done =
            subst
            (λ (p : Phase A). (step : Step A) × (now : World C A) × HeldBy who (held made p) (λ made phase. LeavesLock k start w made phase step now))
            (sym done.1.2)
            (left_with done.1.0, _, (done.0, (refl, refl)))
    allowed_happens w (dying who) holds allowed = go w.lock allowed
      where
        go : (lock : Lock C A) → IsAllowed lock (dying who)
            → (step : Step A) × (now : World C A) × HeldBy who lock (λ made phase. (step ≡ left_dead (has_joined phase)) × (now ≡ record w { lock = dead }))
        go free none = absurd none
        go dead none = absurd none
        go (held made phase) held_by = (left_dead (has_joined phase), record w { lock = dead }, (held_by.0, (refl, refl)))
