-- What each kind of step of the lock's table tells the seat that makes it.
use Rattle.std.specs.Prelude.{◌≡◌, ◌≢◌, ℕ, ◌+◌, ◌*◌, ◌<◌, Bool, true, false, ◌==◌, List, [], ◌∷◌, ◌++◌, Option, Some, None}
use Rattle.atomic_table.specs.Table.{Me, Step, rest}
use Rattle.uw_lock.specs.declared.entries.Made.{Made}
use Rattle.uw_lock.specs.declared.entries.View.{View}
use Rattle.uw_lock.specs.LockRule.{GrewByOthers, HasJustMine, StartsWith, made}

module _ {E C : Type 0} where
  -- the view of the first pass: it owns every number, and has seen nothing
  abbrev pub first_view : C → View E C
  first_view c = record { number = 0; step = 1; seen = []; told = []; mine = []; conf = Some c; holds = false; word = 0 }

  -- a pass that gives away every second of its numbers keeps the others
  abbrev pub divided : View E C → View E C
  divided v = record v { step = 2 * v.step }

  -- the pass that is given those numbers, and has no entries
  abbrev pub granted : View E C → View E C
  granted v = record v { number = v.number + v.step; step = 2 * v.step; mine = [] }

  -- what was seen, with no number and no configuration: a message, or the spent view that is left of it
  abbrev pub bare : List (Made E) → View E C
  bare seen = record { number = 0; step = 0; seen = seen; told = []; mine = []; conf = None; holds = false; word = 0 }

  -- the message that tells what a view has seen
  abbrev pub message_of : View E C → View E C
  message_of v = bare v.seen

  -- a view that was told by a message
  abbrev pub informed : View E C → View E C → View E C
  informed v w = record v { told = w.seen }

  -- the view that is left of a message
  abbrev pub spent_view : View E C
  spent_view = bare []

  -- a view after an entry of its own
  abbrev pub with_entry : View E C → Made E → View E C
  with_entry v e = record v { seen = v.seen ++ e ∷ []; mine = v.mine ++ e ∷ [] }

module _ {K E C : Type 0} (stands : K → List (Made E) → Type 0) (pending : K → Bool) (conf : K → C) where
  -- what the swap that tries to take the lock tells where it did
  abbrev pub Took : Me (Option K) (View E C) → ℕ → Me (Option K) (View E C) → Type 0
  Took m found n =
      (value : K) × (n.1 ≡ (0, Some value) ∷ m.1) × (n.0 ≡ record m.0 { seen = n.0.seen; holds = true; word = found }) × GrewByOthers m.0.number n.0.seen m.0.seen × HasJustMine n.0 n.0.seen
      × (n.0.conf ≡ Some (conf value)) × stands value n.0.seen × (found ≢ 2 → pending value ≡ false) × (m.0.number ≡ 0 → m.0.step ≡ 1 → (found ≡ m.0.word) × (n.0.seen ≡ m.0.seen))

  -- what the swap that tries to take the lock tells
  abbrev pub Taken : Step (Option K) → Me (Option K) (View E C) → ℕ → Me (Option K) (View E C) → Type 0
  Taken st m found n = (found ≡ 1 → n ≡ m) × (found ≢ 1 → Took m found n)

  -- the seat holds the lock, and its value is in hand
  abbrev pub HasTaken : Me (Option K) (View E C) → K → Bool → Me (Option K) (View E C) → Type 0
  HasTaken m value dead n =
      (n.1 ≡ (0, None) ∷ []) × (n.0 ≡ record m.0 { seen = n.0.seen; holds = true; word = n.0.word }) × GrewByOthers m.0.number n.0.seen m.0.seen × HasJustMine n.0 n.0.seen
      × (n.0.conf ≡ Some (conf value)) × stands value n.0.seen × (dead ≡ (n.0.word == 2)) × (n.0.word ≢ 2 → pending value ≡ false) × (m.0.number ≡ 0 → m.0.step ≡ 1 → (n.0.word ≡ m.0.word) × (n.0.seen ≡ m.0.seen))

module _ {K E C : Type 0} where
  -- the history so far was seen
  abbrev pub Looked : Step (Option K) → Me (Option K) (View E C) → ℕ → Me (Option K) (View E C) → Type 0
  Looked st m found n =
      (n.1 ≡ m.1) × (n.0 ≡ record m.0 { seen = n.0.seen; told = [] }) × GrewByOthers m.0.number n.0.seen m.0.seen × StartsWith n.0.seen m.0.told × HasJustMine n.0 n.0.seen

  -- the entry is the last of what was seen, and of the seat's own
  abbrev pub Noted : ℕ → ℕ → Option E → Step (Option K) → Me (Option K) (View E C) → ℕ → Me (Option K) (View E C) → Type 0
  Noted number moment entry st m found n = (e : E) → entry ≡ Some e → n ≡ (with_entry m.0 (made number moment e), m.1)

  -- the slot went home
  abbrev pub Left : Step (Option K) → Me (Option K) (View E C) → ℕ → Me (Option K) (View E C) → Type 0
  Left st m found n = n ≡ (record m.0 { holds = false; word = st.first }, rest m.1)

  -- a seat after a note
  abbrev pub noted : Me (Option K) (View E C) → ℕ → E → Me (Option K) (View E C)
  noted m moment entry = (with_entry m.0 (made m.0.number moment entry), m.1)

-- the value may be left with this owner word
abbrev pub IsEnding : {K E C : Type 0} → (K → List (Made E) → Type 0) → (K → Bool) → (K → C) → View E C → ℕ → K → Type 0
IsEnding stands pending conf v owner value = stands value v.seen × (v.conf ≡ Some (conf value)) × (owner < 3) × (owner ≢ 1) × (owner ≡ 0 → pending value ≡ false)
