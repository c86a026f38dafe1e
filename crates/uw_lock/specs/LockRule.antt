-- What the lock's rule keeps, and what contracts see of a pass and a turn.
use Rattle.std.specs.Prelude.{◌≡◌, ◌≢◌, ℕ, ◌+◌, ◌*◌, ◌%◌, ◌^◌, ◌<◌, Bool, true, false, if◌then◌else◌, ◌==◌, List, [], ◌∷◌, ◌++◌, length, slice_index, Option, Some, None}
use mathlib.Core.Option.{some, none}
use lib.ListN.{get_elem?}
use Rattle.atomic_table.specs.Table.{State, Me}
use Rattle.atomic_table.specs.Seated.{TableId}
use Rattle.uw_lock.specs.declared.entries.Made.{Made}
use Rattle.uw_lock.specs.declared.entries.View.{View}

module _ {E : Type 0} where
  -- an entry of a history
  abbrev pub made : ℕ → ℕ → E → Made E
  made number moment entry = record { by = number; moment = moment; entry = entry }

  -- the history `all` begins with `begin`
  abbrev pub StartsWith : List (Made E) → List (Made E) → Type 0
  StartsWith all begin = (rest : List (Made E)) × (all ≡ begin ++ rest)

  -- the entries of one number, in order
  abbrev pub entries_by : ℕ → List (Made E) → List (Made E)
  entries_by number [] = []
  entries_by number (x ∷ xs) = if x.by == number then x ∷ entries_by number xs else entries_by number xs

  -- the history `all` begins with `begin`, and what comes after it has no entry of this number
  abbrev pub GrewByOthers : ℕ → List (Made E) → List (Made E) → Type 0
  GrewByOthers number all begin = (others : List (Made E)) × (all ≡ begin ++ others) × (entries_by number others ≡ [])

-- what a contract sees of a pass
pub record Known (E C : Type 0) : Type 0 where
  pub lock : TableId
  pub number : ℕ
  pub step : ℕ
  pub seen : List (Made E)
  pub mine : List (Made E)
  pub conf : Option C
  pub word : ℕ

-- what a contract sees of a turn
pub record Held (K E C : Type 0) : Type 0 where
  pub pass : Known E C
  pub value : K
  pub was_dead : Bool

module _ {E C : Type 0} where
  -- what a contract sees of a pass, by its view
  abbrev pub known : TableId → View E C → Known E C
  known lock v = record { lock = lock; number = v.number; step = v.step; seen = v.seen; mine = v.mine; conf = v.conf; word = v.word }

  -- the k-th number that a pass owns: it writes under the first, and gives away others
  abbrev pub owned : Known E C → ℕ → ℕ
  owned p k = p.number + k * p.step

  -- what the pass has seen has just the pass's own entries under its number
  abbrev pub HasOwn : Known E C → Type 0
  HasOwn p = entries_by p.number p.seen ≡ p.mine

  -- it owns every number, so there is no other pass
  abbrev pub IsOnly : Known E C → Type 0
  IsOnly p = (p.number ≡ 0) × (p.step ≡ 1)

  -- the k-th number that a view owns
  abbrev pub owns : View E C → ℕ → ℕ
  owns v k = v.number + k * v.step

  -- of its number a history has just the view's own entries, and of its further numbers none
  abbrev pub HasJustMine : View E C → List (Made E) → Type 0
  HasJustMine v history = (entries_by v.number history ≡ v.mine) × ((k : ℕ) → entries_by (owns v (k + 1)) history ≡ [])

module _ {K E C : Type 0} where
  -- a pass between two calls
  abbrev pub IsAtRest : Me (Option K) (View E C) → Type 0
  IsAtRest m = (m.1 ≡ []) × (0 < m.0.step) × (m.0.holds ≡ false) × (m.0.told ≡ []) × HasJustMine m.0 m.0.seen

  -- a pass in its turn, with the value in hand
  abbrev pub IsHolding : Me (Option K) (View E C) → Type 0
  IsHolding m = (m.1 ≡ (0, None) ∷ []) × (0 < m.0.step) × (m.0.holds ≡ true) × (m.0.told ≡ []) × HasJustMine m.0 m.0.seen

  -- a turn after a note
  abbrev pub with_note : Held K E C → ℕ → E → Held K E C
  with_note t moment entry = let e : Made E = made t.pass.number moment entry in record t { pass = record t.pass { seen = t.pass.seen ++ e ∷ []; mine = t.pass.mine ++ e ∷ [] } }

  -- a turn with another value in hand
  abbrev pub with_value : Held K E C → K → Held K E C
  with_value t value = record t { value = value }

module _ {E C : Type 0} where
  -- of a view that has numbers: it has the configuration, and the history and what it has seen have just its own entries
  abbrev pub FitsNumbers : C → List (Made E) → View E C → Type 0
  FitsNumbers c history v = 0 < v.step → (v.conf ≡ Some c) × HasJustMine v history × HasJustMine v v.seen

  -- a view fits the history: what it has seen and was told begins the history, and it has just its own entries there
  abbrev pub Fits : C → List (Made E) → View E C → Type 0
  Fits c history v = StartsWith history v.seen × StartsWith history v.told × FitsNumbers c history v

  -- each view fits the history
  abbrev pub AllFit : C → List (Made E) → List (View E C) → Type 0
  AllFit c history views = (id : ℕ) (v : View E C) → get_elem? views id ≡ some v → Fits c history v

  -- only this seat may hold, where the owner word is 1, and it has seen the whole history
  abbrev pub OnlyHolder : List (Made E) → ℕ → ℕ → List (View E C) → Type 0
  OnlyHolder history owner holder views = (id : ℕ) (v : View E C) → get_elem? views id ≡ some v → v.holds ≡ true → (owner ≡ 1) × (id ≡ holder) × (v.seen ≡ history)

  -- no number is owned by two views
  abbrev pub HaveOwnNumbers : List (View E C) → Type 0
  HaveOwnNumbers views = (i j : ℕ) (v w : View E C) → get_elem? views i ≡ some v → get_elem? views j ≡ some w → i ≢ j → 0 < v.step → 0 < w.step → (k l : ℕ) → owns v k ≢ owns w l

module _ {K E C : Type 0} (stands : K → List (Made E) → Type 0) (pending : K → Bool) (conf : K → C) where
  -- the value stands for the history and has the configuration; where the owner word is 0, no intent is pending
  abbrev pub IsFit : C → List (Made E) → ℕ → K → Type 0
  IsFit c history owner value = stands value history × (conf value ≡ c) × (owner ≡ 0 → pending value ≡ false)

  -- the last holder is a pass, and knows the owner word; where that is 1, it holds the lock still, and the slot is out with it
  abbrev pub IsLast : State (Option K) (View E C) → ℕ → View E C → Type 0
  IsLast s holder v = (get_elem? s.views holder ≡ some v) × (0 < v.step)
      × (slice_index s.words 0 ≢ 1 → v.word ≡ slice_index s.words 0) × (slice_index s.words 0 ≡ 1 → (v.holds ≡ true) × (get_elem? s.homes 0 ≡ some none))

  -- all that is true between two steps
  pub record HoldsHistory (c : C) (s : State (Option K) (View E C)) : Type 0 where
    pub history : List (Made E)
    pub holder : ℕ
    pub wide : length s.words ≡ 2
    pub owner : slice_index s.words 0 < 3
    pub count : slice_index s.words 1 ≡ length history % 2 ^ 64
    pub last : View E C
    pub lasts : IsLast s holder last
    -- where the owner word isn't 1, the slot is at home
    pub home : slice_index s.words 0 ≢ 1 → (value : K) × (get_elem? s.homes 0 ≡ some (some (Some value))) × IsFit c history (slice_index s.words 0) value
    pub only : OnlyHolder history (slice_index s.words 0) holder s.views
    pub fits : AllFit c history s.views
    pub apart : HaveOwnNumbers s.views

  -- what a lock is left with: the value stands for a history, which is all that the pass has seen and after that others' entries, and has of its number just its own;
  -- where the pass is the only one, there are no others
  abbrev pub IsWhole : Known E C → K → Type 0
  IsWhole p value = (history : List (Made E)) × stands value history × GrewByOthers p.number history p.seen × (entries_by p.number history ≡ p.mine) × (p.conf ≡ Some (conf value)) × (IsOnly p → history ≡ p.seen)

  -- there is a state of the rule in which the pass is as it is, and a seat other than its own holds the lock
  abbrev pub MayBeLeftHeld : Known E C → Type 0
  MayBeLeftHeld p = (c : C) × (s : State (Option K) (View E C)) × (id : ℕ) × (v : View E C) × HoldsHistory c s × (slice_index s.words 0 ≡ 1) × (get_elem? s.views id ≡ some v) × (known p.lock v ≡ p) × (v.holds ≡ false)

-- a pass that left the owner word so
abbrev pub left_at : {E C : Type 0} → ℕ → Known E C → Known E C
left_at word p = record p { word = word }
