-- What a read takes from a source and a write gives to a sink, where these tell what they hold.
use Rattle.std.specs.Prelude.{◌≡◌, ℕ, ◌<◌, ◌≤◌, Bool, true, false, List, [], ◌++◌, length, take, Option, IfSome}
use Rattle.std.specs.Option.{option_map}
use Rattle.uw_outside.specs.Faults.{Rose}
use Rattle.uw_outside.specs.declared.source.Got.{Got}
use Rattle.uw_outside.specs.declared.source.Filled.{Filled}
use Rattle.uw_outside.specs.declared.sink.Put.{Put}
use Rattle.uw_outside.specs.declared.source.Got.TheVariants as got
use Rattle.uw_outside.specs.declared.source.Filled.TheVariants as filled
use Rattle.uw_outside.specs.declared.sink.Put.TheVariants as put

-- these bytes left the front of what the source has left; a source that does not tell says nothing
abbrev pub Takes : Option (List ℕ) → Option (List ℕ) → List ℕ → Type 0
Takes before now bytes = before ≡ option_map (λ rest. bytes ++ rest) now

-- these bytes were appended to what the sink has taken
abbrev pub Gives : Option (List ℕ) → Option (List ℕ) → List ℕ → Type 0
Gives before now bytes = now ≡ option_map (λ taken. taken ++ bytes) before

-- nothing is left, where the source tells
abbrev pub IsExhausted : Option (List ℕ) → Type 0
IsExhausted left = IfSome left (λ bytes. bytes ≡ [])

-- a read answered the end
abbrev pub is_end : Got → Bool
is_end (got.Count n) = false
is_end got.End = true
is_end got.Failed = false

-- a read failed
abbrev pub is_failed : Got → Bool
is_failed (got.Count n) = false
is_failed got.End = false
is_failed got.Failed = true

-- a read answered at least one byte, put at the front of the buffer; or the end, where nothing is left; or it failed and took nothing
abbrev pub Reads : Option (List ℕ) → Option (List ℕ) → List ℕ → Got → Type 0
Reads before now buffer (got.Count n) = (1 ≤ n) × (n ≤ length buffer) × Takes before now (take n buffer)
Reads before now buffer got.End = (now ≡ before) × IsExhausted before
Reads before now buffer got.Failed = now ≡ before

-- once a read has answered the end, every later one does
pub record Ends (before now : Bool) (answer : Got) : Type 0 where
  pub stays : before ≡ true → is_end answer ≡ true
  pub last : now ≡ is_end answer

-- a write failed
abbrev pub has_failed : Put → Bool
has_failed (put.Count n) = false
has_failed put.Failed = true

-- a write took at least one byte of the front of the piece, or it failed and took nothing
abbrev pub Writes : Option (List ℕ) → Option (List ℕ) → List ℕ → Put → Type 0
Writes before now piece (put.Count n) = (1 ≤ n) × (n ≤ length piece) × Gives before now (take n piece)
Writes before now piece put.Failed = now ≡ before

-- how many bytes stand at the front of a buffer that was to be filled
abbrev pub filled_count : List ℕ → Filled → ℕ
filled_count buffer filled.Whole = length buffer
filled_count buffer (filled.Short n) = n
filled_count buffer (filled.Failed n) = n

-- a read failed before the buffer was full
abbrev pub has_broken_off : Filled → Bool
has_broken_off filled.Whole = false
has_broken_off (filled.Short n) = false
has_broken_off (filled.Failed n) = true

-- why a buffer was not filled: the source ended, or a read failed
abbrev pub FillsBy : List ℕ → Option (List ℕ) → Bool → ℕ → ℕ → Filled → Type 0
FillsBy buffer left ended before now filled.Whole = Unit {0}
FillsBy buffer left ended before now (filled.Short n) = (n < length buffer) × (ended ≡ true) × IsExhausted left
FillsBy buffer left ended before now (filled.Failed n) = (n < length buffer) × Rose before now

-- a source over a call: what it had and has left, whether it is at its end now, and its count of faults before and now
pub record Inflow : Type 0 where
  pub before : Option (List ℕ)
  pub now : Option (List ℕ)
  pub ended : Bool
  pub faults_before : ℕ
  pub faults_now : ℕ

-- a source over a call, from its state before it and its state after it: `left`, `ended` and `faults` read a state
abbrev pub inflow : {S : Type 0} → (S → Option (List ℕ)) → (S → Bool) → (S → ℕ) → S → S → Inflow
inflow left ended faults old new = record { before = left old; now = left new; ended = ended new; faults_before = faults old; faults_now = faults new }

-- a sink over a call: what it had and has taken, and its count of faults before and now
pub record Outflow : Type 0 where
  pub before : Option (List ℕ)
  pub now : Option (List ℕ)
  pub faults_before : ℕ
  pub faults_now : ℕ

-- a sink over a call, from its state before it and its state after it: `taken` and `faults` read a state
abbrev pub outflow : {K : Type 0} → (K → Option (List ℕ)) → (K → ℕ) → K → K → Outflow
outflow taken faults old new = record { before = taken old; now = taken new; faults_before = faults old; faults_now = faults new }
