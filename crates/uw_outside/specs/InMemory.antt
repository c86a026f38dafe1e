-- What the source and the sink in memory show.
use Rattle.std.specs.Prelude.{◌≡◌, ℕ, Bool, List, ◌++◌, length, take, drop, min}
use Rattle.uw_outside.specs.declared.source.Got.{Got}
use Rattle.uw_outside.specs.declared.sink.Put.{Put}
use Rattle.uw_outside.specs.declared.source.Got.TheVariants as got
use Rattle.uw_outside.specs.declared.sink.Put.TheVariants as put

-- a source: the bytes that are left, the numbers of the reads that fail, how many reads were made,
-- whether the last one answered the end, and how many failed
pub record Incoming : Type 0 where
  pub left : List ℕ
  pub fails : List ℕ
  pub reads : ℕ
  pub ended : Bool
  pub faults : ℕ

-- a sink: the bytes that it has taken, how many it can hold before it asks for memory,
-- the numbers of the writes that fail, how many writes were made, and how many failed
pub record Outgoing : Type 0 where
  pub taken : List ℕ
  pub room : ℕ
  pub fails : List ℕ
  pub writes : ℕ
  pub faults : ℕ

-- a read gives as many bytes as are left and fit
abbrev pub GivesMost : List ℕ → List ℕ → Got → Type 0
GivesMost left buffer (got.Count n) = n ≡ min (length left) (length buffer)
GivesMost left buffer got.End = Unit {0}
GivesMost left buffer got.Failed = Unit {0}

-- the buffer after a read: the bytes that it gave stand at the front, and the others stay
abbrev pub overwritten : List ℕ → List ℕ → Got → List ℕ
overwritten left buffer (got.Count n) = take n left ++ drop n buffer
overwritten left buffer got.End = buffer
overwritten left buffer got.Failed = buffer

-- a write takes the whole piece
abbrev pub TakesAll : List ℕ → Put → Type 0
TakesAll piece (put.Count n) = n ≡ length piece
TakesAll piece put.Failed = Unit {0}
