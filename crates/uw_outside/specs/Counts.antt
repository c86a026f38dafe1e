-- Counts kept in 64 bits, and calls that a list names by their number.
use Rattle.std.specs.Prelude.{ℕ, ◌+◌, ◌-◌, ◌^◌, min, List, Contains}

-- a count after one more: it stays at the last value of its type
abbrev pub next_count : ℕ → ℕ
next_count count = min (count + 1) (2 ^ 64 - 1)

-- the call after so many is listed, where calls are counted from 1
abbrev pub IsListed : List ℕ → ℕ → Type 0
IsListed numbers calls = Contains numbers (calls + 1)
