-- Counts of faults: a failure is answered only where the count of the object that failed rose.
use Rattle.std.specs.Prelude.{◌≡◌, ℕ, ◌+◌, ◌-◌, ◌^◌, ◌≤◌, min, Bool, IsTrue, not}

-- a count rose, or stands at the last value of its type
abbrev pub Rose : ℕ → ℕ → Type 0
Rose before now = min (before + 1) (2 ^ 64 - 1) ≤ now

-- a call that may fail: its count never falls, it rises where the call failed, and only there
pub record HasCause (before now : ℕ) (failed : Bool) : Type 0 where
  pub later : before ≤ now
  pub rose : IsTrue failed → Rose before now
  pub kept : IsTrue (not failed) → now ≡ before
