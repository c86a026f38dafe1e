-- The search for a free run, block by block.
use Rattle.std.specs.Prelude.{◌≡◌, ℕ, ◌+◌, ◌-◌, ◌<◌, ◌≤◌, Bool, true, false}

-- blocks before `at` are looked at: those from `start` on are unmarked and fewer than wanted, and a run that begins before `start` has a marked block
pub record IsSought (marked : ℕ → Bool) (n start at : ℕ) : Type 0 where
  pub before : start ≤ at
  pub short : at - start < n
  pub free : (block : ℕ) → start ≤ block → block < at → marked block ≡ false
  pub taken : (first : ℕ) → first < start → (i : ℕ) × (i < n) × (marked (first + i) ≡ true)
