-- A search for a free run goes on.
use Rattle.std.proofs.Common.{◌≡◌, ⊎_elim, ℕ, ◌+◌, ◌-◌, ◌<◌, ◌≤◌, Bool, true, false, sym, ap, ◌∙◌, arith}
use Rattle.std.proofs.lemmas.Bool.{cases_lt}
use Rattle.uw_bitmap.specs.Bits.{IsFreeRun, IsLeastFreeRun}
use Rattle.uw_bitmap.specs.SearchSteps.{IsSought}

module _ (marked : ℕ → Bool) (n : ℕ) where
  -- nothing is looked at yet
  pub begun : 0 < n → IsSought marked n 0 0
  begun some = record { before = omega arith; short = omega arith; free = λ block from to. absurd (omega arith); taken = λ first h. absurd (omega arith) }

  -- more blocks are unmarked, and there are still too few
  pub longer : (start at next : ℕ) → IsSought marked n start at → at ≤ next → next - start < n → ((block : ℕ) → at ≤ block → block < next → marked block ≡ false) → IsSought marked n start next
  longer start at next s on short unmarked = record {
    before = omega (arith, s.before);
    short = short;
    free = λ block from to. ⊎_elim (λ below. s.free block from below) (λ above. unmarked block above to) (cases_lt block at);
    taken = s.taken;
  }

  -- marked blocks end all runs that were open
  pub passed : (start at next : ℕ) → 0 < n → IsSought marked n start at → at < next → ((block : ℕ) → at ≤ block → block < next → marked block ≡ true) → IsSought marked n next next
  passed start at next some s on full = record {
    before = omega arith;
    short = omega arith;
    free = λ block from to. absurd (omega arith);
    taken = taken;
  }
    where
      taken : (first : ℕ) → first < next → (i : ℕ) × (i < n) × (marked (first + i) ≡ true)
      taken first h = ⊎_elim (λ before. s.taken first before) (λ after. ⊎_elim
          (λ under. let there : at ≡ first + (at - first) = omega arith in (at - first, omega (arith, s.short), ap marked (sym there) ∙ full at (omega arith) on))
          (λ here. let same : first + 0 ≡ first = omega arith in (0, some, ap marked same ∙ full first here h)) (cases_lt first at)) (cases_lt first start)

  no_run_before : (blocks start at first : ℕ) → IsSought marked n start at → first < start → IsFreeRun marked blocks first n → ⊥
  no_run_before blocks start at first s before run =
      let taken = s.taken first before in
      let other : true ≡ false = sym taken.2 ∙ run.free taken.0 taken.1 in
      grind (arith, other)

  -- enough blocks are unmarked
  pub found : (blocks start at next : ℕ) → IsSought marked n start at → n ≤ next - start → ((block : ℕ) → at ≤ block → block < next → marked block ≡ false) → start + n ≤ blocks → IsLeastFreeRun marked blocks start n
  found blocks start at next s enough unmarked within = record {
    run = record { within = within; free = λ i h. ⊎_elim (λ below. s.free (start + i) (omega arith) below) (λ above. unmarked (start + i) above (omega arith)) (cases_lt (start + i) at) };
    least = λ earlier before run. no_run_before blocks start at earlier s before run;
  }

  -- the blocks are too few for a run from here on
  pub none_within : (blocks start at first : ℕ) → IsSought marked n start at → blocks < start + n → IsFreeRun marked blocks first n → ⊥
  none_within blocks start at first s past run =
      ⊎_elim (λ before. no_run_before blocks start at first s before run) (λ after. absurd (omega (arith, run.within, after))) (cases_lt first start)

  -- all blocks are looked at
  pub none_left : (blocks start at first : ℕ) → IsSought marked n start at → blocks ≤ at → IsFreeRun marked blocks first n → ⊥
  none_left blocks start at first s all run = none_within blocks start at first s (omega (arith, s.short, s.before)) run
