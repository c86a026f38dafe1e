-- A free run is sought round blocks that were just freed.
use Rattle.std.proofs.Common.{◌≡◌, ◌⊎◌, inl, inr, ⊎_elim, ℕ, ◌+◌, ◌-◌, ◌<◌, ◌≤◌, Bool, true, false, if◌then◌else◌, sym, ap, ◌∙◌, subst, arith}
use Rattle.std.proofs.lemmas.Bool.{cases_lt}
use Rattle.std.proofs.lemmas.Bool.Decides.{nat_tests}
use Rattle.uw_bitmap.specs.Bits.{IsFreeRun, IsLeastFreeRun, is_in_run}

-- all blocks from one on up to another are free
abbrev pub AreFree : (ℕ → Bool) → (from to : ℕ) → Type 0
AreFree marked from to = (block : ℕ) → from ≤ block → block < to → marked block ≡ false

module _ (marked : ℕ → Bool) where
  pub none_free : (at : ℕ) → AreFree marked at at
  none_free at = λ block from to. absurd (omega arith)

  -- one more before them
  pub more_before : (at to : ℕ) → marked (at - 1) ≡ false → AreFree marked at to → AreFree marked (at - 1) to
  more_before at to here free = λ block from below. ⊎_elim
      (λ under. let same : at - 1 ≡ block = omega arith in subst (λ (b : ℕ). marked b ≡ false) same here)
      (λ over. free block over below) (cases_lt block at)

  -- one more behind them
  pub more_behind : (from at : ℕ) → marked at ≡ false → AreFree marked from at → AreFree marked from (at + 1)
  more_behind from at here free = λ block above below. ⊎_elim
      (λ under. free block above under)
      (λ over. let same : at ≡ block = omega arith in subst (λ (b : ℕ). marked b ≡ false) same here) (cases_lt block at)

  -- free blocks side by side
  pub joined : (from at to : ℕ) → AreFree marked from at → AreFree marked at to → AreFree marked from to
  joined from at to front back = λ block above below. ⊎_elim
      (λ under. front block above under) (λ over. back block over below) (cases_lt block at)

  -- a run that is free has no marked block
  pub none_marked : (blocks start n block : ℕ) → IsFreeRun marked blocks start n → start ≤ block → block < start + n → marked block ≡ true → ⊥
  none_marked blocks start n block run from to here =
      let there : start + (block - start) ≡ block = omega arith in
      let other : true ≡ false = sym here ∙ subst (λ (b : ℕ). marked b ≡ false) there (run.free (block - start) (omega arith)) in
      grind (arith, other)

module _ (marked : ℕ → Bool) (blocks first m n : ℕ)
    (none : (start : ℕ) → IsFreeRun (λ block. if is_in_run first m block then true else marked block) blocks start n → ⊥) where
  outside : (block : ℕ) → (block < first) ⊎ (first + m ≤ block) → (if is_in_run first m block then true else marked block) ≡ marked block
  outside block out =
      let off : is_in_run first m block ≡ false = grind (arith, nat_tests) in
      ap (λ (b : Bool). if b then true else marked block) off

  -- a run that is free now meets the blocks that were freed
  meets_front : (start : ℕ) → IsFreeRun marked blocks start n → first < start + n
  meets_front start run = ⊎_elim (λ meets. meets) (λ before. absurd (none start (record {
    within = run.within;
    free = λ i h. outside (start + i) (inl (omega arith)) ∙ run.free i h;
  }))) (cases_lt first (start + n))

  meets_back : (start : ℕ) → IsFreeRun marked blocks start n → start < first + m
  meets_back start run = ⊎_elim (λ meets. meets) (λ behind. absurd (none start (record {
    within = run.within;
    free = λ i h. outside (start + i) (inr (omega arith)) ∙ run.free i h;
  }))) (cases_lt start (first + m))

  module _ (start end : ℕ) (before : start ≤ first) (behind : first + m ≤ end) (within : end ≤ blocks) (taken : 0 < start → marked (start - 1) ≡ true) where
    -- no run begins before the first block of all that are free together
    no_earlier : (earlier : ℕ) → earlier < start → IsFreeRun marked blocks earlier n → ⊥
    no_earlier earlier less run =
        none_marked marked blocks earlier n (start - 1) run (omega arith) (omega (arith, meets_front earlier run)) (taken (omega arith))

    -- where enough of them are together, they are the least run
    pub near_found : AreFree marked start end → n ≤ end - start → IsLeastFreeRun marked blocks start n
    near_found free enough = record {
      run = record { within = omega arith; free = λ i h. free (start + i) (omega arith) (omega arith) };
      least = no_earlier;
    }

    -- where they end too early, there is none
    pub near_none : end - start < n → (end ≡ blocks) ⊎ (marked end ≡ true) → (earlier : ℕ) → IsFreeRun marked blocks earlier n → ⊥
    near_none short ends earlier run = ⊎_elim
        (λ less. no_earlier earlier less run)
        (λ later. ⊎_elim
        (λ all. absurd (omega (arith, run.within, all)))
        (λ marked_end. none_marked marked blocks earlier n end run (omega (arith, meets_back earlier run)) (omega arith) marked_end)
        ends)
        (cases_lt earlier start)
