-- Bits of one word.
use Rattle.std.proofs.Common.{◌≡◌, ℕ, bit_and, bit_or, ◌+◌, ◌-◌, ◌/◌, ◌%◌, ◌^◌, ◌<◌, ◌≤◌, min, ⊎_elim, sym, ap, ◌∙◌, subst, arith}
use Rattle.std.specs.Int.{bit_at, bit_not, trailing_zeros, w64}
use Rattle.std.proofs.Math.Pow.{pow_mono}
use Rattle.std.proofs.lemmas.Bool.{cases_lt}
use Rattle.std.proofs.lemmas.Nat.{shr_le, shr-shr, pow_pos}
use Rattle.std.proofs.lemmas.Nat.Bits.{bit_at-zero, bit_at-trailing_zeros, bit_at_above, bit_at_ones, bit_at_ones_above, same_from_bits, bit_at_or, bit_at_and, bit_at_not, bit_at-lt, bit_at_mask_inside, bit_at_mask_below, bit_at_mask_above}

pub shifted : (word from i : ℕ) → bit_at (word / 2 ^ from) i ≡ bit_at word (from + i)
shifted word from i = ap (λ x. x % 2) (shr-shr word from i)

-- no bit is 1 where nothing is left behind the shift
pub none_from : (word from i : ℕ) → word / 2 ^ from ≡ 0 → from ≤ i → bit_at word i ≡ 0
none_from word from i nothing behind =
    let there : from + (i - from) ≡ i = omega arith in
    subst (λ (j : ℕ). bit_at word j ≡ 0) there (sym (shifted word from (i - from)) ∙ ap (λ x. bit_at x (i - from)) nothing ∙ bit_at-zero (i - from))

-- the first 1 from a place on
pub record IsFirstOne (word from one : ℕ) : Type 0 where
  pub within : one < 64
  pub is : bit_at word one ≡ 1
  pub before : (i : ℕ) → from ≤ i → i < one → bit_at word i ≡ 0

pub first_one : (word from : ℕ) → word < 2 ^ 64 → 0 < word / 2 ^ from → IsFirstOne word from (from + trailing_zeros w64 (word / 2 ^ from))
first_one word from fits some = record {
  within = ⊎_elim (λ low. low) (λ high. absurd (omega (arith, here, bit_at_above word 64 (from + t) fits high))) (cases_lt (from + t) 64);
  is = here;
  before = λ i behind before.
      let there : from + (i - from) ≡ i = omega arith in
      subst (λ (j : ℕ). bit_at word j ≡ 0) there (sym (shifted word from (i - from)) ∙ lowest.2 (i - from) (omega arith));
}
  where
    t : ℕ
    t = trailing_zeros w64 (word / 2 ^ from)

    small : word / 2 ^ from < 2 ^ 64
    small = omega (arith, shr_le word from, fits)

    lowest : (t < 64) × (bit_at (word / 2 ^ from) t ≡ 1) × ((i : ℕ) → i < t → bit_at (word / 2 ^ from) i ≡ 0)
    lowest = bit_at-trailing_zeros w64 (word / 2 ^ from) some small

    here : bit_at word (from + t) ≡ 1
    here = sym (shifted word from t) ∙ lowest.1

-- ones, shifted so far that this many are left
pub ones_left : (to : ℕ) → to ≤ 64 → (2 ^ 64 - 1) / 2 ^ (64 - to) ≡ 2 ^ to - 1
ones_left to within = same_from_bits ((2 ^ 64 - 1) / 2 ^ (64 - to)) (2 ^ to - 1) (λ i. shifted (2 ^ 64 - 1) (64 - to) i ∙ ⊎_elim
    (λ low. bit_at_ones 64 (64 - to + i) (omega arith) ∙ sym (bit_at_ones to i low))
    (λ high. bit_at_ones_above 64 (64 - to + i) (omega arith) ∙ sym (bit_at_ones_above to i high)) (cases_lt i to))

-- ones from one place up to another
pub ones_between : (from to : ℕ) → from < to → (2 ^ from - 1 ≤ 2 ^ to - 1) × (2 ^ to - 1 - (2 ^ from - 1) ≡ 2 ^ to - 2 ^ from)
ones_between from to before = let more : 2 ^ from ≤ 2 ^ to = pow_mono (omega arith) in (omega (arith, more, pow_pos from), omega (arith, more, pow_pos from))

-- a word with a mask of ones, and without one
module _ (word from to i : ℕ) where
  pub or_inside : from ≤ i → i < to → bit_at (bit_or word (2 ^ to - 2 ^ from)) i ≡ 1
  or_inside behind before = bit_at_or word (2 ^ to - 2 ^ from) i ∙ omega (arith, bit_at_mask_inside from to i behind before, bit_at-lt word i)

  pub or_before : i < from → bit_at (bit_or word (2 ^ to - 2 ^ from)) i ≡ bit_at word i
  or_before before = bit_at_or word (2 ^ to - 2 ^ from) i ∙ omega (arith, bit_at_mask_below from to i before)

  pub or_after : to ≤ i → bit_at (bit_or word (2 ^ to - 2 ^ from)) i ≡ bit_at word i
  or_after after = bit_at_or word (2 ^ to - 2 ^ from) i ∙ omega (arith, bit_at_mask_above from to i after)

  cleared : i < 64 → 2 ^ to - 2 ^ from < 2 ^ 64 → bit_at (bit_and word (bit_not w64 (2 ^ to - 2 ^ from))) i ≡ min (bit_at word i) (1 - bit_at (2 ^ to - 2 ^ from) i)
  cleared low fits = bit_at_and word (bit_not w64 (2 ^ to - 2 ^ from)) i ∙ ap (min (bit_at word i)) (bit_at_not w64 (2 ^ to - 2 ^ from) i fits low)

  pub and_inside : i < 64 → 2 ^ to - 2 ^ from < 2 ^ 64 → from ≤ i → i < to → bit_at (bit_and word (bit_not w64 (2 ^ to - 2 ^ from))) i ≡ 0
  and_inside low fits behind before = cleared low fits ∙ omega (arith, bit_at_mask_inside from to i behind before, bit_at-lt word i)

  pub and_before : i < 64 → 2 ^ to - 2 ^ from < 2 ^ 64 → i < from → bit_at (bit_and word (bit_not w64 (2 ^ to - 2 ^ from))) i ≡ bit_at word i
  and_before low fits before = cleared low fits ∙ omega (arith, bit_at_mask_below from to i before, bit_at-lt word i)

  pub and_after : i < 64 → 2 ^ to - 2 ^ from < 2 ^ 64 → to ≤ i → bit_at (bit_and word (bit_not w64 (2 ^ to - 2 ^ from))) i ≡ bit_at word i
  and_after low fits after = cleared low fits ∙ omega (arith, bit_at_mask_above from to i after, bit_at-lt word i)
