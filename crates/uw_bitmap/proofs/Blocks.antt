-- The marks of the blocks of one word.
use Rattle.std.proofs.Common.{◌≡◌, ℕ, ◌+◌, ◌-◌, ◌/◌, ◌%◌, ◌<◌, ◌≤◌, ◌==◌, ap, ◌∙◌, subst, arith}
use Rattle.std.specs.Int.{bit_at}
use Rattle.uw_words.specs.declared.shape.Shape.{Shape}
use Rattle.uw_bitmap.specs.Bits.{is_marked}

module _ (reader : ℕ → ℕ) (shape : Shape) (base word : ℕ) (start : base % 64 ≡ 0) (read : reader (shape.bitmap + base / 64) ≡ word) where
  -- the mark of a block is its bit
  pub mark_is : (i value : ℕ) → i < 64 → bit_at word i ≡ value → is_marked reader shape (base + i) ≡ (value == 1)
  mark_is i value low is =
      let same : (base + i) / 64 ≡ base / 64 = omega arith in
      let place : (base + i) % 64 ≡ i = omega arith in
      ap (λ (bit : ℕ). bit == 1) (ap (λ (q : ℕ). bit_at (reader (shape.bitmap + q)) ((base + i) % 64)) same
      ∙ ap (bit_at (reader (shape.bitmap + base / 64))) place ∙ ap (λ (w : ℕ). bit_at w i) read ∙ is)

  -- blocks with the same bit have the same mark
  pub marks_are : (from to value : ℕ) → to ≤ 64 → ((i : ℕ) → from ≤ i → i < to → bit_at word i ≡ value) → (block : ℕ) → base + from ≤ block → block < base + to → is_marked reader shape block ≡ (value == 1)
  marks_are from to value within are block behind before =
      let there : base + (block - base) ≡ block = omega arith in
      subst (λ (b : ℕ). is_marked reader shape b ≡ (value == 1)) there (mark_is (block - base) value (omega arith) (are (block - base) (omega arith) (omega arith)))
