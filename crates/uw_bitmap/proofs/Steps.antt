-- One word of the bitmap is looked at.
use Rattle.std.proofs.Common.{◌≡◌, ⊎_elim, ℕ, ◌+◌, ◌-◌, ◌*◌, ◌/◌, ◌%◌, ◌^◌, ◌<◌, ◌≤◌, true, false, ◌==◌, ap, ◌∙◌, subst, arith}
use Rattle.std.specs.Int.{bit_at}
use Rattle.std.proofs.Math.Nat.{le-mul_of_pos_right}
use Rattle.std.proofs.lemmas.Bool.{cases_lt}
use Rattle.std.proofs.lemmas.Nat.Bits.{bit_at_ones}
use Rattle.uw_words.specs.declared.shape.Shape.{Shape}
use Rattle.uw_words.specs.Shapes.{IsShape}
use Rattle.uw_bitmap.specs.Bits.{is_marked, IsLeastFreeRun}
use Rattle.uw_bitmap.specs.SearchSteps.{IsSought}
use Rattle.uw_bitmap.proofs.Blocks.{marks_are}
use Rattle.uw_bitmap.proofs.Searches.{longer, passed, found}

-- blocks are fewer than bytes can be
pub few_blocks : (shape : Shape) → IsShape shape → shape.n_blocks < 2 ^ 63
few_blocks shape is = omega (arith, le-mul_of_pos_right shape.n_blocks is.some_block_word, is.blocks, is.intent, is.within)

-- blocks up to a full word are marked, and so are those of that word
pub full_word : (reader : ℕ → ℕ) (shape : Shape) (from at word : ℕ) → word ≡ 2 ^ 64 - 1 → reader at ≡ word → shape.bitmap ≤ at
    → ((block : ℕ) → from ≤ block → block < 64 * (at - shape.bitmap) → is_marked reader shape block ≡ true)
    → (block : ℕ) → from ≤ block → block < 64 * (at + 1 - shape.bitmap) → is_marked reader shape block ≡ true
full_word reader shape from at word full read behind before block on to =
    let base : ℕ = 64 * (at - shape.bitmap) in
    let place : shape.bitmap + base / 64 ≡ at = omega arith in
    ⊎_elim (λ early. before block on early) (λ late.
    marks_are reader shape base word (omega arith) (ap reader place ∙ read) 0 64 1 (omega arith) (λ i above below. ap (λ (w : ℕ). bit_at w i) full ∙ bit_at_ones 64 i below)
    block (omega arith) (omega arith)) (cases_lt block base)

module _ (reader : ℕ → ℕ) (shape : Shape) (n start at word : ℕ) (some : 0 < n) (read : reader (shape.bitmap + at / 64) ≡ word)
    (sought : IsSought (is_marked reader shape) n start at) where
  marks : (from to value : ℕ) → at % 64 ≤ from → to ≤ 64 → ((i : ℕ) → from ≤ i → i < to → bit_at word i ≡ value)
      → (block : ℕ) → at - at % 64 + from ≤ block → block < at - at % 64 + to → is_marked reader shape block ≡ (value == 1)
  marks from to value on within are =
      let base : (at - at % 64) / 64 ≡ at / 64 = omega arith in
      marks_are reader shape (at - at % 64) word (omega arith) (ap (λ (q : ℕ). reader (shape.bitmap + q)) base ∙ read) from to value within are

  unmarked : (one : ℕ) → at % 64 ≤ one → one ≤ 64 → ((i : ℕ) → at % 64 ≤ i → i < one → bit_at word i ≡ 0)
      → (block : ℕ) → at ≤ block → block < at - at % 64 + one → is_marked reader shape block ≡ false
  unmarked one on within zeros = λ block behind before. marks (at % 64) one 0 (omega arith) within zeros block (omega arith) before

  -- all of its blocks are marked
  over_full_word : word ≡ 2 ^ 64 - 1 → IsSought (is_marked reader shape) n (at - at % 64 + 64) (at - at % 64 + 64)
  over_full_word full = passed (is_marked reader shape) n start at (at - at % 64 + 64) some sought (omega arith) (λ block behind before.
      marks (at % 64) 64 1 (omega arith) (omega arith) (λ i from to. ap (λ (w : ℕ). bit_at w i) full ∙ bit_at_ones 64 i to) block (omega arith) before)

  -- and more of them behind it
  pub over_full_words : (next : ℕ) → word ≡ 2 ^ 64 - 1 → at - at % 64 + 64 ≤ next
      → ((block : ℕ) → at - at % 64 + 64 ≤ block → block < next → is_marked reader shape block ≡ true) → IsSought (is_marked reader shape) n next next
  over_full_words next full on marked = ⊎_elim
      (λ more. passed (is_marked reader shape) n (at - at % 64 + 64) (at - at % 64 + 64) next some (over_full_word full) more marked)
      (λ same. let is : at - at % 64 + 64 ≡ next = omega arith in
      subst (λ (to : ℕ). IsSought (is_marked reader shape) n to to) is (over_full_word full))
      (cases_lt (at - at % 64 + 64) next)

  -- its blocks up to a place are unmarked, and still too few
  pub over_free_bits : (one : ℕ) → at % 64 ≤ one → one ≤ 64 → ((i : ℕ) → at % 64 ≤ i → i < one → bit_at word i ≡ 0) → at - at % 64 + one - start < n
      → IsSought (is_marked reader shape) n start (at - at % 64 + one)
  over_free_bits one on within zeros short = longer (is_marked reader shape) n start at (at - at % 64 + one) sought (omega arith) short (unmarked one on within zeros)

  -- and behind them some are marked
  pub over_marked_bits : (one end : ℕ) → at % 64 ≤ one → one < end → end ≤ 64 → ((i : ℕ) → at % 64 ≤ i → i < one → bit_at word i ≡ 0) → at - at % 64 + one - start < n
      → ((i : ℕ) → one ≤ i → i < end → bit_at word i ≡ 1) → IsSought (is_marked reader shape) n (at - at % 64 + end) (at - at % 64 + end)
  over_marked_bits one end on more within zeros short ones = passed (is_marked reader shape) n start (at - at % 64 + one) (at - at % 64 + end) some
      (over_free_bits one on (omega arith) zeros short) (omega arith) (marks one end 1 on within ones)

  -- its blocks up to a place are unmarked, and enough
  pub at_enough : (one : ℕ) → at % 64 ≤ one → one ≤ 64 → ((i : ℕ) → at % 64 ≤ i → i < one → bit_at word i ≡ 0) → n ≤ at - at % 64 + one - start
      → start + n ≤ shape.n_blocks → IsLeastFreeRun (is_marked reader shape) shape.n_blocks start n
  at_enough one on within zeros enough fits = found (is_marked reader shape) n shape.n_blocks start at (at - at % 64 + one) sought enough (unmarked one on within zeros) fits
