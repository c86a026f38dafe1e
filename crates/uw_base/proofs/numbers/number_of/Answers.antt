use Rattle.std.proofs.Common.{◌≡◌, ◌+◌, ◌-◌, ◌*◌, ◌^◌, ◌<◌, ◌≤◌, Bool, cond, ltb, List, [], ◌∷◌, Some, None, ℕ, length, get_or, take, drop, fold, sym, ap, ◌∙◌, arith}
use Rattle.std.proofs.lemmas.Bool.{le-ltb, lt-ltb}
use Rattle.std.proofs.lemmas.List.{take_all, take-append-drop}
use Rattle.std.proofs.lemmas.List.Sums.{fold-append, fold_more}
use Rattle.uw_base.specs.Numbers.{digits_number}
use Rattle.uw_base.proofs.numbers.number_of.Goals as goal

-- one digit more
abbrev step : ℕ → ℕ → ℕ
step number digit = 10 * number + (digit - 48)

-- digits do not make a number smaller
fold_grows : (number : ℕ) (digits : List ℕ) → number ≤ fold step number digits
fold_grows number [] = omega arith
fold_grows number (digit ∷ digits) = omega (arith, fold_grows (step number digit) digits)

-- a number that its first digits make too large is too large
too_large : (limit number : ℕ) (digits : List ℕ) (i : ℕ) → i < length digits → number ≡ digits_number (take i digits) → limit ≤ step number (get_or digits i 0) → limit ≤ digits_number digits
too_large limit number digits i within is large =
    let more : fold step 0 (take (i + 1) digits) ≡ step (fold step 0 (take i digits)) (get_or digits i 0) = fold_more step 0 digits i 0 within in
    let whole : fold step 0 digits ≡ fold step (fold step 0 (take (i + 1) digits)) (drop (i + 1) digits) = ap (fold step 0) (sym (take-append-drop (i + 1) digits)) ∙ fold-append step 0 (take (i + 1) digits) (drop (i + 1) digits) in
    let grows = fold_grows (fold step 0 (take (i + 1) digits)) (drop (i + 1) digits) in
    omega arith

no_number : (limit n : ℕ) → limit ≤ n → None ≡ cond (ltb n limit) (Some n) None
no_number limit n large = sym (ap (λ (b : Bool). cond b (Some n) None) (le-ltb n limit large))

a_number : (limit n : ℕ) → n < limit → Some n ≡ cond (ltb n limit) (Some n) None
a_number limit n small = sym (ap (λ (b : Bool). cond b (Some n) None) (lt-ltb n limit small))

pub returns-in_err-checked_mul : goal.returns-in_err-checked_mul
returns-in_err-checked_mul c =
    let digits = c.args.digits.now in
    let large : 2 ^ 64 ≤ step c.loop-digit.number (get_or digits c.loop-digit.digit-index 0) = omega (arith, c.in_err-checked_mul.ensures) in
    rw c.from_residual.ensures (no_number _ _ (too_large _ c.loop-digit.number digits c.loop-digit.digit-index (omega arith) c.loop-digit.invariant.so_far large))

pub returns-in_err-number : goal.returns-in_err-number
returns-in_err-number c =
    let digits = c.args.digits.now in
    let large : 2 ^ 64 ≤ step c.loop-digit.number (get_or digits c.loop-digit.digit-index 0) = omega (arith, c.in_err-number.ensures, c.in_ok-checked_mul.ensures, c.from.ensures) in
    rw c.from_residual-in_err-number.ensures (no_number _ _ (too_large _ c.loop-digit.number digits c.loop-digit.digit-index (omega arith) c.loop-digit.invariant.so_far large))

pub returns : goal.returns
returns c =
    let digits = c.args.digits.now in
    let whole : c.loop-digit.number ≡ digits_number digits = c.loop-digit.invariant.so_far ∙ ap digits_number (take_all c.loop-digit.digit-index digits (omega arith)) in
    rw whole (a_number (2 ^ 64) (digits_number digits) (rw (← whole) c.loop-digit.invariant.fits))
