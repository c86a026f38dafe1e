-- Pairs of an argument.
use Rattle.std.proofs.Common.{◌≡◌, ℕ, suc, ◌+◌, ◌==◌, ◌<◌, ◌≤◌, ◌^◌, Bool, true, false, cond, List, [], ◌∷◌, length, refl, arith, Option, Some, None, IfSome, length-drop}
use Rattle.std.proofs.lemmas.List.{length-take}
use Rattle.std.specs.Borrow.{Bor}
use Rattle.std.specs.List.{AllByRecursion, after_first, list_any, onto_first, position_or_len, slice_split}
use Rattle.std.specs.Option.{option_copied}
use Rattle.uw_rules.specs.Arguments.{argument_pairs, first_half, is_pair_of, second_half, text_of_key, text_in}
use Rattle.uw_rules.specs.CheckSteps.{IsShortText}
use Rattle.uw_rules.specs.GrammarSteps.{pairs_left}

-- the pairs of an argument, seen through its reference
pub pairs_left_seen : (rest : Option (Bor (List ℕ))) → pairs_left rest ≡ argument_pairs (option_copied rest)
unfolding argument_pairs
pairs_left_seen None = refl
pairs_left_seen (Some text) = refl

-- ---- lengths

widened : (low high : ℕ) (xs : List (List ℕ)) → low ≤ high → AllByRecursion (λ (x : List ℕ). length x ≤ low) xs → AllByRecursion (λ (x : List ℕ). length x ≤ high) xs
widened low high [] below h = tt
widened low high (x ∷ xs) below h = (omega (arith, h.0), widened low high xs below h.1)

onto_first_short : (byte n : ℕ) (xs : List (List ℕ)) → AllByRecursion (λ (x : List ℕ). length x ≤ n) xs → AllByRecursion (λ (x : List ℕ). length x ≤ suc n) (onto_first byte xs)
onto_first_short byte n [] h = (omega arith, tt)
onto_first_short byte n (x ∷ xs) h = (omega (arith, h.0), widened n (suc n) xs (omega arith) h.1)

split_step : (b : Bool) (P : List ℕ → Type 0) (xs ys : List (List ℕ)) → AllByRecursion P xs → AllByRecursion P ys → AllByRecursion P (cond b xs ys)
split_step true P xs ys h k = h
split_step false P xs ys h k = k

-- no part of a text is longer than the text
split_short : (p : ℕ → Bool) (text : List ℕ) → AllByRecursion (λ (part : List ℕ). length part ≤ length text) (slice_split p text)
split_short p [] = (omega arith, tt)
split_short p (byte ∷ text) =
    let rest = split_short p text in
    split_step (p byte) (λ (part : List ℕ). length part ≤ suc (length text)) ([] ∷ slice_split p text) (onto_first byte (slice_split p text))
    (omega arith, widened (length text) (suc (length text)) (slice_split p text) (omega arith) rest) (onto_first_short byte (length text) (slice_split p text) rest)

choice_short : (b : Bool) (n : ℕ) (text : List ℕ) (other : Option (List ℕ)) → length text ≤ n → IfSome other (λ (x : List ℕ). length x ≤ n) → IfSome (cond b (Some text) other) (λ (x : List ℕ). length x ≤ n)
choice_short true n text other h k = h
choice_short false n text other h k = k

text_in_short : (key : List ℕ) (n : ℕ) (pairs : List (List ℕ)) → AllByRecursion (λ (pair : List ℕ). length pair ≤ n) pairs → IfSome (text_in key pairs) (λ (x : List ℕ). length x ≤ n)
text_in_short key n [] h = tt
text_in_short key n (pair ∷ pairs) h =
    choice_short (is_pair_of key pair) n (after_first (λ byte. byte == 61) pair) (text_in key pairs)
    (omega (arith, length-drop (position_or_len (λ byte. byte == 61) pair + 1) pair, h.0)) (text_in_short key n pairs h.1)

below : (n : ℕ) (text : Option (List ℕ)) → n < 2 ^ 32 → IfSome text (λ (x : List ℕ). length x ≤ n) → IsShortText text
below n None small h = tt
below n (Some text) small h = omega arith

-- the text of a key of a short argument is short
pub text_at_short : (key : List ℕ) (argument : Option (List ℕ)) → IsShortText argument → IsShortText (text_of_key key argument)
unfolding text_of_key argument_pairs
text_at_short key None h = tt
text_at_short key (Some text) h =
    below (length text) (text_in key (slice_split (λ byte. byte == 44) text)) h
    (text_in_short key (length text) (slice_split (λ byte. byte == 44) text) (split_short (λ byte. byte == 44) text))

-- so is what stands before a byte
pub first_half_short : (at : ℕ) (argument : Option (List ℕ)) → IsShortText argument → IsShortText (first_half at argument)
unfolding first_half
first_half_short at None h = tt
first_half_short at (Some text) h = omega (arith, length-take (position_or_len (λ byte. byte == at) text) text)

short_if : (b : Bool) (text : List ℕ) → length text < 2 ^ 32 → IsShortText (cond b (Some text) None)
short_if true text h = h
short_if false text h = tt

-- so is what stands behind it
pub second_half_short : (at : ℕ) (argument : Option (List ℕ)) → IsShortText argument → IsShortText (second_half at argument)
unfolding second_half
second_half_short at None h = tt
second_half_short at (Some text) h =
    short_if (list_any (λ byte. byte == at) text) (after_first (λ byte. byte == at) text)
    (omega (arith, length-drop (position_or_len (λ byte. byte == at) text + 1) text))
