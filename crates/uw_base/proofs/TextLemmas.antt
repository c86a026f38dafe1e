-- Cuts of a text, and blanks at its ends.
use Rattle.std.proofs.Common.{◌≡◌, ℕ, suc, ◌+◌, ◌-◌, ◌<◌, ◌≤◌, Bool, true, false, ◌||◌, not, cond, List, [], ◌∷◌, length, get_or, take, drop, reverse, refl, sym, ap, ◌∙◌, arith, Some, None, nat_lt}
use Rattle.std.proofs.lemmas.List.{take_more, reverse-append, reverse-reverse}
use Rattle.std.proofs.lemmas.List.Splits.{slice_split-cons_no, slice_split_first}
use Rattle.std.proofs.lemmas.Bool.Decides.{nat_tests}
use Rattle.std.proofs.lemmas.Option.{cond_some}
use Rattle.std.specs.List.{list_any, slice_split, onto_first, position, position_or_len, prefix_len}
use Rattle.uw_base.specs.Texts.{is_blank, without_blanks}

zero_lt : (n : ℕ) → true ≡ nat_lt 0 (suc n)
zero_lt n = grind (arith, nat_tests)

lt_step : (k n : ℕ) → nat_lt k n ≡ nat_lt (1 + k) (suc n)
lt_step k n = grind (arith, nat_tests)

list_any-position : {X : Type 0} (p : X → Bool) (xs : List X) → list_any p xs ≡ nat_lt (position_or_len p xs) (length xs)
list_any-position p [] = refl
list_any-position p (x ∷ xs) =
    elim (p x) as (λ b. (b || list_any p xs) ≡ nat_lt (cond (not b) (1 + prefix_len (λ y. not (p y)) xs) 0) (suc (length xs)))
    [ true ↦ zero_lt (length xs) | false ↦ list_any-position p xs ∙ lt_step _ _ ]

cond_none : {X : Type 0} (b : Bool) (x : X) → None ≡ cond b (Some x) None → b ≡ false
cond_none true x h = cc
cond_none false x h = refl

pub list_any-found : {X : Type 0} (p : X → Bool) (xs : List X) (i : ℕ) → Some i ≡ position p xs → list_any p xs ≡ true
list_any-found p xs i h = list_any-position p xs ∙ (cond_some (nat_lt (position_or_len p xs) (length xs)) (position_or_len p xs) i (sym h)).0

pub list_any-lacks : {X : Type 0} (p : X → Bool) (xs : List X) → None ≡ position p xs → list_any p xs ≡ false
list_any-lacks p xs h = list_any-position p xs ∙ cond_none (nat_lt (position_or_len p xs) (length xs)) (position_or_len p xs) h

or_false : (a b : Bool) → (a || b) ≡ false → (a ≡ false) × (b ≡ false)
or_false true b h = absurd (cc)
or_false false b h = (refl, h)

slice_split-none : {X : Type 0} (p : X → Bool) (xs : List X) → list_any p xs ≡ false → slice_split p xs ≡ xs ∷ []
slice_split-none p [] h = refl
slice_split-none p (x ∷ xs) h =
    let each = or_false (p x) (list_any p xs) h in
    slice_split-cons_no p x xs each.0 ∙ ap (onto_first x) (slice_split-none p xs each.1)

pub slice_split-lacks : {X : Type 0} (p : X → Bool) (xs : List X) → None ≡ position p xs → slice_split p xs ≡ xs ∷ []
slice_split-lacks p xs h = slice_split-none p xs (list_any-lacks p xs h)

before_lt : (a b : ℕ) → nat_lt a b ≡ true → a < b
before_lt a b h = grind (arith, nat_tests)

pub slice_split-found : {X : Type 0} (p : X → Bool) (xs : List X) (i : ℕ) (d : X) → Some i ≡ position p xs → slice_split p xs ≡ take i xs ∷ slice_split p (drop (i + 1) xs)
slice_split-found p xs i d h =
    let there = cond_some (nat_lt (position_or_len p xs) (length xs)) (position_or_len p xs) i (sym h) in
    slice_split_first p xs d (before_lt _ _ there.0) ∙ ap (λ (n : ℕ). take n xs ∷ slice_split p (drop (n + 1) xs)) there.1

-- the byte before a place, and the text up to it
back : (text : List ℕ) (n : ℕ) → 1 ≤ n → n ≤ length text → reverse (take n text) ≡ get_or text (n - 1) 0 ∷ reverse (take (n - 1) text)
back text n some within =
    let one : n ≡ n - 1 + 1 = omega arith in
    ap (λ (m : ℕ). reverse (take m text)) one
    ∙ ap reverse (take_more text (n - 1) 0 (omega arith))
    ∙ reverse-append (take (n - 1) text) (get_or text (n - 1) 0 ∷ [])

blank_step : (byte : ℕ) (text : List ℕ) → is_blank byte ≡ true → without_blanks (byte ∷ text) ≡ without_blanks text
blank_step byte text h = ap (λ (b : Bool). cond b (without_blanks text) (byte ∷ text)) h

other_step : (byte : ℕ) (text : List ℕ) → is_blank byte ≡ false → without_blanks (byte ∷ text) ≡ byte ∷ text
other_step byte text h = ap (λ (b : Bool). cond b (without_blanks text) (byte ∷ text)) h

pub back_blank : (text : List ℕ) (n : ℕ) → 1 ≤ n → n ≤ length text → is_blank (get_or text (n - 1) 0) ≡ true → reverse (without_blanks (reverse (take n text))) ≡ reverse (without_blanks (reverse (take (n - 1) text)))
back_blank text n some within blank =
    ap (λ (bytes : List ℕ). reverse (without_blanks bytes)) (back text n some within) ∙ ap reverse (blank_step (get_or text (n - 1) 0) (reverse (take (n - 1) text)) blank)

pub back_other : (text : List ℕ) (n : ℕ) → 1 ≤ n → n ≤ length text → is_blank (get_or text (n - 1) 0) ≡ false → reverse (without_blanks (reverse (take n text))) ≡ take n text
back_other text n some within other =
    ap (λ (bytes : List ℕ). reverse (without_blanks bytes)) (back text n some within)
    ∙ ap reverse (other_step (get_or text (n - 1) 0) (reverse (take (n - 1) text)) other) ∙ ap reverse (sym (back text n some within)) ∙ reverse-reverse (take n text)
