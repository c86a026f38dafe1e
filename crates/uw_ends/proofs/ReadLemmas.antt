-- Texts that are read in turn.
use Rattle.std.proofs.Common.{◌≡◌, ◌∙◌, ◌<◌, ◌≤◌, ◌+◌, All, ℕ, zero, suc, List, [], ◌∷◌, ◌++◌, map, length, drop, Option, None, Some, option_map, refl, sym, ap, ap₂, subst, arith}
use Rattle.std.specs.Prelude.{option_and_then}
use Rattle.std.specs.List.{slice_index_or}
use Rattle.std.specs.Borrow.{Bor}
use Rattle.std.proofs.lemmas.Bool.Decides.{nat_tests}
use Rattle.std.proofs.lemmas.List.{append_assoc, append-nil, drop_all, length-map}
use Rattle.std.proofs.lemmas.List.Elements.{All-cons, All-nil}
use Rattle.uw_ends.specs.Numbers.{all_read, number_within, plain_number, within_range}

-- the texts behind references
abbrev pub texts : List (Bor (List ℕ)) → List (List ℕ)
texts = map (λ text. text.now)

-- these numbers, and behind them those of the texts that are left
abbrev pub before : List ℕ → Option (List ℕ) → Option (List ℕ)
before numbers = option_map (λ rest. numbers ++ rest)

abbrev first_of : Option ℕ → Option (List ℕ) → Option (List ℕ)
first_of number rest = option_and_then (λ n. option_map (λ numbers. n ∷ numbers) rest) number

here : (read : List ℕ → Option ℕ) (xs : List (Bor (List ℕ))) (i : ℕ) (text : List ℕ) (d : Bor (List ℕ)) → i < length xs → text ≡ (slice_index_or xs i d).now
    → all_read read (drop i (texts xs)) ≡ first_of (read text) (all_read read (drop (suc i) (texts xs)))
here read [] i text d lt at = absurd (omega arith)
here read (y ∷ ys) zero text d lt at = ap (λ (t : List ℕ). first_of (read t) (all_read read (texts ys))) (sym at)
here read (y ∷ ys) (suc i) text d lt at = here read ys i text d (omega arith) at

moved : (numbers : List ℕ) (n : ℕ) (rest : Option (List ℕ)) → before numbers (first_of (Some n) rest) ≡ before (numbers ++ n ∷ []) rest
moved numbers n None = refl
moved numbers n (Some rest) = ap (λ (all : List ℕ). Some all) (sym (append_assoc numbers (n ∷ []) rest))

-- one more text was read
pub read_more : (read : List ℕ → Option ℕ) (all : Option (List ℕ)) (numbers more : List ℕ) (xs : List (Bor (List ℕ))) (i n : ℕ) (text : List ℕ) (d : Bor (List ℕ))
    → i < length xs → text ≡ (slice_index_or xs i d).now → read text ≡ Some n → more ≡ numbers ++ n ∷ []
    → all ≡ before numbers (all_read read (drop i (texts xs))) → all ≡ before more (all_read read (drop (i + 1) (texts xs)))
read_more read all numbers more xs i n text d lt at is grown e =
    let next : suc i ≡ i + 1 = omega arith in
    let left : all_read read (drop i (texts xs)) ≡ first_of (Some n) (all_read read (drop (suc i) (texts xs))) =
    here read xs i text d lt at ∙ ap (λ (o : Option ℕ). first_of o (all_read read (drop (suc i) (texts xs)))) is in
    e ∙ ap (before numbers) left ∙ moved numbers n (all_read read (drop (suc i) (texts xs)))
    ∙ ap₂ (λ (ns : List ℕ) (k : ℕ). before ns (all_read read (drop k (texts xs)))) (sym grown) next

-- a text gave nothing
pub read_fails : (read : List ℕ → Option ℕ) (all : Option (List ℕ)) (numbers : List ℕ) (xs : List (Bor (List ℕ))) (i : ℕ) (text : List ℕ) (d : Bor (List ℕ))
    → i < length xs → text ≡ (slice_index_or xs i d).now → read text ≡ None
    → all ≡ before numbers (all_read read (drop i (texts xs))) → all ≡ None
read_fails read all numbers xs i text d lt at is e =
    e ∙ ap (before numbers) (here read xs i text d lt at ∙ ap (λ (o : Option ℕ). first_of o (all_read read (drop (suc i) (texts xs)))) is)

-- no text is left
pub read_all : (read : List ℕ → Option ℕ) (all : Option (List ℕ)) (numbers : List ℕ) (xs : List (Bor (List ℕ))) (i : ℕ) → length xs ≤ i
    → all ≡ before numbers (all_read read (drop i (texts xs))) → all ≡ Some numbers
read_all read all numbers xs i past e =
    let none : drop i (texts xs) ≡ [] = drop_all i (texts xs) (omega (arith, past, length-map xs (λ (text : Bor (List ℕ)). text.now))) in
    e ∙ ap (λ (l : List (List ℕ)). before numbers (all_read read l)) none ∙ ap (λ (l : List ℕ). Some l) (append-nil numbers)

-- each of the numbers is one that is read
pub read_within : (read : List ℕ → Option ℕ) (P : ℕ → Type 0) → ((text : List ℕ) (n : ℕ) → read text ≡ Some n → P n) → (all : List (List ℕ)) (numbers : List ℕ)
    → all_read read all ≡ Some numbers → All P numbers
read_within read P holds [] numbers is = let same : [] ≡ numbers = cc in subst (All P) same (All-nil P)
read_within read P holds (text ∷ all) numbers is = go (read text) refl (all_read read all) refl (λ rest r. read_within read P holds all rest r) is
  where
    go : (o : Option ℕ) → read text ≡ o → (rest : Option (List ℕ)) → all_read read all ≡ rest
        → ((ns : List ℕ) → all_read read all ≡ Some ns → All P ns) → first_of o rest ≡ Some numbers → All P numbers
    go None e rest r later is = absurd (let none : ⊥ = cc in none)
    go (Some n) e None r later is = absurd (let none : ⊥ = cc in none)
    go (Some n) e (Some ns) r later is = let same : n ∷ ns ≡ numbers = cc in subst (All P) same (All-cons P n ns (holds text n e) (later ns r))

-- a number within a range is not below it
pub number_above : (low high : ℕ) (text : List ℕ) (n : ℕ) → number_within low high text ≡ Some n → low ≤ n
number_above low high text n is = go (plain_number text) is
  where
    go : (o : Option ℕ) → within_range low high o ≡ Some n → low ≤ n
    go None none = absurd (let none : ⊥ = cc in none)
    go (Some m) is = grind (arith, nat_tests)
