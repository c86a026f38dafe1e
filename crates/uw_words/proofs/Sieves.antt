-- A sieve after one more place.
use Rattle.std.proofs.Common.{◌≡◌, ℕ, ◌-◌, ◌/◌, ◌^◌, ◌<◌, List, [], ◌∷◌, ◌++◌, bit_and, length, get_or, set, inl, inr, refl, sym, ap, ◌∙◌, subst, arith}
use Rattle.std.specs.Int.Bits.{and_zero_l}
use Rattle.std.proofs.lemmas.Bool.{cases_eq, cases_lt}
use Rattle.std.proofs.lemmas.List.{get_or-set_same, get_or-set_other, length-set, length_push}
use Rattle.std.proofs.lemmas.Nat.{and_comm, and_assoc}
use Rattle.std.proofs.lemmas.Grind.{and-not_self}
use Rattle.uw_words.specs.Slots.{place, sieve_mark, Passes, PassesAll}
use Rattle.uw_words.proofs.Tables.{place-push, place_last, place-set}

-- two numbers that have no bit in common have none after one of them lost some
still_apart : (word kept mark : ℕ) → bit_and word mark ≡ 0 → bit_and (bit_and word kept) mark ≡ 0
still_apart word kept mark apart =
    and_assoc mark word kept ∙ ap (bit_and word) (and_comm kept mark) ∙ sym (and_assoc kept word mark) ∙ ap (λ (bits : ℕ). bit_and bits kept) apart ∙ and_zero_l kept

-- a word without the bits of a mark
abbrev without : ℕ → ℕ → ℕ
without word mark = bit_and word (2 ^ 32 - 1 - mark)

module _ (sieve : List ℕ) (mark index : ℕ) (small : mark < 2 ^ 32) (is_index : index ≡ mark / 2 ^ 22) (within : index < length sieve) where
  -- a sieve that lets the places of a mark through, too
  abbrev word : ℕ
  word = without (get_or sieve index 0) mark

  abbrev admitting : List ℕ
  admitting = set sieve index word

  pub admitted : (at : ℕ) → mark ≡ sieve_mark at → Passes admitting at
  admitted at is = subst (λ (m : ℕ). bit_and (get_or admitting (m / 2 ^ 22) 0) m ≡ 0) is
      (ap (λ (q : ℕ). bit_and (get_or admitting q 0) mark) (sym is_index)
      ∙ ap (λ (w : ℕ). bit_and w mark) (get_or-set_same sieve index word 0 within)
      ∙ and-not_self (get_or sieve index 0) (2 ^ 32 - 1) mark mark refl (omega (arith, small)) refl)

  pub admitted_before : (other : ℕ) → Passes sieve other → Passes admitting other
  admitted_before other was = elim (cases_eq (sieve_mark other / 2 ^ 22) index) [
    | inl same ↦
        ap (λ (q : ℕ). bit_and (get_or admitting q 0) (sieve_mark other)) same
        ∙ ap (λ (w : ℕ). bit_and w (sieve_mark other)) (get_or-set_same sieve index word 0 within)
        ∙ still_apart (get_or sieve index 0) (2 ^ 32 - 1 - mark) (sieve_mark other) (ap (λ (q : ℕ). bit_and (get_or sieve q 0) (sieve_mark other)) (sym same) ∙ was)
    | inr apart ↦ ap (λ (w : ℕ). bit_and w (sieve_mark other)) (get_or-set_other sieve index (sieve_mark other / 2 ^ 22) word 0 apart) ∙ was
  ]

-- all planned places pass after one more write
pub passes_push : (sieve sieve' : List ℕ) (plan : List (ℕ × ℕ)) (at word : ℕ) → PassesAll sieve plan → ((other : ℕ) → Passes sieve other → Passes sieve' other) → Passes sieve' at
    → PassesAll sieve' (plan ++ (at, word) ∷ [])
passes_push sieve sieve' plan at word all kept here k within = elim (cases_lt k (length plan)) [
  | inl before ↦ subst (Passes sieve') (sym (place-push plan at word k before)) (kept (place plan k) (all k before))
  | inr after ↦ subst (Passes sieve') (sym (place_last plan at word k (omega (arith, after, length_push plan (at, word))))) here
]

-- and after a place was put again
pub passes_set : (sieve : List ℕ) (plan : List (ℕ × ℕ)) (at word k : ℕ) → PassesAll sieve plan → k < length plan → place plan k ≡ at → PassesAll sieve (set plan k (at, word))
passes_set sieve plan at word k all within is j h = subst (Passes sieve) (sym (place-set plan at word k j within is)) (all j (omega (arith, length-set plan k (at, word))))
