-- The region that is written out by hand agrees with its list.
use Rattle.std.proofs.Common.{◌≡◌, inl, inr, ℕ, zero, suc, ◌+◌, ◌-◌, ◌*◌, ◌/◌, ◌%◌, ◌<◌, ◌==◌, false, List, [], ◌∷◌, get_or, refl, sym, ap, ◌∙◌, subst, arith}
use Rattle.std.specs.Int.{bit_at}
use Rattle.std.specs.List.{All}
use Rattle.std.proofs.lemmas.Bool.Decides.{nat_tests}
use Rattle.std.proofs.lemmas.Nat.Bits.{bit_at_above}
use Rattle.std.proofs.lemmas.List.Elements.{All-cons, All-nil}
use Rattle.uw_model.specs.declared.entries.Entry.{Entry}
use Rattle.uw_model.specs.Entries.{IsApart, IsEntry, IsState}
use Rattle.uw_words.specs.declared.shape.Shape.{Shape}
use Rattle.uw_words.specs.Plans.{region}
use Rattle.uw_words.specs.Numbers.{AreDistinct, IsNoneOf, IsOneOf}
use Rattle.uw_words.specs.Texts.{text_word}
use Rattle.uw_words.specs.Walks.{IsWalk}
use Rattle.uw_bitmap.specs.Bits.{is_marked}
use Rattle.uw_recency.specs.Recency.{IsRecency}
use Rattle.uw_chains.specs.Chains.{FallsOn, IsChains, item_chain}
use Rattle.uw_items.specs.FreeList.{IsFreeList}
use Rattle.uw_plan.specs.Regions.{shape_of}
use Rattle.uw_plan.specs.Parts.{HoldsEntry, IsHead, Parts}
use Rattle.uw_plan.specs.Agreement.{Agrees, FitsList, is_covered}
use Rattle.uw_plan.specs.Example.{example_conf, example_list, example_words}

abbrev reader : ℕ → ℕ
reader = region example_words

abbrev shape : Shape
shape = shape_of example_conf

-- the entry that was set first, and the one that was set then
abbrev first_entry : Entry
first_entry = record { key = 97 ∷ []; value = 111 ∷ 110 ∷ 101 ∷ []; dies = 0; first = 0 }

abbrev second_entry : Entry
second_entry = record { key = 98 ∷ []; value = 116 ∷ 119 ∷ 111 ∷ []; dies = 100; first = 1 }

abbrev chains_of : ℕ → List ℕ
chains_of zero = 0 ∷ []
chains_of (suc zero) = []
chains_of (suc (suc zero)) = []
chains_of (suc (suc (suc zero))) = 1 ∷ []
chains_of (suc (suc (suc (suc chain)))) = []

abbrev parts : Parts
parts = record { items = 1 ∷ 0 ∷ []; free = 2 ∷ 3 ∷ []; chains = chains_of; marked = is_covered example_conf example_list; count = 2 }

one_byte : (byte : ℕ) → byte < 256 → All (λ b. b < 256) (byte ∷ [])
one_byte byte small = let P : ℕ → Type 0 = λ b. b < 256 in All-cons P byte [] small (All-nil P)

three_bytes : (x y z : ℕ) → x < 256 → y < 256 → z < 256 → All (λ b. b < 256) (x ∷ y ∷ z ∷ [])
three_bytes x y z small little few = let P : ℕ → Type 0 = λ b. b < 256 in All-cons P x (y ∷ z ∷ []) small (All-cons P y (z ∷ []) little (one_byte z few))

first_held : HoldsEntry reader shape 0 first_entry
first_held = record {
  key = record { len = refl; hash = refl; fits = omega arith; text = λ k short. text k short };
  fields = record { dies = refl; first = refl; bytes = refl };
  value = λ k short. value k short;
  key_bytes = one_byte 97 (omega arith);
  value_bytes = three_bytes 111 110 101 (omega arith) (omega arith) (omega arith);
}
  where
    text : (k : ℕ) → 8 * k < 1 → reader (29 + k) ≡ text_word (97 ∷ []) k
    text zero short = refl
    text (suc k) short = absurd (omega arith)

    value : (k : ℕ) → 8 * k < 3 → reader (57 + k) ≡ text_word (111 ∷ 110 ∷ 101 ∷ []) k
    value zero short = refl
    value (suc k) short = absurd (omega arith)

second_held : HoldsEntry reader shape 1 second_entry
second_held = record {
  key = record { len = refl; hash = refl; fits = omega arith; text = λ k short. text k short };
  fields = record { dies = refl; first = refl; bytes = refl };
  value = λ k short. value k short;
  key_bytes = one_byte 98 (omega arith);
  value_bytes = three_bytes 116 119 111 (omega arith) (omega arith) (omega arith);
}
  where
    text : (k : ℕ) → 8 * k < 1 → reader (38 + k) ≡ text_word (98 ∷ []) k
    text zero short = refl
    text (suc k) short = absurd (omega arith)

    value : (k : ℕ) → 8 * k < 3 → reader (58 + k) ≡ text_word (116 ∷ 119 ∷ 111 ∷ []) k
    value zero short = refl
    value (suc k) short = absurd (omega arith)

head : IsHead reader shape
head = record {
  layout = refl;
  items = refl;
  blocks = refl;
  block_words = refl;
  key_words = refl;
  chains = refl;
  zeros = λ at above within. subst (λ (p : ℕ). reader p ≡ 0) (let e : 12 + (at - 12) ≡ at = omega (arith, above) in e) (zeros (at - 12) (omega (arith, above, within)));
}
  where
    zeros : (k : ℕ) → k < 4 → reader (12 + k) ≡ 0
    zeros zero few = refl
    zeros (suc zero) few = refl
    zeros (suc (suc zero)) few = refl
    zeros (suc (suc (suc zero))) few = refl
    zeros (suc (suc (suc (suc k)))) few = absurd (omega arith)

recency : IsRecency reader shape (1 ∷ 0 ∷ [])
recency = record {
  walk = (refl, omega arith, (refl, omega arith, refl));
  distinct = ((λ same. omega (arith, same), tt), (tt, tt));
  back = (refl, (refl, refl));
}

free : IsFreeList reader shape (2 ∷ 3 ∷ [])
free = record { walk = (refl, omega arith, (refl, omega arith, refl)); distinct = ((λ same. omega (arith, same), tt), (tt, tt)) }

chains : IsChains reader shape chains_of
chains = record { walk = λ chain few. walk chain few; distinct = λ chain few. distinct chain few; falls = λ chain item few one. falls chain item few one }
  where
    walk : (chain : ℕ) → chain < 4 → IsWalk reader shape (reader (17 + chain)) 0 (chains_of chain)
    walk zero few = (refl, omega arith, refl)
    walk (suc zero) few = refl
    walk (suc (suc zero)) few = refl
    walk (suc (suc (suc zero))) few = (refl, omega arith, refl)
    walk (suc (suc (suc (suc chain)))) few = absurd (omega arith)

    distinct : (chain : ℕ) → chain < 4 → AreDistinct (chains_of chain)
    distinct zero few = (tt, tt)
    distinct (suc zero) few = tt
    distinct (suc (suc zero)) few = tt
    distinct (suc (suc (suc zero))) few = (tt, tt)
    distinct (suc (suc (suc (suc chain)))) few = tt

    falls : (chain item : ℕ) → chain < 4 → IsOneOf (chains_of chain) item → FallsOn reader shape item chain
    falls zero item few (inl here) = subst (λ (i : ℕ). FallsOn reader shape i 0) here (97 ∷ [], (first_held.key, refl))
    falls zero item few (inr none) = absurd none
    falls (suc zero) item few one = absurd one
    falls (suc (suc zero)) item few one = absurd one
    falls (suc (suc (suc zero))) item few (inl here) = subst (λ (i : ℕ). FallsOn reader shape i 3) here (98 ∷ [], (second_held.key, refl))
    falls (suc (suc (suc zero))) item few (inr none) = absurd none
    falls (suc (suc (suc (suc chain)))) item few one = absurd one

state : IsState example_conf example_list
state = record { few = omega arith; apart = (second, (apart, tt), (first, tt, tt)) }
  where
    first : IsEntry example_conf first_entry
    first = record { key = (omega arith, omega arith); value = omega arith; blocks = omega arith }

    second : IsEntry example_conf second_entry
    second = record { key = (omega arith, omega arith); value = omega arith; blocks = omega arith }

    apart : IsApart example_conf second_entry first_entry
    apart = record {
      keys = λ same. omega (arith, ap (λ (l : List ℕ). get_or l 0 0) same);
      blocks = λ block one two. omega (arith, one.0, one.1, two.0, two.1);
    }

bits : (block : ℕ) → block < 64 → is_marked reader shape block ≡ is_covered example_conf example_list block
bits block few = ap (λ (w : ℕ). bit_at (reader (16 + w)) (block % 64) == 1) (let e : block / 64 ≡ 0 = omega arith in e) ∙ ap (λ (b : ℕ). bit_at 3 b == 1) (let e : block % 64 ≡ block = omega arith in e) ∙ of block
  where
    of : (b : ℕ) → (bit_at 3 b == 1) ≡ is_covered example_conf example_list b
    of zero = refl
    of (suc zero) = refl
    of (suc (suc b)) =
        let clear : is_covered example_conf example_list (suc (suc b)) ≡ false = grind (arith, nat_tests) in
        ap (λ (n : ℕ). n == 1) (bit_at_above 3 2 (suc (suc b)) (omega arith) (omega arith)) ∙ sym clear

fits : FitsList example_conf parts example_list
fits = record {
  state = state;
  count = refl;
  linked = λ chain item few one. linked chain item one;
  others = λ item few. (λ one. used item one, λ none. unused item few none);
  covered = λ block few. refl;
}
  where
    linked : (chain item : ℕ) → IsOneOf (chains_of chain) item → IsOneOf (1 ∷ 0 ∷ []) item
    linked zero item (inl here) = inr (inl here)
    linked zero item (inr none) = absurd none
    linked (suc zero) item one = absurd one
    linked (suc (suc zero)) item one = absurd one
    linked (suc (suc (suc zero))) item (inl here) = inl here
    linked (suc (suc (suc zero))) item (inr none) = absurd none
    linked (suc (suc (suc (suc chain)))) item one = absurd one

    used : (item : ℕ) → IsOneOf (2 ∷ 3 ∷ []) item → IsNoneOf (1 ∷ 0 ∷ []) item
    used item (inl here) = (λ same. omega (arith, here, same), (λ same. omega (arith, here, same), tt))
    used item (inr (inl here)) = (λ same. omega (arith, here, same), (λ same. omega (arith, here, same), tt))
    used item (inr (inr none)) = absurd none

    unused : (item : ℕ) → item < 4 → IsNoneOf (1 ∷ 0 ∷ []) item → IsOneOf (2 ∷ 3 ∷ []) item
    unused zero few none = absurd (none.1.0 refl)
    unused (suc zero) few none = absurd (none.0 refl)
    unused (suc (suc zero)) few none = inl refl
    unused (suc (suc (suc zero))) few none = inr (inl refl)
    unused (suc (suc (suc (suc item)))) few none = absurd (omega arith)

pub example_agrees : Agrees example_conf example_words example_list
example_agrees = record {
  len = refl;
  closed = refl;
  items = 1 ∷ 0 ∷ [];
  agrees = record {
    parts = parts;
    is = refl;
    held = record { head = head; count = refl; recency = recency; chains = chains; free = free; bits = bits };
    fits = fits;
    entries = (second_held, (first_held, tt));
    chained = λ item one. chained item one;
  };
}
  where
    chained : (item : ℕ) → IsOneOf (1 ∷ 0 ∷ []) item → IsOneOf (chains_of (item_chain reader shape item)) item
    chained item (inl here) = subst (λ (i : ℕ). IsOneOf (chains_of (item_chain reader shape i)) i) here (inl refl)
    chained item (inr (inl here)) = subst (λ (i : ℕ). IsOneOf (chains_of (item_chain reader shape i)) i) here (inl refl)
    chained item (inr (inr none)) = absurd none
