-- Keys of pairs that stand twice.
use Rattle.std.proofs.Common.{◌≡◌, ℕ, ◌==◌, Bool, true, false, ◌&&◌, ◌||◌, cond, List, [], ◌∷◌, refl, sym, ap, ◌∙◌}
use Rattle.std.specs.Borrow.{Bor}
use Rattle.std.specs.HashSet.{HashSet, Updates, contains_by}
use Rattle.std.specs.List.{list_any}
use Rattle.std.specs.Str.{bytes_eq}
use Rattle.std.proofs.lemmas.Slice.Eq.{bytes_eq-Decides}
use Rattle.uw_rules.specs.Arguments.{has_key_twice, is_pair_of, key_of_pair}

same_truth : (a b : Bool) → (a ≡ true → b ≡ true) → (b ≡ true → a ≡ true) → a ≡ b
same_truth true b h k = sym (h refl)
same_truth false true h k = k refl
same_truth false false h k = refl

either_way : (a b : List ℕ) → bytes_eq a b ≡ bytes_eq b a
either_way a b =
    same_truth (bytes_eq a b) (bytes_eq b a) (λ same. (bytes_eq-Decides b a).1 (sym ((bytes_eq-Decides a b).0 same)))
    (λ same. (bytes_eq-Decides a b).1 (sym ((bytes_eq-Decides b a).0 same)))

split : (has same seen : Bool) → (has && cond same true seen) ≡ ((has && seen) || (has && same))
split true true true = refl
split true true false = refl
split true false true = refl
split true false false = refl
split false same seen = refl

swap : (n o k ns os ks : Bool) → n ≡ (o || k) → ns ≡ (os || ks) → (n || ns) ≡ ((o || os) || (k || ks))
swap n true k ns os ks h j = ap (λ (b : Bool). b || ns) h
swap n false true ns true ks h j = ap (λ (b : Bool). b || ns) h
swap n false true ns false ks h j = ap (λ (b : Bool). b || ns) h
swap n false false ns os ks h j = ap (λ (b : Bool). b || ns) h ∙ j

joined : (first seen same twice more : Bool) → first ≡ false → more ≡ (seen || same) → (more || twice) ≡ ((first || seen) || (same || twice))
joined true seen same twice more none h = absurd (cc)
joined false true same twice more none h = ap (λ (b : Bool). b || twice) h
joined false false same twice more none h = ap (λ (b : Bool). b || twice) h

never : (b : Bool) → (b && false) ≡ false
never true = refl
never false = refl

module _ {S : Type 0} where
  -- the set has the key
  abbrev pub is_in : HashSet (Bor (List ℕ)) S → List ℕ → Bool
  is_in seen text = contains_by (λ (key : Bor (List ℕ)). bytes_eq text key.now) seen

  -- the pair has a text, and the set its key
  abbrev pub is_seen : HashSet (Bor (List ℕ)) S → List ℕ → Bool
  is_seen seen pair = list_any (λ byte. byte == 61) pair && is_in seen (key_of_pair pair)

  -- one of the pairs has its key in the set, or two of them have the same
  abbrev pub is_twice_with : HashSet (Bor (List ℕ)) S → List (List ℕ) → Bool
  is_twice_with seen pairs = list_any (is_seen seen) pairs || has_key_twice pairs

  put : (old new : HashSet (Bor (List ℕ)) S) (key : Bor (List ℕ)) → Updates (λ (x y : Bor (List ℕ)). bytes_eq x.now y.now) old new key true → (text : List ℕ)
      → is_in new text ≡ cond (bytes_eq key.now text) true (is_in old text)
  put old new key h text = h.0 (record { ref_ptr = (0, 0); now = text })

  one_more : (old new : HashSet (Bor (List ℕ)) S) (key : Bor (List ℕ)) → Updates (λ (x y : Bor (List ℕ)). bytes_eq x.now y.now) old new key true → (pair : List ℕ)
      → is_seen new pair ≡ (is_seen old pair || is_pair_of key.now pair)
  unfolding is_pair_of
  one_more old new key h pair =
      let has = list_any (λ byte. byte == 61) pair in
      let found = key_of_pair pair in
      ap (λ (b : Bool). has && b) (put old new key h found) ∙ split has (bytes_eq key.now found) (is_in old found)
      ∙ ap (λ (b : Bool). (has && is_in old found) || (has && b)) (either_way key.now found)

  all_more : (old new : HashSet (Bor (List ℕ)) S) (key : Bor (List ℕ)) → Updates (λ (x y : Bor (List ℕ)). bytes_eq x.now y.now) old new key true
      → (pairs : List (List ℕ)) → list_any (is_seen new) pairs ≡ (list_any (is_seen old) pairs || list_any (is_pair_of key.now) pairs)
  all_more old new key h [] = refl
  all_more old new key h (pair ∷ pairs) =
      swap (is_seen new pair) (is_seen old pair) (is_pair_of key.now pair) (list_any (is_seen new) pairs) (list_any (is_seen old) pairs)
      (list_any (is_pair_of key.now) pairs) (one_more old new key h pair) (all_more old new key h pairs)

  -- a pair whose key was not in the set, and is now
  pub next_pair : (old new : HashSet (Bor (List ℕ)) S) (key : Bor (List ℕ)) (pair : List ℕ) (pairs : List (List ℕ))
      → Updates (λ (x y : Bor (List ℕ)). bytes_eq x.now y.now) old new key true → key.now ≡ key_of_pair pair → is_seen old pair ≡ false
      → is_twice_with new pairs ≡ is_twice_with old (pair ∷ pairs)
  next_pair old new key pair pairs h is none =
      joined (is_seen old pair) (list_any (is_seen old) pairs) (list_any (is_pair_of (key_of_pair pair)) pairs) (has_key_twice pairs) (list_any (is_seen new) pairs) none
      (all_more old new key h pairs ∙ ap (λ (text : List ℕ). list_any (is_seen old) pairs || list_any (is_pair_of text) pairs) is)

  -- a pair whose key is in the set
  pub seen_pair : (old : HashSet (Bor (List ℕ)) S) (pair : List ℕ) (pairs : List (List ℕ)) → is_seen old pair ≡ true → is_twice_with old (pair ∷ pairs) ≡ true
  seen_pair old pair pairs h = ap (λ (b : Bool). (b || list_any (is_seen old) pairs) || has_key_twice (pair ∷ pairs)) h

  empty_in : (seen : HashSet (Bor (List ℕ)) S) (text : List ℕ) → seen.keys ≡ [] → is_in seen text ≡ false
  empty_in seen text h = ap (list_any (λ (key : Bor (List ℕ)). bytes_eq text key.now)) h

  none_in : (seen : HashSet (Bor (List ℕ)) S) (pairs : List (List ℕ)) → seen.keys ≡ [] → list_any (is_seen seen) pairs ≡ false
  none_in seen [] h = refl
  none_in seen (pair ∷ pairs) h =
      ap (λ (b : Bool). (list_any (λ byte. byte == 61) pair && b) || list_any (is_seen seen) pairs) (empty_in seen (key_of_pair pair) h)
      ∙ ap (λ (b : Bool). b || list_any (is_seen seen) pairs) (never (list_any (λ byte. byte == 61) pair)) ∙ none_in seen pairs h

  -- no key is in the empty set
  pub no_pair : (seen : HashSet (Bor (List ℕ)) S) (pairs : List (List ℕ)) → seen.keys ≡ [] → is_twice_with seen pairs ≡ has_key_twice pairs
  no_pair seen pairs h = ap (λ (b : Bool). b || has_key_twice pairs) (none_in seen pairs h)
