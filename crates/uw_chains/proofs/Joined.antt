-- An item joins its chain.
use Rattle.std.proofs.Common.{◌≡◌, ◌≢◌, inl, inr, ℕ, ◌+◌, ◌%◌, ◌<◌, List, ◌∷◌, sym, ap, ◌∙◌, subst, arith}
use Rattle.std.proofs.lemmas.Bool.{cases_eq}
use Rattle.uw_words.specs.declared.shape.Shape.{Shape}
use Rattle.uw_words.specs.Shapes.{IsShape}
use Rattle.uw_words.specs.Numbers.{IsOneOf, IsNoneOf, AreDistinct}
use Rattle.uw_words.specs.Walks.{link_of, item_word, IsWalk}
use Rattle.uw_words.specs.Records.{HoldsKey, HoldsSomeKey}
use Rattle.uw_words.proofs.Links.{walk_same}
use Rattle.uw_words.proofs.Numbers.{one_apart}
use Rattle.uw_chains.specs.Chains.{chain_place, item_chain, FallsOn, IsChains, with_chain}
use Rattle.uw_chains.proofs.Places.{zero_word, head_apart, head_link, heads_apart, links_apart, word_apart, own_short, key_same, own_chain, with_same, with_other}

module _ (shape : Shape) (shaped : IsShape shape) (before now : ℕ → ℕ) (chains : ℕ → List ℕ) (item : ℕ) (is : IsChains before shape chains) (short : item < shape.n_items)
    (key : HoldsSomeKey before shape item) (none : IsNoneOf (chains (item_chain before shape item)) item)
    (next : now (link_of shape item) ≡ before (chain_place shape (item_chain before shape item))) (first : now (chain_place shape (item_chain before shape item)) ≡ link_of shape item)
    (others : (at : ℕ) → at ≢ link_of shape item → at ≢ chain_place shape (item_chain before shape item) → now at ≡ before at) where
  -- words 0 of other items stay
  word_stays : (other : ℕ) → other ≢ item → item_word now shape other 0 ≡ item_word before shape other 0
  word_stays other apart =
      zero_word now shape other
      ∙ others (link_of shape other) (links_apart shape shaped other item apart)
      (λ same. head_link shape shaped (item_chain before shape item) other (own_short shape shaped before item) (sym same))
      ∙ sym (zero_word before shape other)

  key_stays : (other : ℕ) (text : List ℕ) → HoldsKey before shape other text → HoldsKey now shape other text
  key_stays other text holds =
      key_same shape shaped before now other text
      (λ field some low.
      others (link_of shape other + field) (word_apart shape shaped other item field (omega arith) low)
      (λ same. head_apart shape shaped (item_chain before shape item) other field (own_short shape shaped before item) (sym same)))
      holds

  away : (chain : ℕ) → chain ≢ item_chain before shape item → chain < shape.n_chains → (other : ℕ) → IsOneOf (chains chain) other → other ≢ item
  away chain apart low other one = λ same.
      apart (own_chain shape before chains chain item is low (subst (IsOneOf (chains chain)) same one))

  walk_own : IsWalk now shape (now (chain_place shape (item_chain before shape item))) 0 (item ∷ chains (item_chain before shape item))
  walk_own = (
    first,
    short,
    subst (λ (link : ℕ). IsWalk now shape link 0 (chains (item_chain before shape item))) (sym (zero_word now shape item ∙ next))
        (walk_same shape before now 0 (chains (item_chain before shape item)) (before (chain_place shape (item_chain before shape item)))
        (λ other one. word_stays other (one_apart (chains (item_chain before shape item)) other item one none)) (is.walk (item_chain before shape item) (own_short shape shaped before item))),
  )

  walk_other : (chain : ℕ) → chain < shape.n_chains → chain ≢ item_chain before shape item → IsWalk now shape (now (chain_place shape chain)) 0 (chains chain)
  walk_other chain low apart =
      subst (λ (link : ℕ). IsWalk now shape link 0 (chains chain))
      (sym (others (chain_place shape chain) (head_link shape shaped chain item low) (heads_apart shape shaped chain (item_chain before shape item) apart)))
      (walk_same shape before now 0 (chains chain) (before (chain_place shape chain)) (λ other one. word_stays other (away chain apart low other one)) (is.walk chain low))

  falls_own : (chain other : ℕ) → chain ≡ item_chain before shape item → IsOneOf (item ∷ chains (item_chain before shape item)) other → FallsOn now shape other chain
  falls_own chain other same (inl here) =
      subst (λ (i : ℕ). FallsOn now shape i chain) here
      (key.0, (key_stays item key.0 key.1, ap (λ (hash : ℕ). hash % shape.n_chains) (sym key.1.hash) ∙ sym same))
  falls_own chain other same (inr later) =
      let falls = is.falls (item_chain before shape item) other (own_short shape shaped before item) later in
      (falls.0, (key_stays other falls.0 falls.1.0, falls.1.1 ∙ sym same))

  falls_other : (chain other : ℕ) → chain < shape.n_chains → IsOneOf (chains chain) other → FallsOn now shape other chain
  falls_other chain other low one =
      let falls = is.falls chain other low one in
      (falls.0, (key_stays other falls.0 falls.1.0, falls.1.1))

  pub joined : IsChains now shape (with_chain chains (item_chain before shape item) (item ∷ chains (item_chain before shape item)))
  joined = record {
    walk = λ chain low. elim (cases_eq chain (item_chain before shape item)) [
      | inl same ↦
          subst (λ (l : List ℕ). IsWalk now shape (now (chain_place shape chain)) 0 l) (sym (with_same chains (item_chain before shape item) (item ∷ chains (item_chain before shape item)) chain same))
          (subst (λ (c : ℕ). IsWalk now shape (now (chain_place shape c)) 0 (item ∷ chains (item_chain before shape item))) (sym same) walk_own)
      | inr apart ↦
          subst (λ (l : List ℕ). IsWalk now shape (now (chain_place shape chain)) 0 l) (sym (with_other chains (item_chain before shape item) (item ∷ chains (item_chain before shape item)) chain apart))
          (walk_other chain low apart)
    ];
    distinct = λ chain low. elim (cases_eq chain (item_chain before shape item)) [
      | inl same ↦
          subst AreDistinct (sym (with_same chains (item_chain before shape item) (item ∷ chains (item_chain before shape item)) chain same))
          (none, is.distinct (item_chain before shape item) (own_short shape shaped before item))
      | inr apart ↦
          subst AreDistinct (sym (with_other chains (item_chain before shape item) (item ∷ chains (item_chain before shape item)) chain apart)) (is.distinct chain low)
    ];
    falls = λ chain other low one. elim (cases_eq chain (item_chain before shape item)) [
      | inl same ↦
          falls_own chain other same
          (subst (λ (l : List ℕ). IsOneOf l other) (with_same chains (item_chain before shape item) (item ∷ chains (item_chain before shape item)) chain same) one)
      | inr apart ↦
          falls_other chain other low
          (subst (λ (l : List ℕ). IsOneOf l other) (with_other chains (item_chain before shape item) (item ∷ chains (item_chain before shape item)) chain apart) one)
    ];
  }
