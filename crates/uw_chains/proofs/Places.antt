-- The places of the chains and of their items are apart.
use Rattle.std.proofs.Common.{◌≡◌, ◌≢◌, ◌⊎◌, inl, inr, ℕ, ◌+◌, ◌-◌, ◌%◌, ◌<◌, ◌≤◌, List, [], ◌∷◌, length, refl, sym, ap, ◌∙◌, subst, arith}
use Rattle.std.proofs.lemmas.Bool.{cases_eq}
use Rattle.std.proofs.lemmas.Bool.Decides.{nat_tests}
use Rattle.uw_words.specs.declared.shape.Shape.{Shape}
use Rattle.uw_words.specs.Shapes.{IsShape, item_head}
use Rattle.uw_words.specs.Numbers.{IsOneOf}
use Rattle.uw_words.specs.Parts.{AgreeOn}
use Rattle.uw_words.specs.Walks.{link_of, item_word, IsWalk}
use Rattle.uw_words.specs.Records.{HoldsKey}
use Rattle.uw_words.specs.Texts.{text_words}
use Rattle.uw_words.proofs.Growth.{in_row}
use Rattle.uw_words.proofs.Copies.{text_same}
use Rattle.uw_words.proofs.Links.{same_item, same_link, walk_once, walk_same}
use Rattle.uw_chains.specs.Chains.{chain_place, key_chain, item_chain, IsChains, with_chain, link_places, place_before, unlink_places, IsChainsPlace, IsChainsKeyPlace}

pub zero_word : (reader : ℕ → ℕ) (shape : Shape) (item : ℕ) → item_word reader shape item 0 ≡ reader (link_of shape item)
zero_word reader shape item = ap reader (let e : link_of shape item + 0 ≡ link_of shape item = omega arith in e)

module _ (shape : Shape) (is : IsShape shape) where
  pub head_apart : (chain item field : ℕ) → chain < shape.n_chains → chain_place shape chain ≢ link_of shape item + field
  head_apart chain item field short = λ same. omega (arith, is.items, same)

  pub head_link : (chain item : ℕ) → chain < shape.n_chains → chain_place shape chain ≢ link_of shape item
  head_link chain item short = λ same. omega (arith, is.items, same)

  pub heads_apart : (one other : ℕ) → one ≢ other → chain_place shape one ≢ chain_place shape other
  heads_apart one other apart = λ same. apart (omega (arith, same))

  pub links_apart : (one other : ℕ) → one ≢ other → link_of shape one ≢ link_of shape other
  links_apart one other apart = λ same. apart (same_link shape is one other same)

  pub word_apart : (one other field : ℕ) → 1 ≤ field → field < shape.stride → link_of shape one + field ≢ link_of shape other
  word_apart one other field some low = λ same.
      let item : one ≡ other = same_item shape is one other field 0 low (omega (arith, is.stride)) (omega (arith, same)) in
      let here : link_of shape one ≡ link_of shape other = ap (link_of shape) item in
      omega (arith, here, same, some)

  pub own_short : (reader : ℕ → ℕ) (item : ℕ) → item_chain reader shape item < shape.n_chains
  own_short reader item = omega (arith, is.some_chain)

  pub key_short : (key : List ℕ) → key_chain shape key < shape.n_chains
  key_short key = omega (arith, is.some_chain)

-- a key stays where the words from word 6 on stay
pub key_same : (shape : Shape) → IsShape shape → (before now : ℕ → ℕ) (item : ℕ) (key : List ℕ)
    → ((field : ℕ) → 6 ≤ field → field < shape.stride → item_word now shape item field ≡ item_word before shape item field) → HoldsKey before shape item key → HoldsKey now shape item key
key_same shape is before now item key same holds = record {
  len = same 6 (omega arith) (omega (arith, is.stride)) ∙ holds.len;
  hash = same 7 (omega arith) (omega (arith, is.stride)) ∙ holds.hash;
  fits = holds.fits;
  text = text_same (link_of shape item + item_head) key before now
      (λ at one.
      let row = in_row (link_of shape item + item_head) (text_words (length key)) at one in
      let place : link_of shape item + (at - link_of shape item) ≡ at = omega (arith, row.0) in
      subst (λ (p : ℕ). now p ≡ before p) place
      (same (at - link_of shape item) (omega (arith, row.0)) (omega (arith, row.0, row.1, is.stride, holds.fits))))
      holds.text;
}

pub own_chain : (shape : Shape) (reader : ℕ → ℕ) (chains : ℕ → List ℕ) (chain item : ℕ) → IsChains reader shape chains → chain < shape.n_chains → IsOneOf (chains chain) item
    → chain ≡ item_chain reader shape item
own_chain shape reader chains chain item is short one =
    let falls = is.falls chain item short one in
    sym falls.1.1 ∙ ap (λ (hash : ℕ). hash % shape.n_chains) (sym falls.1.0.hash)

pub with_same : (chains : ℕ → List ℕ) (chain : ℕ) (items : List ℕ) (other : ℕ) → other ≡ chain → with_chain chains chain items other ≡ items
with_same chains chain items other same = grind (arith, nat_tests)

pub with_other : (chains : ℕ → List ℕ) (chain : ℕ) (items : List ℕ) (other : ℕ) → other ≢ chain → with_chain chains chain items other ≡ chains other
with_other chains chain items other apart = grind (arith, nat_tests)

-- the place of the link to an item is the first one or that of an item's link
pub place_away : (shape : Shape) (at : ℕ) (items : List ℕ) (item other : ℕ) → at ≢ other → ((one : ℕ) → IsOneOf items one → link_of shape one ≢ other) → place_before shape at items item ≢ other
place_away shape at [] item other first links = first
place_away shape at (x ∷ items) item other first links = elim (cases_eq x item) [
  | inl same ↦ (let here : place_before shape at (x ∷ items) item ≡ at = grind (arith, nat_tests) in λ e. first (sym here ∙ e))
  | inr apart ↦ (let there : place_before shape at (x ∷ items) item ≡ place_before shape (link_of shape x) items item = grind (arith, nat_tests) in
      λ e. place_away shape (link_of shape x) items item other (links x (inl refl)) (λ one among. links one (inr among)) (sym there ∙ e))
]

pub place_is : (shape : Shape) (at : ℕ) (items : List ℕ) (item : ℕ) → (place_before shape at items item ≡ at) ⊎ ((one : ℕ) × (IsOneOf items one × (place_before shape at items item ≡ link_of shape one)))
place_is shape at [] item = inl refl
place_is shape at (x ∷ items) item = elim (cases_eq x item) [
  | inl same ↦ inl (let here : place_before shape at (x ∷ items) item ≡ at = grind (arith, nat_tests) in here)
  | inr apart ↦ (let there : place_before shape at (x ∷ items) item ≡ place_before shape (link_of shape x) items item = grind (arith, nat_tests) in
      elim (place_is shape (link_of shape x) items item) [
        | inl first ↦ inr (x, (inl refl, there ∙ first))
        | inr later ↦ inr (later.0, (inr later.1.0, there ∙ later.1.1))
      ])
]

-- what the laws say
pub one_list : (shape : Shape) (reader : ℕ → ℕ) (chains others : ℕ → List ℕ) (chain : ℕ) → IsShape shape → IsChains reader shape chains → IsChains reader shape others → chain < shape.n_chains
    → chains chain ≡ others chain
one_list shape reader chains others chain is one two short = walk_once shape is reader 0 (chains chain) (others chain) (reader (chain_place shape chain)) (one.walk chain short) (two.walk chain short)

pub depend : (shape : Shape) (chains : ℕ → List ℕ) → IsShape shape → (before now : ℕ → ℕ)
    → AgreeOn (λ at. IsChainsPlace shape chains at ⊎ IsChainsKeyPlace shape chains at) before now → IsChains before shape chains → IsChains now shape chains
depend shape chains is before now agree old = record {
  walk = λ chain short.
      subst (λ (link : ℕ). IsWalk now shape link 0 (chains chain)) (sym (agree (chain_place shape chain) (inl (inl (chain, (short, refl))))))
      (walk_same shape before now 0 (chains chain) (before (chain_place shape chain))
      (λ item one. agree (link_of shape item + 0) (inl (inr (item, ((chain, (short, one)), (let e : link_of shape item + 0 ≡ link_of shape item = omega arith in e))))))
      (old.walk chain short));
  distinct = old.distinct;
  falls = λ chain item short one.
      let falls = old.falls chain item short one in (
        falls.0,
        (
          key_same shape is before now item falls.0 (λ field some low. agree (link_of shape item + field) (inr (item, field, ((chain, (short, one)), some, low, refl)))) falls.1.0,
          falls.1.1,
        ),
      );
}

pub link_own : (shape : Shape) (reader : ℕ → ℕ) (chains : ℕ → List ℕ) (item at : ℕ) → IsShape shape → IsOneOf (link_places reader shape item) at
    → IsChainsPlace shape (with_chain chains (item_chain reader shape item) (item ∷ chains (item_chain reader shape item))) at
link_own shape reader chains item at is (inl here) =
    let own = item_chain reader shape item in
    inr (item, ((own, (own_short shape is reader item, subst (λ (l : List ℕ). IsOneOf l item) (sym (with_same chains own (item ∷ chains own) own refl)) (inl refl))), sym here))
link_own shape reader chains item at is (inr (inl here)) = inl (item_chain reader shape item, (own_short shape is reader item, sym here))
link_own shape reader chains item at is (inr (inr none)) = absurd none

pub unlink_own : (shape : Shape) (reader : ℕ → ℕ) (chains : ℕ → List ℕ) (item at : ℕ) → IsShape shape → IsOneOf (unlink_places reader shape chains item) at → IsChainsPlace shape chains at
unlink_own shape reader chains item at is (inl here) =
    let own = item_chain reader shape item in
    elim (place_is shape (chain_place shape own) (chains own) item) [
      | inl first ↦ inl (own, (own_short shape is reader item, sym here ∙ first))
      | inr later ↦ inr (later.0, ((own, (own_short shape is reader item, later.1.0)), sym here ∙ later.1.1))
    ]
unlink_own shape reader chains item at is (inr none) = absurd none
