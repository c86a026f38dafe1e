-- Regions of one chain.
use Rattle.std.proofs.Common.{◌≡◌, ℕ, ◌<◌, List, [], sym, ap, ◌∙◌, subst, arith}
use Rattle.uw_words.specs.declared.shape.Shape.{Shape}
use Rattle.uw_words.specs.Shapes.{IsShape}
use Rattle.uw_words.specs.Numbers.{IsOneOf, AreDistinct}
use Rattle.uw_words.specs.Walks.{IsWalk}
use Rattle.uw_chains.specs.Chains.{chain_place, item_chain, IsChains, with_chain}
use Rattle.uw_chains.proofs.Places.{own_short, with_same}

pub one_chain : (shape : Shape) (reader : ℕ → ℕ) (chains : ℕ → List ℕ) (list : List ℕ) → shape.n_chains ≡ 1 → chains 0 ≡ list → IsChains reader shape chains → IsChains reader shape (λ _. list)
one_chain shape reader chains list one is old = record {
  walk = λ chain low. subst (λ (l : List ℕ). IsWalk reader shape (reader (chain_place shape chain)) 0 l) (here chain low) (old.walk chain low);
  distinct = λ chain low. subst AreDistinct (here chain low) (old.distinct chain low);
  falls = λ chain item low among. old.falls chain item low (subst (λ (l : List ℕ). IsOneOf l item) (sym (here chain low)) among);
}
  where
    here : (chain : ℕ) → chain < shape.n_chains → chains chain ≡ list
    here chain low = let zero : chain ≡ 0 = omega arith in ap chains zero ∙ is

pub own_is : (shape : Shape) → IsShape shape → (reader : ℕ → ℕ) (item : ℕ) → shape.n_chains ≡ 1 → 0 ≡ item_chain reader shape item
own_is shape shaped reader item one = omega (arith, own_short shape shaped reader item, one)

-- the chain after its items change
pub changed : (shape : Shape) → IsShape shape → (before now : ℕ → ℕ) (item : ℕ) (list other : List ℕ) → shape.n_chains ≡ 1
    → IsChains now shape (with_chain (λ _. list) (item_chain before shape item) other) → IsChains now shape (λ _. other)
changed shape shaped before now item list other one is =
    one_chain shape now (with_chain (λ _. list) (item_chain before shape item) other) other one
    (with_same (λ _. list) (item_chain before shape item) other 0 (own_is shape shaped before item one)) is

pub no_items : (shape : Shape) (reader : ℕ → ℕ) → shape.n_chains ≡ 1 → reader shape.chains ≡ 0 → IsChains reader shape (λ _. [])
no_items shape reader one none = record {
  walk = λ chain low. let place : chain_place shape chain ≡ shape.chains = omega arith in ap reader place ∙ none;
  distinct = λ chain low. tt;
  falls = λ chain item low among. absurd among;
}
