-- The hash chains of a region: a word of the chains is the link of the first item of its chain, an item's word 0 is the link of the next one, and an item is on the chain
-- on which the hash of its key falls ("The Caching framework").
use Rattle.std.specs.Prelude.{◌≡◌, ◌⊎◌, ℕ, ◌+◌, ◌%◌, ◌<◌, ◌≤◌, List, [], ◌∷◌, if◌then◌else◌, ◌==◌}
use Rattle.uw_base.specs.Numbers.{djb33x_of}
use Rattle.uw_words.specs.declared.shape.Shape.{Shape}
use Rattle.uw_words.specs.Numbers.{IsOneOf, IsNoneOf, AreDistinct}
use Rattle.uw_words.specs.Walks.{link_of, item_word, IsWalk}
use Rattle.uw_words.specs.Records.{HoldsKey}

-- the place of the link to the first item of a chain (own rule)
abbrev pub chain_place : Shape → ℕ → ℕ
chain_place shape chain = shape.chains + chain

-- the chain on which a key falls
abbrev pub key_chain : Shape → List ℕ → ℕ
key_chain shape key = djb33x_of key % shape.n_chains

-- the chain on which an item falls, by the hash that it holds (own rule)
abbrev pub item_chain : (ℕ → ℕ) → Shape → ℕ → ℕ
item_chain reader shape item = item_word reader shape item 7 % shape.n_chains

-- the item holds a key that falls on the chain
abbrev pub FallsOn : (ℕ → ℕ) → Shape → (item chain : ℕ) → Type 0
FallsOn reader shape item chain = (key : List ℕ) × (HoldsKey reader shape item key × (key_chain shape key ≡ chain))

-- these are the items of each chain, in order: the walk from the chain's word along word 0, without a repeat, of items whose keys fall there (own rule)
pub record IsChains (reader : ℕ → ℕ) (shape : Shape) (chains : ℕ → List ℕ) : Type 0 where
  pub walk : (chain : ℕ) → chain < shape.n_chains → IsWalk reader shape (reader (chain_place shape chain)) 0 (chains chain)
  pub distinct : (chain : ℕ) → chain < shape.n_chains → AreDistinct (chains chain)
  pub falls : (chain item : ℕ) → chain < shape.n_chains → IsOneOf (chains chain) item → FallsOn reader shape item chain

-- the words hold chains (own rule)
abbrev pub HasChains : (ℕ → ℕ) → Shape → Type 0
HasChains reader shape = (chains : ℕ → List ℕ) × IsChains reader shape chains

-- the words hold chains, and the item is on one of them (own rule)
abbrev pub IsChained : (ℕ → ℕ) → Shape → ℕ → Type 0
IsChained reader shape item = (chains : ℕ → List ℕ) × (IsChains reader shape chains × IsOneOf (chains (item_chain reader shape item)) item)

-- the words hold chains, and the item is on none of them (own rule)
abbrev pub IsUnchained : (ℕ → ℕ) → Shape → ℕ → Type 0
IsUnchained reader shape item = (chains : ℕ → List ℕ) × (IsChains reader shape chains × IsNoneOf (chains (item_chain reader shape item)) item)

-- the chains with other items on one of them (own rule)
abbrev pub with_chain : (ℕ → List ℕ) → ℕ → List ℕ → ℕ → List ℕ
with_chain chains chain items other = if other == chain then items else chains other

-- the places that are written where an item comes before the first one of its chain (own rule)
abbrev pub link_places : (ℕ → ℕ) → Shape → ℕ → List ℕ
link_places reader shape item = link_of shape item ∷ chain_place shape (item_chain reader shape item) ∷ []

-- the place of the link to an item, on a walk from the link at a place (own rule)
abbrev pub place_before : Shape → ℕ → List ℕ → ℕ → ℕ
place_before shape at [] item = at
place_before shape at (first ∷ items) item = if first == item then at else place_before shape (link_of shape first) items item

-- the place that is written where an item leaves its chain (own rule)
abbrev pub unlink_places : (ℕ → ℕ) → Shape → (ℕ → List ℕ) → ℕ → List ℕ
unlink_places reader shape chains item =
    let chain = item_chain reader shape item in
    place_before shape (chain_place shape chain) (chains chain) item ∷ []

-- the item is on one of the chains (own rule)
abbrev pub IsOnChain : Shape → (ℕ → List ℕ) → ℕ → Type 0
IsOnChain shape chains item = (chain : ℕ) × ((chain < shape.n_chains) × IsOneOf (chains chain) item)

-- the places of the chains: their words, and word 0 of each of their items (own rule)
abbrev pub IsChainsPlace : Shape → (ℕ → List ℕ) → ℕ → Type 0
IsChainsPlace shape chains at =
    ((chain : ℕ) × ((chain < shape.n_chains) × (at ≡ chain_place shape chain))) ⊎ ((item : ℕ) × (IsOnChain shape chains item × (at ≡ link_of shape item)))

-- the places of the keys of the chains' items: from word 6 on (own rule)
abbrev pub IsChainsKeyPlace : Shape → (ℕ → List ℕ) → ℕ → Type 0
IsChainsKeyPlace shape chains at =
    (item : ℕ) × (field : ℕ) × (IsOnChain shape chains item × (6 ≤ field) × (field < shape.stride) × (at ≡ link_of shape item + field))
