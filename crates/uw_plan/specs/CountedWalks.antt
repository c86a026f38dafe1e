-- What counted walks over the words of a region give (own rule).
use Rattle.std.specs.Prelude.{◌≡◌, ◌↔◌, ℕ, ◌<◌, Bool, true, List, length}
use Rattle.uw_model.specs.declared.entries.Entry.{Entry}
use Rattle.uw_words.specs.declared.shape.Shape.{Shape}
use Rattle.uw_words.specs.Numbers.{IsNoneOf, IsOneOf}
use Rattle.uw_words.specs.Walks.{counted_walk, is_whole_walk}
use Rattle.uw_chains.specs.Chains.{chain_place, item_chain}
use Rattle.uw_plan.specs.Parts.{HoldEntries}

-- the items that are met from the link at a place on, along a word of each, in as many steps as there are items
abbrev pub items_from : (ℕ → ℕ) → Shape → (at field : ℕ) → List ℕ
items_from reader shape at field = counted_walk reader shape (reader at) field shape.n_items

-- that walk ends at the link 0
abbrev pub is_whole_from : (ℕ → ℕ) → Shape → (at field : ℕ) → Bool
is_whole_from reader shape at field = is_whole_walk reader (reader at) field shape.n_items

-- counted walks give the items of a list, each walk whole: the recency list, from header word 6 along word 2, is these items,
-- which hold the entries in order; the free items, from header word 8 along word 2, are all others; and the chains, each from
-- its word along word 0, have these items alone, and each of them on the chain on which it falls; header word 9 counts them
pub record AreCountedWalks (reader : ℕ → ℕ) (shape : Shape) (items : List ℕ) (list : List Entry) : Type 0 where
  pub recent : items_from reader shape 6 2 ≡ items
  pub recent_whole : is_whole_from reader shape 6 2 ≡ true
  pub held : HoldEntries reader shape items list
  pub free : (item : ℕ) → item < shape.n_items → IsOneOf (items_from reader shape 8 2) item ↔ IsNoneOf items item
  pub free_whole : is_whole_from reader shape 8 2 ≡ true
  pub linked : (chain item : ℕ) → chain < shape.n_chains → IsOneOf (items_from reader shape (chain_place shape chain) 0) item
      → IsOneOf items item
  pub chained : (item : ℕ) → IsOneOf items item
      → IsOneOf (items_from reader shape (chain_place shape (item_chain reader shape item)) 0) item
  pub chains_whole : (chain : ℕ) → chain < shape.n_chains → is_whole_from reader shape (chain_place shape chain) 0 ≡ true
  pub count : reader 9 ≡ length list
