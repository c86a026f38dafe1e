-- Which words of a region agree with a list of entries (own rule).
use Rattle.std.specs.Prelude.{◌≡◌, ◌↔◌, ℕ, ◌*◌, ◌<◌, Bool, not, List, length}
use Rattle.uw_model.specs.declared.conf.CacheConf.{CacheConf}
use Rattle.uw_model.specs.declared.entries.Entry.{Entry}
use Rattle.uw_model.specs.Entries.{IsState}
use Rattle.uw_model.specs.Layout.{bitmap_words, words_of}
use Rattle.uw_model.specs.Placement.{is_free}
use Rattle.uw_words.specs.declared.shape.Shape.{Shape}
use Rattle.uw_words.specs.Plans.{region}
use Rattle.uw_words.specs.Numbers.{IsOneOf, IsNoneOf}
use Rattle.uw_chains.specs.Chains.{item_chain}
use Rattle.uw_plan.specs.Parts.{HoldEntries, HoldsParts, Parts}
use Rattle.uw_plan.specs.Regions.{shape_of}

-- an entry of the list covers the block
abbrev pub is_covered : CacheConf → List Entry → ℕ → Bool
is_covered conf list block = not (is_free conf list 1 block)

-- the parts fit a list, and each other: the list is a state of the configuration; chains have items in use alone, and all
-- others are free; and a block is marked exactly where an entry covers it
pub record FitsList (conf : CacheConf) (parts : Parts) (list : List Entry) : Type 0 where
  pub state : IsState conf list
  pub count : parts.count ≡ length list
  pub linked : (chain item : ℕ) → chain < conf.chains → IsOneOf (parts.chains chain) item → IsOneOf parts.items item
  pub others : (item : ℕ) → item < conf.items → IsOneOf parts.free item ↔ IsNoneOf parts.items item
  pub covered : (block : ℕ) → block < 64 * bitmap_words conf → parts.marked block ≡ is_covered conf list block

-- a reader's words agree with a list, whose entries these items hold: their parts fit the list, the items hold its entries
-- in order, and each is on the chain on which its key falls
pub record AgreesAs (reader : ℕ → ℕ) (shape : Shape) (conf : CacheConf) (items : List ℕ) (list : List Entry) : Type 0 where
  pub parts : Parts
  pub is : parts.items ≡ items
  pub held : HoldsParts reader shape parts
  pub fits : FitsList conf parts list
  pub entries : HoldEntries reader shape items list
  pub chained : (item : ℕ) → IsOneOf items item → IsOneOf (parts.chains (item_chain reader shape item)) item

-- the words of a region, whose gate is closed, agree with a list
pub record Agrees (conf : CacheConf) (words : List ℕ) (list : List Entry) : Type 0 where
  pub len : length words ≡ words_of conf
  pub closed : region words 10 ≡ 0
  pub items : List ℕ
  pub agrees : AgreesAs (region words) (shape_of conf) conf items list
