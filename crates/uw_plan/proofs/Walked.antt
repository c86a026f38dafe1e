-- The parts of a region that agrees with a list, by counted walks.
use Rattle.std.proofs.Common.{◌≡◌, ◌↔◌, ℕ, ◌<◌, true, List, sym, ◌∙◌, subst}
use Rattle.uw_model.specs.declared.conf.CacheConf.{CacheConf}
use Rattle.uw_model.specs.declared.entries.Entry.{Entry}
use Rattle.uw_model.specs.Entries.{IsCacheConf}
use Rattle.uw_words.specs.declared.shape.Shape.{Shape}
use Rattle.uw_words.specs.Plans.{region}
use Rattle.uw_words.specs.Numbers.{IsNoneOf, IsOneOf}
use Rattle.uw_recency.proofs.Lists.{counted_list}
use Rattle.uw_chains.specs.Chains.{chain_place, item_chain}
use Rattle.uw_chains.proofs.Places.{own_short}
use Rattle.uw_chains.proofs.Sought.{counted_chain}
use Rattle.uw_items.proofs.FreeItems.{free_counted}
use Rattle.uw_plan.specs.Regions.{shape_of}
use Rattle.uw_plan.specs.Agreement.{Agrees, AgreesAs}
use Rattle.uw_plan.specs.CountedWalks.{AreCountedWalks, is_whole_from, items_from}
use Rattle.uw_plan.proofs.Shapes.{shape_is}

module _ (conf : CacheConf) (words : List ℕ) (list : List Entry) (is : IsCacheConf conf) (agrees : Agrees conf words list) where
  abbrev shape : Shape
  shape = shape_of conf

  abbrev reader : ℕ → ℕ
  reader = region words

  abbrev given : AgreesAs (region words) (shape_of conf) conf agrees.items list
  given = agrees.agrees

  recent_both : (items_from reader shape 6 2 ≡ given.parts.items) × (is_whole_from reader shape 6 2 ≡ true)
  recent_both = counted_list shape reader given.parts.items (shape_is conf is) given.held.recency

  free_both : (items_from reader shape 8 2 ≡ given.parts.free) × (is_whole_from reader shape 8 2 ≡ true)
  free_both = free_counted shape reader given.parts.free (shape_is conf is) given.held.free

  chain_both : (chain : ℕ) → chain < conf.chains
      → (items_from reader shape (chain_place shape chain) 0 ≡ given.parts.chains chain) × (is_whole_from reader shape (chain_place shape chain) 0 ≡ true)
  chain_both chain low = counted_chain shape reader given.parts.chains chain (shape_is conf is) given.held.chains low

  free_are : (item : ℕ) → item < conf.items → IsOneOf (items_from reader shape 8 2) item ↔ IsNoneOf agrees.items item
  free_are item low =
      let both : IsOneOf given.parts.free item ↔ IsNoneOf given.parts.items item = given.fits.others item low in
      subst (λ (l : List ℕ). IsOneOf (items_from reader shape 8 2) item ↔ IsNoneOf l item) given.is
      (subst (λ (l : List ℕ). IsOneOf l item ↔ IsNoneOf given.parts.items item) (sym free_both.0) both)

  linked_are : (chain item : ℕ) → chain < conf.chains → IsOneOf (items_from reader shape (chain_place shape chain) 0) item → IsOneOf agrees.items item
  linked_are chain item low one =
      subst (λ (l : List ℕ). IsOneOf l item) given.is (given.fits.linked chain item low (subst (λ (l : List ℕ). IsOneOf l item) (chain_both chain low).0 one))

  chained_are : (item : ℕ) → IsOneOf agrees.items item → IsOneOf (items_from reader shape (chain_place shape (item_chain reader shape item)) 0) item
  chained_are item one =
      let low : item_chain reader shape item < conf.chains = own_short shape (shape_is conf is) reader item in
      subst (λ (l : List ℕ). IsOneOf l item) (sym (chain_both (item_chain reader shape item) low).0) (given.chained item one)

  pub counted_walks : AreCountedWalks (region words) (shape_of conf) agrees.items list
  counted_walks = record {
    recent = recent_both.0 ∙ given.is;
    recent_whole = recent_both.1;
    held = given.entries;
    free = free_are;
    free_whole = free_both.1;
    linked = linked_are;
    chained = chained_are;
    chains_whole = λ chain low. (chain_both chain low).1;
    count = given.held.count ∙ given.fits.count;
  }
