-- The items of a chain are looked at one after the other.
use Rattle.std.proofs.Common.{◌≡◌, ◌≢◌, ◌⊎◌, inl, inr, ℕ, ◌+◌, ◌<◌, ◌≤◌, true, List, [], ◌∷◌, length, Option, Some, None, IfSome, refl, sym, ap, ◌∙◌, subst, arith}
use Rattle.std.proofs.lemmas.Bool.Decides.{nat_tests}
use Rattle.uw_words.specs.declared.shape.Shape.{Shape}
use Rattle.uw_words.specs.Shapes.{IsShape}
use Rattle.uw_words.specs.Numbers.{IsOneOf}
use Rattle.uw_words.specs.Walks.{link_of, item_word, IsLink, IsWalk, counted_walk, is_whole_walk}
use Rattle.uw_words.specs.Records.{HoldsKey, HoldsSomeKey}
use Rattle.uw_words.proofs.Links.{link_above, link_within, same_link, walk_once, walk_short, counted_is}
use Rattle.uw_words.proofs.Numbers.{distinct_length}
use Rattle.uw_chains.specs.Chains.{chain_place, key_chain, item_chain, IsChains, place_before}
use Rattle.uw_chains.specs.ChainSteps.{IsKeyLink}
use Rattle.uw_chains.proofs.Places.{zero_word, own_short, key_short}

-- a chain has at most as many items as there are
pub chain_length : (shape : Shape) (reader : ℕ → ℕ) (chains : ℕ → List ℕ) (chain : ℕ) → IsChains reader shape chains → chain < shape.n_chains → length (chains chain) ≤ shape.n_items
chain_length shape reader chains chain is low =
    distinct_length (chains chain) shape.n_items (is.distinct chain low) (walk_short shape reader 0 (chains chain) (reader (chain_place shape chain)) (is.walk chain low))

pub counted_chain : (shape : Shape) (reader : ℕ → ℕ) (chains : ℕ → List ℕ) (chain : ℕ) → IsShape shape → IsChains reader shape chains → chain < shape.n_chains
    → (counted_walk reader shape (reader (chain_place shape chain)) 0 shape.n_items ≡ chains chain) × (is_whole_walk reader (reader (chain_place shape chain)) 0 shape.n_items ≡ true)
counted_chain shape reader chains chain shaped is low =
    counted_is shape shaped reader 0 (chains chain) (reader (chain_place shape chain)) shape.n_items (is.walk chain low) (chain_length shape reader chains chain is low)

-- the place of the link to an item is looked for from this place on
pub record Placing (reader : ℕ → ℕ) (shape : Shape) (first item at steps : ℕ) : Type 0 where
  pub rest : List ℕ
  pub walk : IsWalk reader shape (reader at) 0 rest
  pub one : IsOneOf rest item
  pub bound : steps + length rest ≤ shape.n_items
  pub within : at < shape.blocks
  pub same : (items : List ℕ) → IsWalk reader shape (reader first) 0 items → place_before shape first items item ≡ place_before shape at rest item

module _ (shape : Shape) (shaped : IsShape shape) (reader : ℕ → ℕ) (item : ℕ) where
  pub placing_start : (chains : ℕ → List ℕ) → IsChains reader shape chains → IsOneOf (chains (item_chain reader shape item)) item
      → Placing reader shape (chain_place shape (item_chain reader shape item)) item (chain_place shape (item_chain reader shape item)) 0
  placing_start chains is one =
      let own = item_chain reader shape item in
      let low : own < shape.n_chains = own_short shape shaped reader item in
      record {
        rest = chains own;
        walk = is.walk own low;
        one = one;
        bound = omega (arith, chain_length shape reader chains own is low);
        within = omega (arith, low, shaped.items, shaped.blocks);
        same = λ items walk. ap (λ (l : List ℕ). place_before shape (chain_place shape own) l item) (walk_once shape shaped reader 0 items (chains own) (reader (chain_place shape own)) walk (is.walk own low));
      }

  place_past : (at x : ℕ) (items : List ℕ) → x ≢ item → place_before shape at (x ∷ items) item ≡ place_before shape (link_of shape x) items item
  place_past at x items apart = grind (arith, nat_tests)

  place_here : (at x : ℕ) (items : List ℕ) → x ≡ item → place_before shape at (x ∷ items) item ≡ at
  place_here at x items same = grind (arith, nat_tests)

  placing_more : (first at steps next : ℕ) (rest : List ℕ) → IsWalk reader shape (reader at) 0 rest → IsOneOf rest item → steps + length rest ≤ shape.n_items
      → ((items : List ℕ) → IsWalk reader shape (reader first) 0 items → place_before shape first items item ≡ place_before shape at rest item)
      → next ≡ reader at → next ≢ link_of shape item → Placing reader shape first item next (steps + 1)
  placing_more first at steps next [] walk one bound same is other = absurd one
  placing_more first at steps next (x ∷ items) walk one bound same is other =
      let here : next ≡ link_of shape x = is ∙ walk.0 in
      let apart : x ≢ item = λ e. other (here ∙ ap (link_of shape) e) in
      record {
        rest = items;
        walk = subst (λ (link : ℕ). IsWalk reader shape link 0 items) (zero_word reader shape x ∙ ap reader (sym here)) walk.2;
        one = elim one [ inl e ↦ absurd (apart e) | inr later ↦ later ];
        bound = omega (arith, bound);
        within = omega (arith, here, link_within shape shaped x 0 walk.1 (omega arith));
        same = λ list w. same list w ∙ place_past at x items apart ∙ ap (λ (n : ℕ). place_before shape n items item) (sym here);
      }

  pub placing_next : (first at steps next : ℕ) → Placing reader shape first item at steps → next ≡ reader at → next ≢ link_of shape item → Placing reader shape first item next (steps + 1)
  placing_next first at steps next p is other = placing_more first at steps next p.rest p.walk p.one p.bound p.same is other

  found_at : (at next : ℕ) (rest : List ℕ) → IsWalk reader shape (reader at) 0 rest → IsOneOf rest item → next ≡ reader at → next ≡ link_of shape item → place_before shape at rest item ≡ at
  found_at at next [] walk one is here = absurd one
  found_at at next (x ∷ items) walk one is here = place_here at x items (same_link shape shaped x item (sym walk.0 ∙ sym is ∙ here))

  pub placing_found : (first at steps next : ℕ) → Placing reader shape first item at steps → next ≡ reader at → next ≡ link_of shape item
      → (items : List ℕ) → IsWalk reader shape (reader first) 0 items → place_before shape first items item ≡ at
  placing_found first at steps next p is here items walk = p.same items walk ∙ found_at at next p.rest p.walk p.one is here

  none_left : (rest : List ℕ) → IsOneOf rest item → length rest ≤ 0 → ⊥
  none_left [] one short = one
  none_left (x ∷ items) one short = omega arith

  pub placing_ends : (first at steps : ℕ) → Placing reader shape first item at steps → shape.n_items ≤ steps → ⊥
  placing_ends first at steps p all = none_left p.rest p.one (omega (arith, p.bound, all))

-- a key is looked for from this link on
pub record Searching (reader : ℕ → ℕ) (shape : Shape) (key : List ℕ) (link steps : ℕ) : Type 0 where
  pub rest : List ℕ
  pub walk : IsWalk reader shape link 0 rest
  pub bound : steps + length rest ≤ shape.n_items
  pub keys : (item : ℕ) → IsOneOf rest item → HoldsSomeKey reader shape item
  pub left : (items : List ℕ) → IsWalk reader shape (reader (chain_place shape (key_chain shape key))) 0 items → (item : ℕ) → IsOneOf rest item → IsOneOf items item
  pub passed : (items : List ℕ) → IsWalk reader shape (reader (chain_place shape (key_chain shape key))) 0 items → (item : ℕ) → IsOneOf items item
      → IsOneOf rest item ⊎ (HoldsKey reader shape item key → ⊥)

module _ (shape : Shape) (shaped : IsShape shape) (reader : ℕ → ℕ) (key : List ℕ) where
  pub search_start : (chains : ℕ → List ℕ) → IsChains reader shape chains → Searching reader shape key (reader (chain_place shape (key_chain shape key))) 0
  search_start chains is =
      let chain = key_chain shape key in
      let low : chain < shape.n_chains = key_short shape shaped key in
      let only = λ (items : List ℕ) (walk : IsWalk reader shape (reader (chain_place shape chain)) 0 items). walk_once shape shaped reader 0 items (chains chain) (reader (chain_place shape chain)) walk (is.walk chain low) in
      record {
        rest = chains chain;
        walk = is.walk chain low;
        bound = omega (arith, chain_length shape reader chains chain is low);
        keys = λ item one. let falls = is.falls chain item low one in (falls.0, falls.1.0);
        left = λ items walk item one. subst (λ (l : List ℕ). IsOneOf l item) (sym (only items walk)) one;
        passed = λ items walk item one. inl (subst (λ (l : List ℕ). IsOneOf l item) (only items walk) one);
      }

  -- the item at a link that is not 0
  record Met (link : ℕ) (rest : List ℕ) : Type 0 where
    pub item : ℕ
    pub items : List ℕ
    pub is : rest ≡ item ∷ items
    pub at : link ≡ link_of shape item
    pub short : item < shape.n_items
    pub walk : IsWalk reader shape (item_word reader shape item 0) 0 items

  met : (link : ℕ) (rest : List ℕ) → IsWalk reader shape link 0 rest → link ≢ 0 → Met link rest
  met link [] walk some = absurd (some walk)
  met link (x ∷ items) walk some = record { item = x; items = items; is = refl; at = walk.0; short = walk.1; walk = walk.2 }

  module _ (link steps : ℕ) (s : Searching reader shape key link steps) where
    pub search_link : link ≢ 0 → IsKeyLink reader shape link
    search_link some =
        let m = met link s.rest s.walk some in
        (m.item, (m.short, m.at, s.keys m.item (subst (λ (l : List ℕ). IsOneOf l m.item) (sym m.is) (inl refl))))

    pub search_within : link ≢ 0 → link < shape.blocks
    search_within some =
        let m = met link s.rest s.walk some in
        omega (arith, m.at, link_within shape shaped m.item 0 m.short (omega arith))

    pub search_is_link : link ≢ 0 → IsLink shape link
    search_is_link some = let m = met link s.rest s.walk some in inr (m.item, m.short, m.at)

    pub search_next : (next : ℕ) → link ≢ 0 → ((item : ℕ) → link ≡ link_of shape item → HoldsKey reader shape item key → ⊥) → next ≡ reader link → Searching reader shape key next (steps + 1)
    search_next next some other is =
        let m = met link s.rest s.walk some in
        record {
          rest = m.items;
          walk = subst (λ (l : ℕ). IsWalk reader shape l 0 m.items) (zero_word reader shape m.item ∙ ap reader (sym m.at) ∙ sym is) m.walk;
          bound = omega (arith, s.bound, ap length m.is);
          keys = λ item one. s.keys item (subst (λ (l : List ℕ). IsOneOf l item) (sym m.is) (inr one));
          left = λ items walk item one. s.left items walk item (subst (λ (l : List ℕ). IsOneOf l item) (sym m.is) (inr one));
          passed = λ items walk item one. elim (s.passed items walk item one) [
            | inl among ↦ pass m.item m.items item (other m.item m.at) (subst (λ (l : List ℕ). IsOneOf l item) m.is among)
            | inr holds ↦ inr holds
          ];
        }
      where
        pass : (first : ℕ) (items : List ℕ) (item : ℕ) → (HoldsKey reader shape first key → ⊥) → IsOneOf (first ∷ items) item → IsOneOf items item ⊎ (HoldsKey reader shape item key → ⊥)
        pass first items item not_held (inl here) = inr (subst (λ (i : ℕ). HoldsKey reader shape i key → ⊥) here not_held)
        pass first items item not_held (inr later) = inl later

    pub search_found : link ≢ 0 → (item : ℕ) → link ≡ link_of shape item → (items : List ℕ) → IsWalk reader shape (reader (chain_place shape (key_chain shape key))) 0 items → IsOneOf items item
    search_found some item at items walk =
        let m = met link s.rest s.walk some in
        let same : m.item ≡ item = same_link shape shaped m.item item (sym m.at ∙ at) in
        s.left items walk item (subst (λ (l : List ℕ). IsOneOf l item) (sym m.is) (inl same))

    none_in : (rest : List ℕ) (item : ℕ) → IsWalk reader shape link 0 rest → IsOneOf rest item → (link ≡ 0) ⊎ (length rest ≤ 0) → ⊥
    none_in [] item walk one ended = one
    none_in (x ∷ items) item walk one (inl zero) = omega (arith, walk.0, link_above shape shaped x, zero)
    none_in (x ∷ items) item walk one (inr short) = omega (arith, short)

    pub search_none : (link ≡ 0) ⊎ (shape.n_items ≤ steps) → (items : List ℕ) → IsWalk reader shape (reader (chain_place shape (key_chain shape key))) 0 items
        → (item : ℕ) → IsOneOf items item → HoldsKey reader shape item key → ⊥
    search_none ended items walk item one = elim (s.passed items walk item one) [
      | inl among ↦ λ holds. none_in s.rest item s.walk among (elim ended [ inl zero ↦ inl zero | inr all ↦ inr (omega (arith, s.bound, all)) ])
      | inr holds ↦ holds
    ]

-- what holds of an answer
pub some_more : (answer : Option ℕ) (P Q : ℕ → Type 0) → ((item : ℕ) → P item → Q item) → IfSome answer P → IfSome answer Q
some_more None P Q more some = some
some_more (Some item) P Q more some = more item some
