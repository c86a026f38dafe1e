-- Links of items are apart, and walks along them.
use Rattle.std.proofs.Common.{◌≡◌, ◌≢◌, inl, inr, ℕ, zero, suc, ◌+◌, ◌-◌, ◌*◌, ◌/◌, ◌<◌, ◌≤◌, true, List, [], ◌∷◌, length, refl, sym, ap, ◌∙◌, subst, arith}
use Rattle.std.proofs.lemmas.Bool.Decides.{nat_tests}
use Rattle.std.proofs.lemmas.Nat.{mul-add-lt, div-mul-add}
use Rattle.std.proofs.Math.Nat.{mul_comm}
use Rattle.uw_words.specs.declared.shape.Shape.{Shape}
use Rattle.uw_words.specs.Shapes.{IsShape, item_head}
use Rattle.uw_words.specs.Numbers.{IsOneOf}
use Rattle.uw_words.specs.Walks.{link_of, item_word, IsWalk, counted_walk, is_whole_walk}

module _ (shape : Shape) (is : IsShape shape) where
  pub link_above : (item : ℕ) → 17 ≤ link_of shape item
  link_above item = omega (arith, is.items, is.some_chain, is.chains, is.bitmap)

  pub item_within : (item field : ℕ) → item < shape.n_items → field < shape.stride → link_of shape item + field < shape.blocks
  item_within item field short low = omega (arith, mul-add-lt item shape.stride field shape.n_items short low, mul_comm shape.stride shape.n_items, is.blocks)

  pub link_within : (item field : ℕ) → item < shape.n_items → field < item_head → link_of shape item + field < shape.blocks
  link_within item field short low = item_within item field short (omega (arith, is.stride))

  pub same_item : (i j f g : ℕ) → f < shape.stride → g < shape.stride → link_of shape i + f ≡ link_of shape j + g → i ≡ j
  same_item i j f g low low' same =
      let inner : i * shape.stride + f ≡ j * shape.stride + g = omega (arith, same) in
      sym (div-mul-add i shape.stride f low) ∙ ap (λ (n : ℕ). n / shape.stride) inner ∙ div-mul-add j shape.stride g low'

  -- words of two items are apart
  pub items_apart : (i j f g : ℕ) → i ≢ j → f < item_head → g < item_head → link_of shape i + f ≢ link_of shape j + g
  items_apart i j f g other low low' = λ same. other (same_item i j f g (omega (arith, is.stride)) (omega (arith, is.stride)) same)

  -- two words of items are apart where their numbers in an item are
  pub fields_apart : (i j f g : ℕ) → f ≢ g → f < item_head → g < item_head → link_of shape i + f ≢ link_of shape j + g
  fields_apart i j f g other low low' = λ same.
      let item : i ≡ j = same_item i j f g (omega (arith, is.stride)) (omega (arith, is.stride)) same in
      let here : link_of shape i ≡ link_of shape j = ap (link_of shape) item in
      other (omega (arith, here, same))

  pub same_link : (i j : ℕ) → link_of shape i ≡ link_of shape j → i ≡ j
  same_link i j same = same_item i j 0 0 (omega (arith, is.stride)) (omega (arith, is.stride)) (omega (arith, same))

  pub item-link : (item : ℕ) → (link_of shape item - shape.items) / shape.stride ≡ item
  item-link item =
      let inner : link_of shape item - shape.items ≡ item * shape.stride + 0 = omega arith in
      ap (λ (n : ℕ). n / shape.stride) inner ∙ div-mul-add item shape.stride 0 (omega (arith, is.stride))

  -- one link has one walk along a field
  pub walk_once : (reader : ℕ → ℕ) (field : ℕ) (items others : List ℕ) (link : ℕ) → IsWalk reader shape link field items → IsWalk reader shape link field others → items ≡ others
  walk_once reader field [] [] link one two = refl
  walk_once reader field [] (y ∷ others) link one two = absurd (omega (arith, link_above y, one, two.0))
  walk_once reader field (x ∷ items) [] link one two = absurd (omega (arith, link_above x, one.0, two))
  walk_once reader field (x ∷ items) (y ∷ others) link one two =
      let same : x ≡ y = same_link x y (sym one.0 ∙ two.0) in
      let next : IsWalk reader shape (item_word reader shape x field) field others = subst (λ (i : ℕ). IsWalk reader shape (item_word reader shape i field) field others) (sym same) two.2 in
      let rest : items ≡ others = walk_once reader field items others (item_word reader shape x field) one.2 next in
      cc

  -- a counted walk gives the items of a walk, where it may give as many
  pub counted_is : (reader : ℕ → ℕ) (field : ℕ) (items : List ℕ) (link count : ℕ) → IsWalk reader shape link field items → length items ≤ count
      → (counted_walk reader shape link field count ≡ items) × (is_whole_walk reader link field count ≡ true)
  counted_is reader field [] link zero walk short = (refl, grind (arith, nat_tests))
  counted_is reader field [] link (suc count) walk short = (grind (arith, nat_tests), grind (arith, nat_tests))
  counted_is reader field (item ∷ items) link zero walk short = absurd (omega arith)
  counted_is reader field (item ∷ items) link (suc count) walk short =
      let here : link ≡ link_of shape item = walk.0 in
      let some : link ≢ 0 = omega (arith, here, link_above item) in
      let next : reader (link + field) ≡ item_word reader shape item field = ap (λ (l : ℕ). reader (l + field)) here in
      let then : IsWalk reader shape (reader (link + field)) field items = subst (λ (l : ℕ). IsWalk reader shape l field items) (sym next) walk.2 in
      let rest = counted_is reader field items (reader (link + field)) count then (omega arith) in
      let number : (link - shape.items) / shape.stride ≡ item = ap (λ (l : ℕ). (l - shape.items) / shape.stride) here ∙ item-link item in
      let met : counted_walk reader shape (reader (link + field)) field count ≡ items = rest.0 in
      let whole : is_whole_walk reader (reader (link + field)) field count ≡ true = rest.1 in
      (counted link some number count met, ended link some count whole)
    where
      counted : (l : ℕ) → l ≢ 0 → (l - shape.items) / shape.stride ≡ item → (n : ℕ) → counted_walk reader shape (reader (l + field)) field n ≡ items
          → counted_walk reader shape l field (suc n) ≡ item ∷ items
      counted l some number n met = grind (arith, nat_tests)

      ended : (l : ℕ) → l ≢ 0 → (n : ℕ) → is_whole_walk reader (reader (l + field)) field n ≡ true → is_whole_walk reader l field (suc n) ≡ true
      ended l some n whole = grind (arith, nat_tests)

-- a walk stays one where the words of its items along the field stay
pub walk_same : (shape : Shape) (before now : ℕ → ℕ) (field : ℕ) (items : List ℕ) (link : ℕ)
    → ((item : ℕ) → IsOneOf items item → item_word now shape item field ≡ item_word before shape item field)
    → IsWalk before shape link field items → IsWalk now shape link field items
walk_same shape before now field [] link same walk = walk
walk_same shape before now field (item ∷ items) link same walk = (
  walk.0,
  walk.1,
  subst (λ (l : ℕ). IsWalk now shape l field items) (sym (same item (inl refl)))
      (walk_same shape before now field items (item_word before shape item field) (λ i one. same i (inr one)) walk.2),
)

-- the items of a walk are items of the region
pub walk_short : (shape : Shape) (reader : ℕ → ℕ) (field : ℕ) (items : List ℕ) (link : ℕ) → IsWalk reader shape link field items → (item : ℕ) → IsOneOf items item → item < shape.n_items
walk_short shape reader field [] link walk item one = absurd one
walk_short shape reader field (first ∷ items) link walk item (inl same) = subst (λ (i : ℕ). i < shape.n_items) same walk.1
walk_short shape reader field (first ∷ items) link walk item (inr later) = walk_short shape reader field items (item_word reader shape first field) walk.2 item later
