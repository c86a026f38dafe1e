-- The free items before and after one is taken or given.
use Rattle.std.proofs.Common.{◌≡◌, ◌≢◌, inl, inr, ℕ, ◌+◌, ◌<◌, List, [], ◌∷◌, Some, drop, slice_get, refl, sym, ap, ◌∙◌, subst, arith, true, ◌≤◌, length, eqb, cond, false, Bool}
use Rattle.std.proofs.lemmas.Bool.Decides.{nat_tests}
use Rattle.uw_words.specs.declared.shape.Shape.{Shape}
use Rattle.uw_words.specs.Shapes.{IsShape}
use Rattle.uw_words.specs.Plans.{Plan, region}
use Rattle.uw_words.specs.Numbers.{IsOneOf, IsNoneOf, AreDistinct}
use Rattle.uw_words.specs.Parts.{seen, AgreeOn, HasRoom, GrewAt}
use Rattle.uw_words.specs.Walks.{link_of, IsLink, item_word, IsWalk, counted_walk, is_whole_walk}
use Rattle.uw_words.proofs.Growth.{put_on, puts_on, grew_puts, grew_put, read_put, read_other}
use Rattle.uw_words.proofs.Links.{link_above, same_link, items_apart, walk_once, walk_same, walk_short, counted_is}
use Rattle.uw_words.proofs.Numbers.{one_apart, distinct_length}
use Rattle.uw_items.specs.FreeList.{IsFreeList, take_places, give_places, IsFreePlace}

-- the first link of a walk
pub walk_link : (shape : Shape) (reader : ℕ → ℕ) (link : ℕ) (items : List ℕ) → IsWalk reader shape link 2 items → IsLink shape link
walk_link shape reader link [] walk = inl walk
walk_link shape reader link (item ∷ items) walk = inr (item, walk.1, walk.0)

pub first_none : (shape : Shape) → IsShape shape → (reader : ℕ → ℕ) (link : ℕ) (items : List ℕ) → link ≡ 0 → IsWalk reader shape link 2 items → items ≡ []
first_none shape is reader link [] none walk = refl
first_none shape is reader link (item ∷ items) none walk = absurd (omega (arith, link_above shape is item, none, walk.0))

pub first_some : (shape : Shape) → IsShape shape → (reader : ℕ → ℕ) (link item : ℕ) (items : List ℕ) → link ≡ link_of shape item → IsWalk reader shape link 2 items → slice_get items 0 ≡ Some item
first_some shape is reader link item [] here walk = absurd (omega (arith, link_above shape is item, here, walk))
first_some shape is reader link item (first ∷ items) here walk = ap Some (same_link shape is first item (sym walk.0 ∙ here))

-- the header's word is no word of an item
head_apart : (shape : Shape) → IsShape shape → (item field : ℕ) → shape.head + 8 ≢ link_of shape item + field
head_apart shape is item field = λ same. omega (arith, link_above shape is item, is.head, same)

module _ (shape : Shape) (plan now : Plan) (words : List ℕ) (item link next : ℕ) (is : IsShape shape) (read : link ≡ seen plan words (shape.head + 8)) (link_is : link ≡ link_of shape item) where
  some_link : seen plan words (shape.head + 8) ≢ 0
  some_link = λ none. omega (arith, link_above shape is item, read, link_is, none)

  take_are : take_places (seen plan words) shape ≡ (shape.head + 8) ∷ []
  take_are = let some = some_link in grind (arith, nat_tests)

  pub take_room : HasRoom plan (take_places (seen plan words) shape) → HasRoom plan ((shape.head + 8) ∷ [])
  take_room room = subst (HasRoom plan) take_are room

  module _ (put : now ≡ put_on plan (shape.head + 8) next) where
    pub take_grew : GrewAt (take_places (seen plan words) shape) plan now
    take_grew =
        subst (λ (places : List ℕ). GrewAt places plan now) (sym take_are)
        (subst (GrewAt ((shape.head + 8) ∷ []) plan) (sym put) (grew_put plan (shape.head + 8) next))

    taken : next ≡ seen plan words (link_of shape item + 2) → (items : List ℕ) → IsWalk (seen plan words) shape link 2 items → AreDistinct items → IsFreeList (seen now words) shape (drop 1 items)
    taken next_is [] walk distinct = absurd (omega (arith, link_above shape is item, link_is, walk))
    taken next_is (first ∷ items) walk distinct =
        let same : first ≡ item = same_link shape is first item (sym walk.0 ∙ link_is) in
        let head : seen now words (shape.head + 8) ≡ item_word (seen plan words) shape first 2 =
        ap (λ (p : Plan). seen p words (shape.head + 8)) put ∙ read_put plan.writes (region words) (shape.head + 8) next ∙ next_is
        ∙ ap (λ (i : ℕ). item_word (seen plan words) shape i 2) (sym same) in
        record {
          walk =
              subst (λ (l : ℕ). IsWalk (seen now words) shape l 2 items) (sym head)
              (walk_same shape (seen plan words) (seen now words) 2 items (item_word (seen plan words) shape first 2)
              (λ other one.
              ap (λ (p : Plan). seen p words (link_of shape other + 2)) put
              ∙ read_other plan.writes (region words) (shape.head + 8) next (link_of shape other + 2) (head_apart shape is other 2))
              walk.2);
          distinct = distinct.1;
        }

    pub take_list : next ≡ seen plan words (link_of shape item + 2) → (items : List ℕ) → IsFreeList (seen plan words) shape items → IsFreeList (seen now words) shape (drop 1 items)
    take_list next_is items free = taken next_is items (subst (λ (l : ℕ). IsWalk (seen plan words) shape l 2 items) (sym read) free.walk) free.distinct

module _ (shape : Shape) (plan one now : Plan) (words : List ℕ) (item link first : ℕ) (link_is : link ≡ link_of shape item) where
  give_are : give_places shape item ≡ (link + 2) ∷ (shape.head + 8) ∷ []
  give_are = ap (λ (l : ℕ). (l + 2) ∷ (shape.head + 8) ∷ []) (sym link_is)

  pub give_room : HasRoom plan (give_places shape item) → HasRoom plan ((link + 2) ∷ (shape.head + 8) ∷ [])
  give_room room = subst (HasRoom plan) give_are room

  module _ (put_one : one ≡ put_on plan (link + 2) first) (put_two : now ≡ put_on one (shape.head + 8) link) where
    pub give_grew : GrewAt (give_places shape item) plan now
    give_grew =
        let all : now ≡ puts_on plan ((link + 2, first) ∷ (shape.head + 8, link) ∷ []) = put_two ∙ ap (λ (p : Plan). put_on p (shape.head + 8) link) put_one in
        subst (λ (places : List ℕ). GrewAt places plan now) (sym give_are)
        (subst (GrewAt ((link + 2) ∷ (shape.head + 8) ∷ []) plan) (sym all) (grew_puts plan ((link + 2, first) ∷ (shape.head + 8, link) ∷ [])))

    pub give_list : IsShape shape → item < shape.n_items → first ≡ seen plan words (shape.head + 8) → (items : List ℕ) → IsFreeList (seen plan words) shape items → IsNoneOf items item
        → IsFreeList (seen now words) shape (item ∷ items)
    give_list is short first_is items free none =
        let head : seen now words (shape.head + 8) ≡ link_of shape item =
        ap (λ (p : Plan). seen p words (shape.head + 8)) put_two ∙ read_put one.writes (region words) (shape.head + 8) link ∙ link_is in
        let apart : shape.head + 8 ≢ link + 2 = λ same. head_apart shape is item 2 (same ∙ ap (λ (l : ℕ). l + 2) link_is) in
        let next : item_word (seen now words) shape item 2 ≡ seen plan words (shape.head + 8) =
        ap (λ (l : ℕ). seen now words (l + 2)) (sym link_is) ∙ ap (λ (p : Plan). seen p words (link + 2)) put_two
        ∙ read_other one.writes (region words) (shape.head + 8) link (link + 2) apart
        ∙ ap (λ (p : Plan). seen p words (link + 2)) put_one
        ∙ read_put plan.writes (region words) (link + 2) first
        ∙ first_is in
        let stays : (other : ℕ) → IsOneOf items other → item_word (seen now words) shape other 2 ≡ item_word (seen plan words) shape other 2 = λ other one_of.
        ap (λ (p : Plan). seen p words (link_of shape other + 2)) put_two
        ∙ read_other one.writes (region words) (shape.head + 8) link (link_of shape other + 2) (head_apart shape is other 2)
        ∙ ap (λ (p : Plan). seen p words (link_of shape other + 2)) put_one
        ∙ read_other plan.writes (region words) (link + 2) first (link_of shape other + 2)
        (λ same. items_apart shape is other item 2 2 (one_apart items other item one_of none) (omega arith) (omega arith) (sym same ∙ ap (λ (l : ℕ). l + 2) link_is)) in
        record {
          walk = (
            head,
            short,
            subst (λ (l : ℕ). IsWalk (seen now words) shape l 2 items) (sym next)
                (walk_same shape (seen plan words) (seen now words) 2 items (seen plan words (shape.head + 8)) stays free.walk),
          );
          distinct = (none, free.distinct);
        }

pub free_depends : (shape : Shape) (items : List ℕ) (before now : ℕ → ℕ) → AgreeOn (IsFreePlace shape items) before now → IsFreeList before shape items → IsFreeList now shape items
free_depends shape items before now agree free = record {
  walk =
      subst (λ (link : ℕ). IsWalk now shape link 2 items) (sym (agree (shape.head + 8) (inl refl)))
      (walk_same shape before now 2 items (before (shape.head + 8)) (λ item one. agree (link_of shape item + 2) (inr (item, (one, refl)))) free.walk);
  distinct = free.distinct;
}

pub free_once : (shape : Shape) (reader : ℕ → ℕ) (items others : List ℕ) → IsShape shape → IsFreeList reader shape items → IsFreeList reader shape others → items ≡ others
free_once shape reader items others is one two = walk_once shape is reader 2 items others (reader (shape.head + 8)) one.walk two.walk

pub free_counted : (shape : Shape) (reader : ℕ → ℕ) (items : List ℕ) → IsShape shape → IsFreeList reader shape items
    → (counted_walk reader shape (reader (shape.head + 8)) 2 shape.n_items ≡ items) × (is_whole_walk reader (reader (shape.head + 8)) 2 shape.n_items ≡ true)
free_counted shape reader items is free =
    counted_is shape is reader 2 items (reader (shape.head + 8)) shape.n_items free.walk
    (distinct_length items shape.n_items free.distinct (walk_short shape reader 2 items (reader (shape.head + 8)) free.walk))

pub take_count : (shape : Shape) (reader : ℕ → ℕ) → length (take_places reader shape) ≤ 1
take_count shape reader = count (eqb (reader (shape.head + 8)) 0)
  where
    count : (none : Bool) → length (cond none [] ((shape.head + 8) ∷ [])) ≤ 1
    count true = omega arith
    count false = omega arith
