-- The recency list before and after its links change.
use Rattle.std.proofs.Common.{◌≡◌, ◌≢◌, inl, inr, ℕ, zero, suc, ◌+◌, ◌<◌, cond, eqb, List, [], ◌∷◌, Option, Some, None, slice_get, refl, sym, ap, ◌∙◌, subst, arith, true}
use Rattle.std.proofs.lemmas.Bool.{cases_eq}
use Rattle.std.proofs.lemmas.Bool.Decides.{nat_tests}
use Rattle.uw_words.specs.declared.shape.Shape.{Shape}
use Rattle.uw_words.specs.Shapes.{IsShape}
use Rattle.uw_words.specs.Numbers.{IsOneOf, IsNoneOf, AreDistinct, without_number}
use Rattle.uw_words.specs.Parts.{AgreeOn}
use Rattle.uw_words.specs.Walks.{link_of, item_word, IsWalk, counted_walk, is_whole_walk}
use Rattle.uw_words.proofs.Links.{walk_same, walk_short, counted_is}
use Rattle.uw_words.proofs.Numbers.{distinct_without, distinct_length, one_of_without}
use Rattle.uw_words.proofs.Growth.{with_puts, with_puts-other, with_puts-first}
use Rattle.uw_recency.specs.Recency.{AreLinkedBack, IsRecency, IsRecencyPlace, last_of, next_of, forward_place, backward_place, front_places, out_places, link_of_first, to_front_places}
use Rattle.uw_recency.proofs.Nodes.{node_link, forward_of, backward_of, IsLinked, linked_from, walk_of_linked, IsNodeOf, first_node, first_in, IsNode, first_link, both_apart, forward_is, backward_is, linked_once, front_linked, Between, between, backward_apart, forward_apart}

pub linked_of : (reader : ℕ → ℕ) (shape : Shape) (items : List ℕ) → IsRecency reader shape items → IsLinked reader shape 0 items
linked_of reader shape items is = linked_from reader shape 0 items is.walk is.back

recency_of : (reader : ℕ → ℕ) (shape : Shape) (items : List ℕ) → IsLinked reader shape 0 items → AreDistinct items → IsRecency reader shape items
recency_of reader shape items linked distinct =
    let both = walk_of_linked reader shape 0 items linked in
    record { walk = both.0; distinct = distinct; back = both.1 }

pub between_of : (shape : Shape) → IsShape shape → (reader : ℕ → ℕ) (items : List ℕ) (item : ℕ) → IsRecency reader shape items → IsOneOf items item → Between shape reader 0 items item
between_of shape shaped reader items item is one = between shape shaped reader 0 items item (linked_of reader shape items is) is.distinct tt one

-- the words that are put where an item comes before the first one, and where an item leaves the list
abbrev pub front_puts : Shape → (link first back : ℕ) → List (ℕ × ℕ)
front_puts shape link first back = (link + 1, 0) ∷ (link + 2, first) ∷ (back, link) ∷ (shape.head + 6, link) ∷ []

abbrev pub out_puts : (forward backward newer older : ℕ) → List (ℕ × ℕ)
out_puts forward backward newer older = (forward, older) ∷ (backward, newer) ∷ []

module _ (shape : Shape) (shaped : IsShape shape) (before now : ℕ → ℕ) (items : List ℕ) (item : ℕ) (is : IsRecency before shape items) where
  pub first_of_list : before (shape.head + 6) ≡ node_link shape (first_node items)
  first_of_list = first_link before shape 0 items (linked_of before shape items is)

  pub pushed : IsNoneOf items item → item < shape.n_items → (back : ℕ) → back ≡ backward_place shape (before (shape.head + 6))
      → ((at : ℕ) → now at ≡ with_puts before (front_puts shape (link_of shape item) (before (shape.head + 6)) back) at) → IsRecency now shape (item ∷ items)
  pushed none short back back_is read =
      let link = link_of shape item in
      let first = before (shape.head + 6) in
      let behind : back ≡ backward_of shape (first_node items) = back_is ∙ ap (backward_place shape) first_of_list ∙ backward_is shape shaped (first_node items) in
      let low : shape.head + 6 ≢ link + 1 = both_apart shape shaped 0 (suc item) in
      let high : link + 2 ≢ link + 1 = λ same. omega (arith, same) in
      let across : link + 2 ≢ back = λ same. both_apart shape shaped (suc item) (first_node items) (same ∙ behind) in
      let front : shape.head + 6 ≢ link + 2 = forward_apart shape shaped 0 (suc item) (λ same. absurd (omega (arith, same))) in
      let head : shape.head + 6 ≢ back = λ same. both_apart shape shaped 0 (first_node items) (same ∙ behind) in
      let behind_apart : back ≢ link + 1 = λ same. backward_apart shape shaped (first_node items) (suc item) (first_apart items none) (sym behind ∙ same) in
      recency_of now shape (item ∷ items)
      (front_linked shape shaped before now item items (linked_of before shape items is) is.distinct none short
      (read (link + 1) ∙ with_puts-first before (link + 1) 0 ((link + 2, first) ∷ (back, link) ∷ (shape.head + 6, link) ∷ []) (high, (behind_apart, (low, tt))))
      (read (link + 2)
      ∙ with_puts-first (λ at. cond (eqb (link + 1) at) 0 (before at)) (link + 2) first ((back, link) ∷ (shape.head + 6, link) ∷ []) ((λ same. across (sym same)), (front, tt))
      ∙ first_of_list)
      (ap now (sym behind) ∙ read back
      ∙ with_puts-first (λ at. cond (eqb (link + 2) at) first (cond (eqb (link + 1) at) 0 (before at))) back link ((shape.head + 6, link) ∷ []) (head, tt))
      (read (shape.head + 6)
      ∙ with_puts-first (λ at. cond (eqb back at) link (cond (eqb (link + 2) at) first (cond (eqb (link + 1) at) 0 (before at)))) (shape.head + 6) link [] tt)
      (λ at a b c d.
      read at ∙ with_puts-other before (front_puts shape link first back) at
      ((λ same. a (sym same)), ((λ same. b (sym same)), ((λ same. c (sym same ∙ behind)), ((λ same. d (sym same)), tt))))))
      (none, is.distinct)
    where
      first_apart : (others : List ℕ) → IsNoneOf others item → first_node others ≢ suc item
      first_apart [] away = λ same. absurd (omega (arith, same))
      first_apart (other ∷ others) away = λ same. away.0 (omega (arith, same))

  pub taken_out : IsOneOf items item → (forward backward newer older : ℕ) → newer ≡ before (link_of shape item + 1) → older ≡ before (link_of shape item + 2)
      → forward ≡ forward_place shape newer → backward ≡ backward_place shape older
      → ((at : ℕ) → now at ≡ with_puts before (out_puts forward backward newer older) at) → IsRecency now shape (without_number items item)
  taken_out one forward backward newer older newer_is older_is forward_at backward_at read =
      let linked = between_of shape shaped before items item is one in
      let ahead : forward ≡ forward_of shape linked.last = forward_at ∙ ap (forward_place shape) (newer_is ∙ linked.back) ∙ forward_is shape shaped linked.last in
      let back : backward ≡ backward_of shape linked.next = backward_at ∙ ap (backward_place shape) (older_is ∙ linked.ahead) ∙ backward_is shape shaped linked.next in
      let apart : backward ≢ forward = λ same. both_apart shape shaped linked.last linked.next (sym ahead ∙ sym same ∙ back) in
      recency_of now shape (without_number items item)
      (linked.left now
      (ap now (sym ahead) ∙ read forward ∙ with_puts-first before forward older ((backward, newer) ∷ []) (apart, tt) ∙ older_is ∙ linked.ahead)
      (ap now (sym back) ∙ read backward ∙ with_puts-first (λ at. cond (eqb forward at) older (before at)) backward newer [] tt ∙ newer_is ∙ linked.back)
      (λ at a b. read at ∙ with_puts-other before (out_puts forward backward newer older) at ((λ same. a (sym same ∙ ahead)), ((λ same. b (sym same ∙ back)), tt))))
      (distinct_without items item is.distinct)

-- the first link of a list
pub front_link : (shape : Shape) (reader : ℕ → ℕ) (items : List ℕ) → IsRecency reader shape items
    → reader (shape.head + 6) ≡ link_of_first shape items
front_link shape reader items is = first_link reader shape 0 items (linked_of reader shape items is) ∙ node_first items
  where
    node_first : (items : List ℕ) → node_link shape (first_node items) ≡ link_of_first shape items
    node_first [] = refl
    node_first (item ∷ items) = refl

-- the item of a node
abbrev pub node_item : ℕ → Option ℕ
node_item zero = None
node_item (suc item) = Some item

-- the node of the last item, or a node before these items
abbrev pub last_node : ℕ → List ℕ → ℕ
last_node node [] = node
last_node node (item ∷ items) = last_node (suc item) items

pub last_link : (reader : ℕ → ℕ) (shape : Shape) (node : ℕ) (items : List ℕ) → IsLinked reader shape node items → IsNode shape node
    → (reader (backward_of shape 0) ≡ node_link shape (last_node node items)) × IsNode shape (last_node node items)
last_link reader shape node [] linked valid = (linked.1, valid)
last_link reader shape node (item ∷ items) linked valid = last_link reader shape (suc item) items linked.3 linked.1

pub last_is : (items : List ℕ) → node_item (last_node 0 items) ≡ last_of items
last_is [] = refl
last_is (first ∷ items) = later first items
  where
    later : (first : ℕ) (items : List ℕ) → node_item (last_node (suc first) items) ≡ last_of (first ∷ items)
    later first [] = refl
    later first (second ∷ items) = later second items

pub newest_is : (items : List ℕ) → node_item (first_node items) ≡ slice_get items 0
newest_is [] = refl
newest_is (first ∷ items) = refl

pub next_link : (shape : Shape) (reader : ℕ → ℕ) (node : ℕ) (items : List ℕ) (item : ℕ) → IsLinked reader shape node items → IsOneOf items item
    → (next : ℕ) × (reader (forward_of shape (suc item)) ≡ node_link shape next) × (node_item next ≡ next_of items item)
next_link shape reader node [] item linked one = absurd one
next_link shape reader node (first ∷ items) item linked one = elim (cases_eq first item) [
  | inl same ↦
      let here : next_of (first ∷ items) item ≡ slice_get items 0 = grind (arith, nat_tests) in
      let next : reader (forward_of shape (suc item)) ≡ node_link shape (first_node items) =
      subst (λ (i : ℕ). reader (forward_of shape (suc i)) ≡ node_link shape (first_node items)) same (first_link reader shape (suc first) items linked.3) in
      (first_node items, next, newest_is items ∙ sym here)
  | inr other ↦
      let later : next_of (first ∷ items) item ≡ next_of items item = grind (arith, nat_tests) in
      let rest = next_link shape reader (suc first) items item linked.3 (elim one [ inl here ↦ absurd (other here) | inr behind ↦ behind ]) in
      (rest.0, rest.1, rest.2 ∙ sym later)
]

-- on what the list depends
back_same : (shape : Shape) (before now : ℕ → ℕ) (items : List ℕ) (link : ℕ) → now (shape.head + 7) ≡ before (shape.head + 7)
    → ((item : ℕ) → IsOneOf items item → item_word now shape item 1 ≡ item_word before shape item 1) → AreLinkedBack before shape link items → AreLinkedBack now shape link items
back_same shape before now [] link head words back = head ∙ back
back_same shape before now (item ∷ items) link head words back =
    (words item (inl refl) ∙ back.0, back_same shape before now items (link_of shape item) head (λ other one. words other (inr one)) back.1)

pub depends : (shape : Shape) (items : List ℕ) (before now : ℕ → ℕ) → AgreeOn (IsRecencyPlace shape items) before now → IsRecency before shape items → IsRecency now shape items
depends shape items before now agree is = record {
  walk =
      subst (λ (link : ℕ). IsWalk now shape link 2 items) (sym (agree (shape.head + 6) (inl refl)))
      (walk_same shape before now 2 items (before (shape.head + 6)) (λ item one. agree (link_of shape item + 2) (inr (inr (item, (one, inr refl))))) is.walk);
  distinct = is.distinct;
  back = back_same shape before now items 0 (agree (shape.head + 7) (inr (inl refl))) (λ item one. agree (link_of shape item + 1) (inr (inr (item, (one, inl refl))))) is.back;
}

pub one_list : (shape : Shape) (reader : ℕ → ℕ) (items others : List ℕ) → IsShape shape → IsRecency reader shape items → IsRecency reader shape others → items ≡ others
one_list shape reader items others shaped one two = linked_once shape shaped reader 0 items others (linked_of reader shape items one) (linked_of reader shape others two)

forward_own : (shape : Shape) (items : List ℕ) (node at : ℕ) → IsNodeOf 0 items node → forward_of shape node ≡ at → IsRecencyPlace shape items at
forward_own shape items zero at own is = inl (sym is)
forward_own shape items (suc item) at (inl none) is = absurd (omega (arith, none))
forward_own shape items (suc item) at (inr own) is =
    inr (inr (own.0, (own.1.0, inr (sym is ∙ ap (λ (i : ℕ). link_of shape i + 2) (let same : item ≡ own.0 = omega (arith, own.1.1) in same)))))

backward_own : (shape : Shape) (items : List ℕ) (node at : ℕ) → IsNodeOf 0 items node → backward_of shape node ≡ at → IsRecencyPlace shape items at
backward_own shape items zero at own is = inr (inl (sym is))
backward_own shape items (suc item) at (inl none) is = absurd (omega (arith, none))
backward_own shape items (suc item) at (inr own) is =
    inr (inr (own.0, (own.1.0, inl (sym is ∙ ap (λ (i : ℕ). link_of shape i + 1) (let same : item ≡ own.0 = omega (arith, own.1.1) in same)))))

more_own : (shape : Shape) (items : List ℕ) (item at : ℕ) → IsRecencyPlace shape items at → IsRecencyPlace shape (item ∷ items) at
more_own shape items item at (inl head) = inl head
more_own shape items item at (inr (inl head)) = inr (inl head)
more_own shape items item at (inr (inr own)) = inr (inr (own.0, (inr own.1.0, own.1.1)))

pub front_own : (shape : Shape) (reader : ℕ → ℕ) (items : List ℕ) (item at : ℕ) → IsShape shape → IsRecency reader shape items
    → IsOneOf (front_places shape (reader (shape.head + 6)) item) at → IsRecencyPlace shape (item ∷ items) at
front_own shape reader items item at shaped is (inl here) = inr (inr (item, (inl refl, inl (sym here))))
front_own shape reader items item at shaped is (inr (inl here)) = inr (inr (item, (inl refl, inr (sym here))))
front_own shape reader items item at shaped is (inr (inr (inl here))) =
    more_own shape items item at
    (backward_own shape items (first_node items) at (first_in items)
    (sym (ap (backward_place shape) (first_link reader shape 0 items (linked_of reader shape items is)) ∙ backward_is shape shaped (first_node items)) ∙ here))
front_own shape reader items item at shaped is (inr (inr (inr (inl here)))) = inl (sym here)
front_own shape reader items item at shaped is (inr (inr (inr (inr none)))) = absurd none

pub out_own : (shape : Shape) (reader : ℕ → ℕ) (items : List ℕ) (item at : ℕ) → IsShape shape → IsRecency reader shape items → IsOneOf items item
    → IsOneOf (out_places reader shape item) at → IsRecencyPlace shape items at
out_own shape reader items item at shaped is one (inl here) =
    let linked = between_of shape shaped reader items item is one in
    forward_own shape items linked.last at linked.last_in (sym (ap (forward_place shape) linked.back ∙ forward_is shape shaped linked.last) ∙ here)
out_own shape reader items item at shaped is one (inr (inl here)) =
    let linked = between_of shape shaped reader items item is one in
    backward_own shape items linked.next at linked.next_in (sym (ap (backward_place shape) linked.ahead ∙ backward_is shape shaped linked.next) ∙ here)
out_own shape reader items item at shaped is one (inr (inr none)) = absurd none

-- the first of some of the items
first_of : (items some : List ℕ) → ((item : ℕ) → IsOneOf some item → IsOneOf items item) → IsNodeOf 0 items (first_node some)
first_of items [] among = inl refl
first_of items (first ∷ some) among = inr (first, (among first (inl refl), refl))

pub to_front_own : (shape : Shape) (reader : ℕ → ℕ) (items : List ℕ) (item at : ℕ) → IsShape shape → IsRecency reader shape items → IsOneOf items item
    → IsOneOf (to_front_places reader shape items item) at → IsRecencyPlace shape items at
to_front_own shape reader items item at shaped is one (inl here) = out_own shape reader items item at shaped is one (inl here)
to_front_own shape reader items item at shaped is one (inr (inl here)) = out_own shape reader items item at shaped is one (inr (inl here))
to_front_own shape reader items item at shaped is one (inr (inr (inl here))) = inr (inr (item, (one, inl (sym here))))
to_front_own shape reader items item at shaped is one (inr (inr (inr (inl here)))) = inr (inr (item, (one, inr (sym here))))
to_front_own shape reader items item at shaped is one (inr (inr (inr (inr (inl here))))) =
    backward_own shape items (first_node others) at (first_of items others (λ other among. one_of_without items item other among)) (sym (behind others) ∙ here)
  where
    others : List ℕ
    others = without_number items item

    behind : (list : List ℕ) → backward_place shape (link_of_first shape list) ≡ backward_of shape (first_node list)
    behind [] = backward_is shape shaped 0
    behind (first ∷ list) = backward_is shape shaped (suc first)
to_front_own shape reader items item at shaped is one (inr (inr (inr (inr (inr (inl here)))))) = inl (sym here)
to_front_own shape reader items item at shaped is one (inr (inr (inr (inr (inr (inr none)))))) = absurd none

pub counted_list : (shape : Shape) (reader : ℕ → ℕ) (items : List ℕ) → IsShape shape → IsRecency reader shape items
    → (counted_walk reader shape (reader (shape.head + 6)) 2 shape.n_items ≡ items) × (is_whole_walk reader (reader (shape.head + 6)) 2 shape.n_items ≡ true)
counted_list shape reader items shaped is =
    counted_is shape shaped reader 2 items (reader (shape.head + 6)) shape.n_items is.walk
    (distinct_length items shape.n_items is.distinct (walk_short shape reader 2 items (reader (shape.head + 6)) is.walk))
