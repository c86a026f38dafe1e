-- The recency list as links between neighbours. A node is an item's number and 1 more, or 0 for no item, which comes before the first item and after the last one.
use Rattle.std.proofs.Common.{◌≡◌, ◌≢◌, ◌⊎◌, inl, inr, ℕ, zero, suc, ◌+◌, ◌<◌, cond, eqb, List, [], ◌∷◌, refl, sym, ap, ◌∙◌, subst, arith}
use Rattle.std.proofs.lemmas.Bool.{cases_eq}
use Rattle.std.proofs.lemmas.Bool.Decides.{nat_tests}
use Rattle.uw_words.specs.declared.shape.Shape.{Shape}
use Rattle.uw_words.specs.Shapes.{IsShape}
use Rattle.uw_words.specs.Numbers.{IsOneOf, IsNoneOf, AreDistinct, without_number}
use Rattle.uw_words.specs.Walks.{link_of, IsLink, IsWalk}
use Rattle.uw_words.proofs.Links.{link_above, items_apart, fields_apart, same_link}
use Rattle.uw_words.proofs.Numbers.{one_apart}
use Rattle.uw_recency.specs.Recency.{AreLinkedBack, forward_place, backward_place}

-- the link of a node, and the places of the links to the next and to the last node
abbrev pub node_link : Shape → ℕ → ℕ
node_link shape zero = 0
node_link shape (suc item) = link_of shape item

abbrev pub forward_of : Shape → ℕ → ℕ
forward_of shape zero = shape.head + 6
forward_of shape (suc item) = link_of shape item + 2

abbrev pub backward_of : Shape → ℕ → ℕ
backward_of shape zero = shape.head + 7
backward_of shape (suc item) = link_of shape item + 1

-- after a node these items follow, linked both ways
abbrev pub IsLinked : (ℕ → ℕ) → Shape → ℕ → List ℕ → Type 0
IsLinked reader shape node [] = (reader (forward_of shape node) ≡ 0) × (reader (backward_of shape 0) ≡ node_link shape node)
IsLinked reader shape node (item ∷ items) =
    (reader (forward_of shape node) ≡ link_of shape item) × (item < shape.n_items) × (reader (backward_of shape (suc item)) ≡ node_link shape node) × IsLinked reader shape (suc item) items

pub linked_from : (reader : ℕ → ℕ) (shape : Shape) (node : ℕ) (items : List ℕ) → IsWalk reader shape (reader (forward_of shape node)) 2 items
    → AreLinkedBack reader shape (node_link shape node) items → IsLinked reader shape node items
linked_from reader shape node [] walk back = (walk, back)
linked_from reader shape node (item ∷ items) walk back = (walk.0, walk.1, back.0, linked_from reader shape (suc item) items walk.2 back.1)

pub walk_of_linked : (reader : ℕ → ℕ) (shape : Shape) (node : ℕ) (items : List ℕ) → IsLinked reader shape node items
    → IsWalk reader shape (reader (forward_of shape node)) 2 items × AreLinkedBack reader shape (node_link shape node) items
walk_of_linked reader shape node [] linked = linked
walk_of_linked reader shape node (item ∷ items) linked =
    let rest = walk_of_linked reader shape (suc item) items linked.3 in
    ((linked.0, linked.1, rest.0), (linked.2, rest.1))

-- the node is one of these: the given one or that of an item
abbrev pub IsNodeOf : ℕ → List ℕ → ℕ → Type 0
IsNodeOf first items node = (first ≡ node) ⊎ ((item : ℕ) × (IsOneOf items item × (suc item ≡ node)))

-- no item has the node
abbrev pub IsNewNode : List ℕ → ℕ → Type 0
IsNewNode items zero = Unit {0}
IsNewNode items (suc item) = IsNoneOf items item

pub new_rest : (item : ℕ) (items : List ℕ) (node : ℕ) → IsNewNode (item ∷ items) node → IsNewNode items node
new_rest item items zero new = tt
new_rest item items (suc other) new = new.1

pub new_head : (item : ℕ) (items : List ℕ) (node : ℕ) → IsNewNode (item ∷ items) node → suc item ≢ node
new_head item items zero new = λ same. absurd (omega (arith, same))
new_head item items (suc other) new = λ same. new.0 (omega (arith, same))

pub node_apart : (first : ℕ) (items : List ℕ) (node other : ℕ) → IsNodeOf first items node → first ≢ other → IsNewNode items other → node ≢ other
node_apart first items node other (inl same) apart new = λ here. apart (same ∙ here)
node_apart first items node zero (inr at) apart new = λ here. absurd (omega (arith, at.1.1, here))
node_apart first items node (suc other) (inr at) apart new = λ here. one_apart items at.0 other at.1.0 new (omega (arith, at.1.1, here))

-- the node of the first item
abbrev pub first_node : List ℕ → ℕ
first_node [] = 0
first_node (item ∷ items) = suc item

pub first_in : (items : List ℕ) → IsNodeOf 0 items (first_node items)
first_in [] = inl refl
first_in (item ∷ items) = inr (item, (inl refl, refl))

-- the node is none or that of an item of the region
abbrev pub IsNode : Shape → ℕ → Type 0
IsNode shape zero = Unit {0}
IsNode shape (suc item) = item < shape.n_items

pub node_is_link : (shape : Shape) (node : ℕ) → IsNode shape node → IsLink shape (node_link shape node)
node_is_link shape zero is = inl refl
node_is_link shape (suc item) is = inr (item, is, refl)

pub first_is : (reader : ℕ → ℕ) (shape : Shape) (node : ℕ) (items : List ℕ) → IsLinked reader shape node items → IsNode shape (first_node items)
first_is reader shape node [] linked = tt
first_is reader shape node (item ∷ items) linked = linked.1

pub first_link : (reader : ℕ → ℕ) (shape : Shape) (node : ℕ) (items : List ℕ) → IsLinked reader shape node items → reader (forward_of shape node) ≡ node_link shape (first_node items)
first_link reader shape node [] linked = linked.0
first_link reader shape node (item ∷ items) linked = linked.0

-- what follows a node stays where the links of these nodes stay
pub linked_same : (before now : ℕ → ℕ) (shape : Shape) (node : ℕ) (items : List ℕ)
    → ((other : ℕ) → IsNodeOf node items other → now (forward_of shape other) ≡ before (forward_of shape other))
    → ((other : ℕ) → IsNodeOf 0 items other → now (backward_of shape other) ≡ before (backward_of shape other))
    → IsLinked before shape node items → IsLinked now shape node items
linked_same before now shape node [] ahead back linked = (ahead node (inl refl) ∙ linked.0, back 0 (inl refl) ∙ linked.1)
linked_same before now shape node (item ∷ items) ahead back linked = (
  ahead node (inl refl) ∙ linked.0,
  linked.1,
  back (suc item) (inr (item, (inl refl, refl))) ∙ linked.2,
  linked_same before now shape (suc item) items (λ other at. ahead other (later node other at)) (λ other at. back other (behind other at)) linked.3,
)
  where
    later : (first other : ℕ) → IsNodeOf (suc item) items other → IsNodeOf first (item ∷ items) other
    later first other (inl same) = inr (item, (inl refl, same))
    later first other (inr at) = inr (at.0, (inr at.1.0, at.1.1))

    behind : (other : ℕ) → IsNodeOf 0 items other → IsNodeOf 0 (item ∷ items) other
    behind other (inl same) = inl same
    behind other (inr at) = inr (at.0, (inr at.1.0, at.1.1))

module _ (shape : Shape) (is : IsShape shape) where
  -- the places of two links are apart
  pub forward_apart : (one other : ℕ) → one ≢ other → forward_of shape one ≢ forward_of shape other
  forward_apart zero zero apart = λ same. apart refl
  forward_apart zero (suc j) apart = λ same. omega (arith, is.head, link_above shape is j, same)
  forward_apart (suc i) zero apart = λ same. omega (arith, is.head, link_above shape is i, same)
  forward_apart (suc i) (suc j) apart = items_apart shape is i j 2 2 (λ same. apart (ap suc same)) (omega arith) (omega arith)

  pub backward_apart : (one other : ℕ) → one ≢ other → backward_of shape one ≢ backward_of shape other
  backward_apart zero zero apart = λ same. apart refl
  backward_apart zero (suc j) apart = λ same. omega (arith, is.head, link_above shape is j, same)
  backward_apart (suc i) zero apart = λ same. omega (arith, is.head, link_above shape is i, same)
  backward_apart (suc i) (suc j) apart = items_apart shape is i j 1 1 (λ same. apart (ap suc same)) (omega arith) (omega arith)

  pub both_apart : (one other : ℕ) → forward_of shape one ≢ backward_of shape other
  both_apart zero zero = λ same. omega (arith, same)
  both_apart zero (suc j) = λ same. omega (arith, is.head, link_above shape is j, same)
  both_apart (suc i) zero = λ same. omega (arith, is.head, link_above shape is i, same)
  both_apart (suc i) (suc j) = fields_apart shape is i j 2 1 (λ same. omega (arith, same)) (omega arith) (omega arith)

  -- the places that the code reckons by a link
  pub forward_is : (node : ℕ) → forward_place shape (node_link shape node) ≡ forward_of shape node
  forward_is zero = refl
  forward_is (suc item) = place (link_of shape item) (omega (arith, link_above shape is item))
    where
      place : (link : ℕ) → link ≢ 0 → cond (eqb link 0) (shape.head + 6) (link + 2) ≡ link + 2
      place link some = grind (arith, nat_tests)

  pub backward_is : (node : ℕ) → backward_place shape (node_link shape node) ≡ backward_of shape node
  backward_is zero = refl
  backward_is (suc item) = place (link_of shape item) (omega (arith, link_above shape is item))
    where
      place : (link : ℕ) → link ≢ 0 → cond (eqb link 0) (shape.head + 7) (link + 1) ≡ link + 1
      place link some = grind (arith, nat_tests)

  -- one reader has one list
  pub linked_once : (reader : ℕ → ℕ) (node : ℕ) (items others : List ℕ) → IsLinked reader shape node items → IsLinked reader shape node others → items ≡ others
  linked_once reader node [] [] one two = refl
  linked_once reader node [] (y ∷ others) one two = absurd (omega (arith, link_above shape is y, one.0, two.0))
  linked_once reader node (x ∷ items) [] one two = absurd (omega (arith, link_above shape is x, one.0, two.0))
  linked_once reader node (x ∷ items) (y ∷ others) one two =
      let same : x ≡ y = same_link shape is x y (sym one.0 ∙ two.0) in
      let rest : items ≡ others = linked_once reader (suc x) items others one.3 (subst (λ (n : ℕ). IsLinked reader shape (suc n) others) (sym same) two.3) in
      cc

  -- an item comes before the first one
  pub front_linked : (before now : ℕ → ℕ) (item : ℕ) (items : List ℕ) → IsLinked before shape 0 items → AreDistinct items → IsNoneOf items item → item < shape.n_items
      → now (backward_of shape (suc item)) ≡ 0 → now (forward_of shape (suc item)) ≡ node_link shape (first_node items) → now (backward_of shape (first_node items)) ≡ link_of shape item
      → now (forward_of shape 0) ≡ link_of shape item
      → ((at : ℕ) → at ≢ backward_of shape (suc item) → at ≢ forward_of shape (suc item) → at ≢ backward_of shape (first_node items) → at ≢ forward_of shape 0 → now at ≡ before at)
      → IsLinked now shape 0 (item ∷ items)
  front_linked before now item [] linked distinct new short back ahead behind front others = (front, short, back, (ahead, behind))
  front_linked before now item (x ∷ items) linked distinct new short back ahead behind front others = (
    front,
    short,
    back,
    (
      ahead,
      linked.1,
      behind,
      linked_same before now shape (suc x) items
          (λ other at.
          others (forward_of shape other) (both_apart other (suc item))
          (forward_apart other (suc item) (node_apart (suc x) items other (suc item) at (λ same. new.0 (omega (arith, same))) new.1))
          (both_apart other (suc x))
          (forward_apart other 0 (node_apart (suc x) items other 0 at (λ same. absurd (omega (arith, same))) tt)))
          (λ other at.
          others (backward_of shape other)
          (backward_apart other (suc item) (node_apart 0 items other (suc item) at (λ same. absurd (omega (arith, same))) new.1))
          (λ same. both_apart (suc item) other (sym same))
          (backward_apart other (suc x) (node_apart 0 items other (suc x) at (λ same. absurd (omega (arith, same))) distinct.0))
          (λ same. both_apart 0 other (sym same)))
          linked.3,
    ),
  )

-- the neighbours of an item, and what is left when they are linked to each other
pub record Between (shape : Shape) (reader : ℕ → ℕ) (node : ℕ) (items : List ℕ) (item : ℕ) : Type 0 where
  pub last : ℕ
  pub next : ℕ
  pub back : reader (backward_of shape (suc item)) ≡ node_link shape last
  pub ahead : reader (forward_of shape (suc item)) ≡ node_link shape next
  pub last_in : IsNodeOf node items last
  pub next_in : IsNodeOf 0 items next
  pub last_is : IsNode shape node → IsNode shape last
  pub next_is : IsNode shape next
  pub left : (now : ℕ → ℕ) → now (forward_of shape last) ≡ node_link shape next → now (backward_of shape next) ≡ node_link shape last
      → ((at : ℕ) → at ≢ forward_of shape last → at ≢ backward_of shape next → now at ≡ reader at) → IsLinked now shape node (without_number items item)

module _ (shape : Shape) (is : IsShape shape) (reader : ℕ → ℕ) where
  left_here : (now : ℕ → ℕ) (node item : ℕ) (items : List ℕ) → IsLinked reader shape (suc item) items → AreDistinct (item ∷ items) → IsNewNode (item ∷ items) node
      → now (forward_of shape node) ≡ node_link shape (first_node items) → now (backward_of shape (first_node items)) ≡ node_link shape node
      → ((at : ℕ) → at ≢ forward_of shape node → at ≢ backward_of shape (first_node items) → now at ≡ reader at) → IsLinked now shape node items
  left_here now node item [] linked distinct new ahead back others = (ahead, back)
  left_here now node item (x ∷ items) linked distinct new ahead back others = (
    ahead,
    linked.1,
    back,
    linked_same reader now shape (suc x) items
        (λ other at.
        let later : IsNewNode (x ∷ items) node = new_rest item (x ∷ items) node new in
        others (forward_of shape other)
        (forward_apart shape is other node (node_apart (suc x) items other node at (new_head x items node later) (new_rest x items node later)))
        (both_apart shape is other (suc x)))
        (λ other at.
        others (backward_of shape other)
        (λ same. both_apart shape is node other (sym same))
        (backward_apart shape is other (suc x) (node_apart 0 items other (suc x) at (λ same. absurd (omega (arith, same))) distinct.1.0)))
        linked.3,
  )

  between_here : (node item : ℕ) (items : List ℕ) → IsLinked reader shape node (item ∷ items) → AreDistinct (item ∷ items) → IsNewNode (item ∷ items) node
      → Between shape reader node (item ∷ items) item
  between_here node item items linked distinct new = record {
    last = node;
    next = first_node items;
    back = linked.2;
    ahead = first_link reader shape (suc item) items linked.3;
    last_in = inl refl;
    next_in = later (first_node items) (first_in items);
    last_is = λ valid. valid;
    next_is = first_is reader shape (suc item) items linked.3;
    left = λ now ahead back others.
        let rest : without_number (item ∷ items) item ≡ items = grind (arith, nat_tests) in
        subst (λ (l : List ℕ). IsLinked now shape node l) (sym rest) (left_here now node item items linked.3 distinct new ahead back others);
  }
    where
      later : (other : ℕ) → IsNodeOf 0 items other → IsNodeOf 0 (item ∷ items) other
      later other (inl same) = inl same
      later other (inr at) = inr (at.0, (inr at.1.0, at.1.1))

  between_later : (node first item : ℕ) (items : List ℕ) → first ≢ item → IsLinked reader shape node (first ∷ items) → AreDistinct (first ∷ items) → IsNewNode (first ∷ items) node
      → Between shape reader (suc first) items item → Between shape reader node (first ∷ items) item
  between_later node first item items other linked distinct new rest = record {
    last = rest.last;
    next = rest.next;
    back = rest.back;
    ahead = rest.ahead;
    last_in = behind rest.last rest.last_in;
    next_in = later rest.next rest.next_in;
    last_is = λ valid. rest.last_is linked.1;
    next_is = rest.next_is;
    left = λ now ahead back others.
        let stays : without_number (first ∷ items) item ≡ first ∷ without_number items item = grind (arith, nat_tests) in
        subst (λ (l : List ℕ). IsLinked now shape node l) (sym stays) (
          others (forward_of shape node)
              (forward_apart shape is node rest.last (λ same. node_apart (suc first) items rest.last node rest.last_in (new_head first items node new) (new_rest first items node new) (sym same)))
              (both_apart shape is node rest.next) ∙ linked.0,
          linked.1,
          others (backward_of shape (suc first))
              (λ same. both_apart shape is rest.last (suc first) (sym same))
              (backward_apart shape is (suc first) rest.next
              (λ same. node_apart 0 items rest.next (suc first) rest.next_in (λ none. absurd (omega (arith, none))) distinct.0 (sym same)))
              ∙ linked.2,
          rest.left now ahead back others,
        );
  }
    where
      later : (node : ℕ) → IsNodeOf 0 items node → IsNodeOf 0 (first ∷ items) node
      later node (inl same) = inl same
      later node (inr at) = inr (at.0, (inr at.1.0, at.1.1))

      behind : (other : ℕ) → IsNodeOf (suc first) items other → IsNodeOf node (first ∷ items) other
      behind other (inl same) = inr (first, (inl refl, same))
      behind other (inr at) = inr (at.0, (inr at.1.0, at.1.1))

  pub between : (node : ℕ) (items : List ℕ) (item : ℕ) → IsLinked reader shape node items → AreDistinct items → IsNewNode items node → IsOneOf items item → Between shape reader node items item
  between node [] item linked distinct new one = absurd one
  between node (first ∷ items) item linked distinct new one = elim (cases_eq first item) [
    | inl same ↦ subst (λ (i : ℕ). Between shape reader node (first ∷ items) i) same (between_here node first items linked distinct new)
    | inr other ↦
        between_later node first item items other linked distinct new
        (between (suc first) items item linked.3 distinct.1 distinct.0 (elim one [ inl here ↦ absurd (other here) | inr later ↦ later ]))
  ]
