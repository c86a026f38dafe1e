-- The words that a call puts, as the code reckons their places.
use Rattle.std.proofs.Common.{◌≡◌, ℕ, zero, suc, ◌+◌, ◌<◌, List, [], ◌∷◌, Option, Some, None, IsNone, IfSome, ◌↔◌, refl, sym, ap, ◌∙◌, subst, arith}
use Rattle.uw_words.specs.declared.shape.Shape.{Shape}
use Rattle.uw_words.specs.Shapes.{IsShape}
use Rattle.uw_words.specs.Plans.{Plan}
use Rattle.uw_words.specs.Numbers.{IsOneOf, IsNoneOf, without_number}
use Rattle.uw_words.specs.Parts.{seen, HasRoom, GrewAt}
use Rattle.uw_words.specs.Walks.{link_of, item_word, IsLink}
use Rattle.uw_words.proofs.Links.{link_above, same_link}
use Rattle.uw_words.proofs.Growth.{put_on, puts_on, read_puts, grew_puts}
use Rattle.uw_recency.specs.Recency.{IsRecency, IsRecent, backward_place, forward_place, front_places, out_places}
use Rattle.uw_recency.proofs.Nodes.{node_link, first_node, IsNode, node_is_link, first_is}
use Rattle.uw_recency.proofs.Lists.{front_puts, out_puts, pushed, taken_out, linked_of, between_of, node_item}

-- the words of an item that comes before the first one
module _ (shape : Shape) (plan : Plan) (words : List ℕ) (item link first back : ℕ)
    (link_is : link ≡ link_of shape item) (first_is : first ≡ seen plan words (shape.head + 6)) (back_is : back ≡ backward_place shape first) where
  pub front_room : HasRoom plan (front_places shape (seen plan words (shape.head + 6)) item) → HasRoom plan ((link + 1) ∷ (link + 2) ∷ back ∷ (shape.head + 6) ∷ [])
  front_room room =
      subst (λ (l : ℕ). HasRoom plan ((l + 1) ∷ (l + 2) ∷ back ∷ (shape.head + 6) ∷ [])) (sym link_is)
      (subst (λ (b : ℕ). HasRoom plan ((link_of shape item + 1) ∷ (link_of shape item + 2) ∷ b ∷ (shape.head + 6) ∷ [])) (sym (back_is ∙ ap (backward_place shape) first_is)) room)

  module _ (one two three now : Plan) (put_one : one ≡ put_on plan (link + 1) 0) (put_two : two ≡ put_on one (link + 2) first) (put_three : three ≡ put_on two back link)
      (put_four : now ≡ put_on three (shape.head + 6) link) where
    front_plan : now ≡ puts_on plan (front_puts shape link first back)
    front_plan =
        put_four
        ∙ ap (λ (o : Plan). put_on o (shape.head + 6) link) (put_three ∙ ap (λ (o : Plan). put_on o back link) (put_two ∙ ap (λ (o : Plan). put_on o (link + 2) first) put_one))

    same_puts : puts_on plan (front_puts shape link first back) ≡ puts_on plan (front_puts shape (link_of shape item) (seen plan words (shape.head + 6)) back)
    same_puts =
        ap (λ (l : ℕ). puts_on plan (front_puts shape l first back)) link_is
        ∙ ap (λ (f : ℕ). puts_on plan (front_puts shape (link_of shape item) f back)) first_is

    pub front_grew : GrewAt (front_places shape (seen plan words (shape.head + 6)) item) plan now
    front_grew =
        subst (GrewAt (front_places shape (seen plan words (shape.head + 6)) item) plan) (sym (front_plan ∙ same_puts))
        (subst (λ (b : ℕ). GrewAt ((link_of shape item + 1) ∷ (link_of shape item + 2) ∷ b ∷ (shape.head + 6) ∷ []) plan (puts_on plan (front_puts shape (link_of shape item) (seen plan words (shape.head + 6)) back)))
        (back_is ∙ ap (backward_place shape) first_is)
        (grew_puts plan (front_puts shape (link_of shape item) (seen plan words (shape.head + 6)) back)))

    pub front_list : IsShape shape → item < shape.n_items → (items : List ℕ) → IsRecency (seen plan words) shape items → IsNoneOf items item → IsRecency (seen now words) shape (item ∷ items)
    front_list shaped short items is none =
        pushed shape shaped (seen plan words) (seen now words) items item is none short back (back_is ∙ ap (backward_place shape) first_is)
        (λ at. ap (λ (o : Plan). seen o words at) (front_plan ∙ same_puts) ∙ read_puts plan words (front_puts shape (link_of shape item) (seen plan words (shape.head + 6)) back) at)

-- the words of an item that leaves the list
module _ (shape : Shape) (plan : Plan) (words : List ℕ) (item newer older forward backward : ℕ)
    (newer_is : newer ≡ seen plan words (link_of shape item + 1)) (older_is : older ≡ seen plan words (link_of shape item + 2))
    (forward_is : forward ≡ forward_place shape newer) (backward_is : backward ≡ backward_place shape older) where
  places_are : out_places (seen plan words) shape item ≡ forward ∷ backward ∷ []
  places_are =
      ap (λ (p : ℕ). p ∷ backward_place shape (item_word (seen plan words) shape item 2) ∷ []) (sym (forward_is ∙ ap (forward_place shape) newer_is))
      ∙ ap (λ (p : ℕ). forward ∷ p ∷ []) (sym (backward_is ∙ ap (backward_place shape) older_is))

  pub out_room : HasRoom plan (out_places (seen plan words) shape item) → HasRoom plan (forward ∷ backward ∷ [])
  out_room room = subst (HasRoom plan) places_are room

  module _ (one now : Plan) (put_one : one ≡ put_on plan forward older) (put_two : now ≡ put_on one backward newer) where
    out_plan : now ≡ puts_on plan (out_puts forward backward newer older)
    out_plan = put_two ∙ ap (λ (o : Plan). put_on o backward newer) put_one

    pub out_grew : GrewAt (out_places (seen plan words) shape item) plan now
    out_grew =
        subst (λ (places : List ℕ). GrewAt places plan now) (sym places_are)
        (subst (GrewAt (forward ∷ backward ∷ []) plan) (sym out_plan) (grew_puts plan (out_puts forward backward newer older)))

    pub out_list : IsShape shape → (items : List ℕ) → IsRecency (seen plan words) shape items → IsOneOf items item → IsRecency (seen now words) shape (without_number items item)
    out_list shaped items is one =
        taken_out shape shaped (seen plan words) (seen now words) items item is one forward backward newer older newer_is older_is forward_is backward_is
        (λ at. ap (λ (o : Plan). seen o words at) out_plan ∙ read_puts plan words (out_puts forward backward newer older) at)

-- the links that are read
pub link_from : (shape : Shape) (link node : ℕ) → link ≡ node_link shape node → IsNode shape node → IsLink shape link
link_from shape link node is valid = subst (IsLink shape) (sym is) (node_is_link shape node valid)

pub first_is_link : (shape : Shape) (reader : ℕ → ℕ) (items : List ℕ) (link : ℕ) → link ≡ reader (shape.head + 6) → reader (shape.head + 6) ≡ node_link shape (first_node items) → IsRecency reader shape items → IsLink shape link
first_is_link shape reader items link at first is = link_from shape link (first_node items) (at ∙ first) (first_is reader shape 0 items (linked_of reader shape items is))

pub newer_is_link : (shape : Shape) → IsShape shape → (reader : ℕ → ℕ) (item link : ℕ) → link ≡ reader (link_of shape item + 1) → IsRecent reader shape item → IsLink shape link
newer_is_link shape shaped reader item link at recent =
    let linked = between_of shape shaped reader recent.0 item recent.1.0 recent.1.1 in
    link_from shape link linked.last (at ∙ linked.back) (linked.last_is tt)

pub older_is_link : (shape : Shape) → IsShape shape → (reader : ℕ → ℕ) (item link : ℕ) → link ≡ reader (link_of shape item + 2) → IsRecent reader shape item → IsLink shape link
older_is_link shape shaped reader item link at recent =
    let linked = between_of shape shaped reader recent.0 item recent.1.0 recent.1.1 in
    link_from shape link linked.next (at ∙ linked.ahead) linked.next_is

-- the item of a link is that of its node
pub answer_is : (shape : Shape) → IsShape shape → (link node : ℕ) (answer : Option ℕ) → link ≡ node_link shape node → (IsNone answer ↔ (link ≡ 0))
    → IfSome answer (λ item. (item < shape.n_items) × (link ≡ link_of shape item)) → answer ≡ node_item node
answer_is shape shaped link zero None is none some = refl
answer_is shape shaped link zero (Some x) is none some = absurd (link_some shape shaped x (sym some.1 ∙ is))
  where
    link_some : (shape : Shape) → IsShape shape → (item : ℕ) → link_of shape item ≡ 0 → ⊥
    link_some shape shaped item same = omega (arith, link_above shape shaped item, same)
answer_is shape shaped link (suc item) None is none some = absurd (link_some shape shaped item (sym is ∙ none.0 refl))
  where
    link_some : (shape : Shape) → IsShape shape → (item : ℕ) → link_of shape item ≡ 0 → ⊥
    link_some shape shaped item same = omega (arith, link_above shape shaped item, same)
answer_is shape shaped link (suc item) (Some x) is none some = ap Some (same_link shape shaped x item (sym some.1 ∙ is))
