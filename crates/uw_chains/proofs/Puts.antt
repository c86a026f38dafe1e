-- The words that a call on the chains puts, as the code reckons their places.
use Rattle.std.proofs.Common.{◌≡◌, ◌≢◌, ℕ, ◌+◌, ◌%◌, ◌<◌, cond, eqb, List, [], ◌∷◌, get_or, sym, ap, ◌∙◌, subst}
use Rattle.uw_words.specs.declared.shape.Shape.{Shape}
use Rattle.uw_words.specs.Shapes.{IsShape}
use Rattle.uw_words.specs.Plans.{Plan, region}
use Rattle.uw_words.specs.Numbers.{IsOneOf, IsNoneOf, without_number}
use Rattle.uw_words.specs.Parts.{seen, HasRoom, GrewAt}
use Rattle.uw_words.specs.Walks.{link_of}
use Rattle.uw_words.specs.Records.{HoldsSomeKey}
use Rattle.uw_words.proofs.Growth.{put_on, puts_on, with_puts, with_puts-other, with_puts-first, read_puts, read_put, read_other, grew_puts, grew_put}
use Rattle.uw_chains.specs.Chains.{chain_place, item_chain, IsChains, with_chain, link_places, place_before, unlink_places}
use Rattle.uw_chains.proofs.Places.{head_link, own_short}
use Rattle.uw_chains.proofs.Joined.{joined}
use Rattle.uw_chains.proofs.Departed.{departed}

-- the place of an item's chain, by the hash that is read
pub head_of : (shape : Shape) (reader : ℕ → ℕ) (item link hash head : ℕ) → link ≡ link_of shape item → hash ≡ reader (link + 7) → head ≡ chain_place shape (hash % shape.n_chains)
    → head ≡ chain_place shape (item_chain reader shape item)
head_of shape reader item link hash head link_is hash_is head_is =
    head_is ∙ ap (λ (h : ℕ). chain_place shape (h % shape.n_chains)) (hash_is ∙ ap (λ (l : ℕ). reader (l + 7)) link_is)

module _ (shape : Shape) (plan : Plan) (words : List ℕ) (item link head first : ℕ) (link_is : link ≡ link_of shape item)
    (head_is : head ≡ chain_place shape (item_chain (seen plan words) shape item)) (first_is : first ≡ seen plan words head) where
  places_are : link_places (seen plan words) shape item ≡ link ∷ head ∷ []
  places_are =
      ap (λ (l : ℕ). l ∷ chain_place shape (item_chain (seen plan words) shape item) ∷ []) (sym link_is)
      ∙ ap (λ (h : ℕ). link ∷ h ∷ []) (sym head_is)

  pub link_room : HasRoom plan (link_places (seen plan words) shape item) → HasRoom plan (link ∷ head ∷ [])
  link_room room = subst (HasRoom plan) places_are room

  module _ (one now : Plan) (put_one : one ≡ put_on plan link first) (put_two : now ≡ put_on one head link) where
    link_plan : now ≡ puts_on plan ((link, first) ∷ (head, link) ∷ [])
    link_plan = put_two ∙ ap (λ (o : Plan). put_on o head link) put_one

    pub link_grew : GrewAt (link_places (seen plan words) shape item) plan now
    link_grew =
        subst (λ (places : List ℕ). GrewAt places plan now) (sym places_are)
        (subst (GrewAt (link ∷ head ∷ []) plan) (sym link_plan) (grew_puts plan ((link, first) ∷ (head, link) ∷ [])))

    read : (at : ℕ) → seen now words at ≡ with_puts (seen plan words) ((link, first) ∷ (head, link) ∷ []) at
    read at = ap (λ (o : Plan). seen o words at) link_plan ∙ read_puts plan words ((link, first) ∷ (head, link) ∷ []) at

    pub link_chains : IsShape shape → item < shape.n_items → HoldsSomeKey (seen plan words) shape item → (chains : ℕ → List ℕ) → IsChains (seen plan words) shape chains
        → IsNoneOf (chains (item_chain (seen plan words) shape item)) item
        → IsChains (seen now words) shape (with_chain chains (item_chain (seen plan words) shape item) (item ∷ chains (item_chain (seen plan words) shape item)))
    link_chains shaped short key chains is none =
        let reader = seen plan words in
        let apart : head ≢ link = λ same. head_link shape shaped (item_chain reader shape item) item (own_short shape shaped reader item) (sym head_is ∙ same ∙ link_is) in
        joined shape shaped reader (seen now words) chains item is short key none
        (ap (seen now words) (sym link_is) ∙ read link ∙ with_puts-first reader link first ((head, link) ∷ []) (apart, tt) ∙ first_is ∙ ap reader head_is)
        (ap (seen now words) (sym head_is) ∙ read head ∙ with_puts-first (λ at. cond (eqb link at) first (reader at)) head link [] tt ∙ link_is)
        (λ at a b.
        read at ∙ with_puts-other reader ((link, first) ∷ (head, link) ∷ []) at ((λ same. a (sym same ∙ link_is)), ((λ same. b (sym same ∙ head_is)), tt)))

module _ (shape : Shape) (plan now : Plan) (words : List ℕ) (item at next : ℕ) (put : now ≡ put_on plan at next) where
  pub unlink_grew : (places : List ℕ) → places ≡ at ∷ [] → GrewAt places plan now
  unlink_grew places is = subst (λ (l : List ℕ). GrewAt l plan now) (sym is) (subst (GrewAt (at ∷ []) plan) (sym put) (grew_put plan at next))

  pub unlink_chains : IsShape shape → next ≡ seen plan words (link_of shape item) → (chains : ℕ → List ℕ) → IsChains (seen plan words) shape chains
      → unlink_places (seen plan words) shape chains item ≡ at ∷ [] → IsOneOf (chains (item_chain (seen plan words) shape item)) item
      → IsChains (seen now words) shape
      (with_chain chains (item_chain (seen plan words) shape item) (without_number (chains (item_chain (seen plan words) shape item)) item))
  unlink_chains shaped next_is chains is places one =
      let reader = seen plan words in
      let place : place_before shape (chain_place shape (item_chain reader shape item)) (chains (item_chain reader shape item)) item ≡ at = ap (λ (l : List ℕ). get_or l 0 0) places in
      departed shape shaped reader (seen now words) chains item is one
      (ap (seen now words) place ∙ ap (λ (o : Plan). seen o words at) put ∙ read_put plan.writes (region words) at next ∙ next_is)
      (λ other apart.
      ap (λ (o : Plan). seen o words other) put
      ∙ read_other plan.writes (region words) at next other (λ same. apart (sym same ∙ sym place)))
