-- What the steps of an add do to the parts of a region: a run is marked, a free item is taken, and it joins its chain and the recency list.
use Rattle.std.proofs.Common.{◌≡◌, inl, inr, ℕ, ◌+◌, ◌<◌, ◌≤◌, ◌==◌, Bool, true, cond, List, [], ◌∷◌, drop, refl, sym, ap, ◌∙◌, subst, arith}
use Rattle.std.proofs.lemmas.Bool.{cases_Bool}
use Rattle.uw_words.specs.declared.shape.Shape.{Shape}
use Rattle.uw_words.specs.Shapes.{IsShape}
use Rattle.uw_words.specs.Plans.{Plan}
use Rattle.uw_words.specs.Parts.{GrewAt, seen}
use Rattle.uw_words.specs.Numbers.{IsNoneOf, IsOneOf}
use Rattle.uw_words.specs.Walks.{link_of}
use Rattle.uw_words.proofs.Growth.{read_grown}
use Rattle.uw_words.proofs.Links.{walk_short}
use Rattle.uw_bitmap.specs.Bits.{ChangesRun, is_in_run, is_marked, run_places}
use Rattle.uw_recency.specs.Recency.{IsRecency, front_places}
use Rattle.uw_recency.proofs.Lists.{front_own}
use Rattle.uw_chains.specs.Chains.{IsChains, item_chain, link_places}
use Rattle.uw_chains.proofs.Places.{own_short}
use Rattle.uw_items.specs.FreeList.{IsFreeList, take_places}
use Rattle.uw_items.proofs.FreeItems.{free_depends}
use Rattle.uw_plan.specs.Parts.{HoldsParts, Parts}
use Rattle.uw_plan.specs.EntrySteps.{zone_of}
use Rattle.uw_plan.proofs.Zones.{StaysOff, chain_head_zone, chains_stay, field_zone, free_stays, grown_off, head_stays, mark_stays, none_of, recency_stays, word_stays}
use Rattle.uw_plan.proofs.Steps.{bit_zones, chain_zones, free_off_recency, recency_own, recency_zones, run_stays}

abbrev pub take_zones : ℕ → Bool
take_zones zone = zone == 8

module _ (shape : Shape) (is : IsShape shape) where
  -- the place at which a free item is taken
  pub take_own : (zones : ℕ → Bool) (reader : ℕ → ℕ) (at : ℕ) → zones 8 ≡ true → IsOneOf (take_places reader shape) at → zones (zone_of shape at) ≡ true
  take_own zones reader at eight one = elim (cases_Bool (reader (shape.head + 8) == 0)) [
    | inl none ↦ absurd (subst (λ (l : List ℕ). IsOneOf l at) (let e : take_places reader shape ≡ [] = rw none refl in e) one)
    | inr some ↦ head_place (subst (λ (l : List ℕ). IsOneOf l at) (let e : take_places reader shape ≡ (shape.head + 8) ∷ [] = rw some refl in e) one)
  ]
    where
      head_place : IsOneOf ((shape.head + 8) ∷ []) at → zones (zone_of shape at) ≡ true
      head_place (inl here) = ap (λ (p : ℕ). zones (zone_of shape p)) (let e : at ≡ 8 = omega (arith, here, is.head) in e) ∙ eight
      head_place (inr nothing) = absurd nothing

  -- the places at which an item joins its chain
  pub link_zone : (zones : ℕ → Bool) (reader : ℕ → ℕ) (item at : ℕ) → zones 17 ≡ true → zones 19 ≡ true → item < shape.n_items → IsOneOf (link_places reader shape item) at
      → zones (zone_of shape at) ≡ true
  link_zone zones reader item at heads links short (inl here) =
      ap zones (ap (zone_of shape) (let e : at ≡ link_of shape item + 0 = omega (arith, here) in e) ∙ field_zone shape is item 0 short (omega arith)) ∙ links
  link_zone zones reader item at heads links short (inr (inl here)) =
      ap zones (ap (zone_of shape) (sym here) ∙ chain_head_zone shape is (item_chain reader shape item) (own_short shape is reader item)) ∙ heads
  link_zone zones reader item at heads links short (inr (inr none)) = absurd none

  module _ (words : List ℕ) (before now : Plan) where
    pub marked : (first n : ℕ) → first + n ≤ shape.n_blocks → ChangesRun true (is_marked (seen before words) shape) (is_marked (seen now words) shape) first n
        → GrewAt (run_places shape first n) before now → (parts : Parts) → HoldsParts (seen before words) shape parts
        → HoldsParts (seen now words) shape (record parts { marked = λ block. cond (is_in_run first n block) true (parts.marked block) })
    marked first n within bits grew parts held =
        let off : StaysOff shape bit_zones (seen before words) (seen now words) = run_stays shape is words before now first n within grew in
        record {
          head = head_stays shape is bit_zones (seen before words) (seen now words) off refl held.head;
          count = word_stays shape is bit_zones (seen before words) (seen now words) off 9 9 (omega (arith, is.head)) refl refl ∙ held.count;
          recency = recency_stays shape is bit_zones (seen before words) (seen now words) off parts.items refl refl refl refl held.recency;
          chains = chains_stay shape is bit_zones (seen before words) (seen now words) off parts.chains refl refl refl held.chains;
          free = free_stays shape is bit_zones (seen before words) (seen now words) off parts.free refl refl held.free;
          bits = λ block short. bits block ∙ ap (cond (is_in_run first n block) true) (held.bits block short);
        }

    -- a free item is taken
    pub take_stays : GrewAt (take_places (seen before words) shape) before now → StaysOff shape take_zones (seen before words) (seen now words)
    take_stays grew = grown_off shape take_zones (take_places (seen before words) shape) before now words grew (λ at one. take_own take_zones (seen before words) at refl one)

    pub taken : (parts : Parts) → HoldsParts (seen before words) shape parts → GrewAt (take_places (seen before words) shape) before now
        → IsFreeList (seen now words) shape (drop 1 parts.free) → HoldsParts (seen now words) shape (record parts { free = drop 1 parts.free })
    taken parts held grew free =
        let off : StaysOff shape take_zones (seen before words) (seen now words) = take_stays grew in
        record {
          head = head_stays shape is take_zones (seen before words) (seen now words) off refl held.head;
          count = word_stays shape is take_zones (seen before words) (seen now words) off 9 9 (omega (arith, is.head)) refl refl ∙ held.count;
          recency = recency_stays shape is take_zones (seen before words) (seen now words) off parts.items refl refl refl refl held.recency;
          chains = chains_stay shape is take_zones (seen before words) (seen now words) off parts.chains refl refl refl held.chains;
          free = free;
          bits = λ block short. mark_stays shape is take_zones (seen before words) (seen now words) off block short refl ∙ held.bits block short;
        }

    -- an item joins its chain
    pub link_stays : (item : ℕ) → item < shape.n_items → GrewAt (link_places (seen before words) shape item) before now → StaysOff shape chain_zones (seen before words) (seen now words)
    link_stays item short grew =
        grown_off shape chain_zones (link_places (seen before words) shape item) before now words grew (λ at one. link_zone chain_zones (seen before words) item at refl refl short one)

    pub linked : (parts : Parts) (others : ℕ → List ℕ) (item : ℕ) → item < shape.n_items → HoldsParts (seen before words) shape parts
        → GrewAt (link_places (seen before words) shape item) before now → IsChains (seen now words) shape others
        → HoldsParts (seen now words) shape (record parts { chains = others })
    linked parts others item short held grew chains =
        let off : StaysOff shape chain_zones (seen before words) (seen now words) = link_stays item short grew in
        record {
          head = head_stays shape is chain_zones (seen before words) (seen now words) off refl held.head;
          count = word_stays shape is chain_zones (seen before words) (seen now words) off 9 9 (omega (arith, is.head)) refl refl ∙ held.count;
          recency = recency_stays shape is chain_zones (seen before words) (seen now words) off parts.items refl refl refl refl held.recency;
          chains = chains;
          free = free_stays shape is chain_zones (seen before words) (seen now words) off parts.free refl refl held.free;
          bits = λ block low. mark_stays shape is chain_zones (seen before words) (seen now words) off block low refl ∙ held.bits block low;
        }

    -- an item comes to the front of the recency list
    pub with_item_short : (items : List ℕ) (item : ℕ) → item < shape.n_items → IsRecency (seen before words) shape items → (other : ℕ) → IsOneOf (item ∷ items) other → other < shape.n_items
    with_item_short items item short held other (inl same) = subst (λ (i : ℕ). i < shape.n_items) same short
    with_item_short items item short held other (inr one) = walk_short shape (seen before words) 2 items (seen before words (shape.head + 6)) held.walk other one

    pub front_stays : (items : List ℕ) (item : ℕ) → item < shape.n_items → IsRecency (seen before words) shape items
        → GrewAt (front_places shape (seen before words (shape.head + 6)) item) before now → StaysOff shape recency_zones (seen before words) (seen now words)
    front_stays items item short held grew =
        grown_off shape recency_zones (front_places shape (seen before words (shape.head + 6)) item) before now words grew
        (λ at one. recency_own shape is recency_zones (item ∷ items) at refl refl refl refl (with_item_short items item short held)
        (front_own shape (seen before words) items item at is held one))

    pub pushed : (parts : Parts) (item : ℕ) → item < shape.n_items → HoldsParts (seen before words) shape parts
        → ((other : ℕ) → IsOneOf parts.free other → IsNoneOf (item ∷ parts.items) other) → GrewAt (front_places shape (seen before words (shape.head + 6)) item) before now
        → IsRecency (seen now words) shape (item ∷ parts.items) → HoldsParts (seen now words) shape (record parts { items = item ∷ parts.items })
    pushed parts item short held apart grew recency =
        let off : StaysOff shape recency_zones (seen before words) (seen now words) = front_stays parts.items item short held.recency grew in
        record {
          head = head_stays shape is recency_zones (seen before words) (seen now words) off refl held.head;
          count = word_stays shape is recency_zones (seen before words) (seen now words) off 9 9 (omega (arith, is.head)) refl refl ∙ held.count;
          recency = recency;
          chains = chains_stay shape is recency_zones (seen before words) (seen now words) off parts.chains refl refl refl held.chains;
          free = free_depends shape parts.free (seen before words) (seen now words)
              (λ at place. read_grown (front_places shape (seen before words (shape.head + 6)) item) before now words at grew
              (none_of (front_places shape (seen before words (shape.head + 6)) item) at
              (λ among. free_off_recency shape is (item ∷ parts.items) parts.free at (with_item_short parts.items item short held.recency) apart place
              (front_own shape (seen before words) parts.items item at is held.recency among)))) held.free;
          bits = λ block low. mark_stays shape is recency_zones (seen before words) (seen now words) off block low refl ∙ held.bits block low;
        }
