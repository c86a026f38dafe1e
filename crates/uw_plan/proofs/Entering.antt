-- A free item is taken, its record is put, it joins its lists, and one more is in use.
use Rattle.std.proofs.Common.{◌≡◌, ◌≢◌, inl, inr, ℕ, ◌+◌, ◌*◌, ◌<◌, ◌≤◌, true, List, [], ◌∷◌, ◌++◌, drop, slice_get, Some, None, length, refl, sym, ap, ◌∙◌, subst, arith}
use Rattle.uw_words.specs.declared.shape.Shape.{Shape}
use Rattle.uw_words.specs.Shapes.{IsShape}
use Rattle.uw_words.specs.Plans.{Plan}
use Rattle.uw_words.specs.Parts.{GrewAt, seen}
use Rattle.uw_words.specs.Numbers.{IsNoneOf, IsOneOf}
use Rattle.uw_words.specs.Records.{HoldsKey}
use Rattle.uw_words.specs.Walks.{link_of}
use Rattle.uw_words.proofs.Growth.{grew_put, grew_then, put_on, read_grown}
use Rattle.uw_words.proofs.Numbers.{not_none}
use Rattle.uw_recency.specs.Recency.{IsRecency, front_places}
use Rattle.uw_recency.proofs.Lists.{front_own}
use Rattle.uw_chains.specs.Chains.{IsChains, item_chain, link_places, with_chain}
use Rattle.uw_items.specs.declared.records.Fields.{Fields}
use Rattle.uw_items.specs.Items.{HoldsFields, LieInBlocks, field_places, key_places, value_places}
use Rattle.uw_items.specs.FreeList.{take_places}
use Rattle.uw_items.proofs.FreeItems.{take_count}
use Rattle.uw_items.proofs.Held.{fields_off_key, key_own, key_same, value_within, words_within}
use Rattle.uw_plan.specs.Parts.{HoldsParts, Parts}
use Rattle.uw_plan.specs.EntrySteps.{GrewInZones, counted_parts, free_zones, list_zones, listed_parts, zone_of}
use Rattle.uw_plan.proofs.Zones.{none_of}
use Rattle.uw_plan.proofs.Steps.{count_own, counted, recency_own}
use Rattle.uw_plan.proofs.Joining.{link_zone, linked, pushed, take_own, with_item_short}
use Rattle.uw_plan.proofs.Recording.{field_own}

-- the first of some numbers
pub first_is : (numbers : List ℕ) (number : ℕ) → slice_get numbers 0 ≡ Some number → numbers ≡ number ∷ drop 1 numbers
first_is [] number is = absurd (let none : ⊥ = cc in none)
first_is (first ∷ numbers) number is = let same : first ≡ number = cc in ap (λ (n : ℕ). n ∷ numbers) same

pub first_some : (numbers : List ℕ) → numbers ≢ [] → slice_get numbers 0 ≡ None → ⊥
first_some [] some none = some refl
first_some (first ∷ numbers) some none = let nothing : ⊥ = cc in nothing

module _ (shape : Shape) (is : IsShape shape) (words : List ℕ) (before now : Plan) where
  -- a free item is taken
  pub took : GrewAt (take_places (seen before words) shape) before now → GrewInZones shape free_zones 1 before now
  took grew = record {
    places = take_places (seen before words) shape;
    few = take_count shape (seen before words);
    grew = grew;
    own = λ at one. take_own shape is free_zones (seen before words) at refl one;
  }

  -- one more is in use
  module _ (count : ℕ) (is_count : count ≡ seen before words (shape.head + 9)) (put : now ≡ put_on before (shape.head + 9) (count + 1)) where
    pub counted_up : (parts : Parts) → HoldsParts (seen before words) shape parts → HoldsParts (seen now words) shape (counted_parts parts)
    counted_up parts held =
        let here : seen before words (shape.head + 9) ≡ seen before words 9 = ap (seen before words) (let e : shape.head + 9 ≡ 9 = omega (arith, is.head) in e) in
        let more : count + 1 ≡ parts.count + 1 = omega (arith, is_count, here, held.count) in
        subst (λ (n : ℕ). HoldsParts (seen now words) shape (record parts { count = n })) more (counted shape is words before now parts (count + 1) held put)

    pub grew_up : GrewInZones shape free_zones 1 before now
    grew_up = record {
      places = (shape.head + 9) ∷ [];
      few = omega arith;
      grew = subst (GrewAt ((shape.head + 9) ∷ []) before) (sym put) (grew_put before (shape.head + 9) (count + 1));
      own = λ at one. count_own shape is free_zones at refl one;
    }

-- the key and the fields stay where the fields and the value are put behind them
module _ (shape : Shape) (is : IsShape shape) (item first : ℕ) (key : List ℕ) (value : ℕ) (short : item < shape.n_items) (fits : length key ≤ 8 * shape.key_words)
    (lies : LieInBlocks shape first value) (words : List ℕ) (mid later now : Plan) (fielded : GrewAt (field_places shape item) mid later)
    (valued : GrewAt (value_places shape first value) later now) where
  off_blocks : (at : ℕ) → at < shape.blocks → seen now words at ≡ seen later words at
  off_blocks at low =
      read_grown (value_places shape first value) later now words at valued
      (none_of (value_places shape first value) at (λ one. omega (arith, low, (value_within shape first value at is lies one).0)))

  pub key_remains : HoldsKey (seen mid words) shape item key → HoldsKey (seen now words) shape item key
  key_remains holds =
      key_same shape item key (seen mid words) (seen now words)
      (λ at one. off_blocks at (words_within shape item at is short (key_own shape item (length key) at is fits one)).1
      ∙ read_grown (field_places shape item) mid later words at fielded
      (none_of (field_places shape item) at (λ field. not_none (key_places shape item (length key)) at one (fields_off_key shape item (length key) at field)))) holds

  pub fields_remain : (fields : Fields) → HoldsFields (seen later words) shape item fields → HoldsFields (seen now words) shape item fields
  fields_remain fields holds = record {
    dies = field_remains (link_of shape item + 3) (inl refl) ∙ holds.dies;
    first = field_remains (link_of shape item + 4) (inr (inl refl)) ∙ holds.first;
    bytes = field_remains (link_of shape item + 5) (inr (inr (inl refl))) ∙ holds.bytes;
  }
    where
      field_remains : (at : ℕ) → IsOneOf (field_places shape item) at → seen now words at ≡ seen later words at
      field_remains at one = off_blocks at (words_within shape item at is short (field_own shape is item at one)).1

-- an item comes in front of its chain and of the recency list
module _ (shape : Shape) (is : IsShape shape) (words : List ℕ) (before mid : Plan) (item : ℕ) (short : item < shape.n_items)
    (links : GrewAt (link_places (seen before words) shape item) before mid) (parts : Parts) (held : HoldsParts (seen before words) shape parts)
    (chains : IsChains (seen mid words) shape (with_chain parts.chains (item_chain (seen before words) shape item) (item ∷ parts.chains (item_chain (seen before words) shape item)))) where
  abbrev pub linked_parts : Parts
  linked_parts = record parts { chains = with_chain parts.chains (item_chain (seen before words) shape item) (item ∷ parts.chains (item_chain (seen before words) shape item)) }

  pub mid_held : HoldsParts (seen mid words) shape linked_parts
  mid_held =
      linked shape is words before mid parts (with_chain parts.chains (item_chain (seen before words) shape item) (item ∷ parts.chains (item_chain (seen before words) shape item))) item
      short held links chains

  module _ (now : Plan) (fronts : GrewAt (front_places shape (seen mid words (shape.head + 6)) item) mid now) where
    pub joined : ((other : ℕ) → IsOneOf parts.free other → IsNoneOf (item ∷ parts.items) other) → IsRecency (seen now words) shape (item ∷ parts.items)
        → HoldsParts (seen now words) shape (listed_parts parts (item_chain (seen before words) shape item) item)
    joined apart recency = pushed shape is words mid now linked_parts item short mid_held apart fronts recency

    pub joined_grew : GrewInZones shape list_zones 6 before now
    joined_grew = record {
      places = link_places (seen before words) shape item ++ front_places shape (seen mid words (shape.head + 6)) item;
      few = omega arith;
      grew = grew_then (link_places (seen before words) shape item) (front_places shape (seen mid words (shape.head + 6)) item) before mid now links fronts;
      own = λ at one. own_place at one;
    }
      where
        front : (at : ℕ) → IsOneOf (front_places shape (seen mid words (shape.head + 6)) item) at → list_zones (zone_of shape at) ≡ true
        front at one =
            recency_own shape is list_zones (item ∷ parts.items) at refl refl refl refl (with_item_short shape is words mid now parts.items item short mid_held.recency)
            (front_own shape (seen mid words) parts.items item at is mid_held.recency one)

        own_place : (at : ℕ) → IsOneOf (link_places (seen before words) shape item ++ front_places shape (seen mid words (shape.head + 6)) item) at
            → list_zones (zone_of shape at) ≡ true
        own_place at (inl one) = link_zone shape is list_zones (seen before words) item at refl refl short (inl one)
        own_place at (inr (inl two)) = link_zone shape is list_zones (seen before words) item at refl refl short (inr (inl two))
        own_place at (inr (inr later)) = front at later
