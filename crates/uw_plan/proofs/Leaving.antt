-- An item leaves the recency list and its chain, and is free.
use Rattle.std.proofs.Common.{◌≡◌, ◌⊎◌, inl, inr, ℕ, ◌+◌, ◌-◌, ◌<◌, ◌≤◌, true, List, [], ◌∷◌, ◌++◌, length, refl, sym, ap, ◌∙◌, subst, arith}
use Rattle.uw_words.specs.declared.shape.Shape.{Shape}
use Rattle.uw_words.specs.Shapes.{IsShape}
use Rattle.uw_words.specs.Plans.{Names, Plan}
use Rattle.uw_words.specs.Parts.{GrewAt, seen}
use Rattle.uw_words.specs.Numbers.{IsNoneOf, IsOneOf, without_number}
use Rattle.uw_words.proofs.Growth.{grew_put, grew_then, put_on}
use Rattle.uw_words.proofs.Links.{walk_short}
use Rattle.uw_recency.specs.Recency.{IsRecency, out_places}
use Rattle.uw_recency.proofs.Lists.{out_own}
use Rattle.uw_chains.specs.Chains.{IsChains, item_chain, unlink_places, with_chain}
use Rattle.uw_chains.proofs.Places.{unlink_own}
use Rattle.uw_items.specs.FreeList.{IsFreeList, give_places}
use Rattle.uw_plan.specs.Parts.{HoldsParts, Parts}
use Rattle.uw_plan.specs.EntrySteps.{GrewInZones, IsListedIn, free_zones, freed_parts, list_zones, unlisted_parts, zone_of}
use Rattle.uw_plan.proofs.Zones.{StaysOff, chain_stays, grown_off, word_stays}
use Rattle.uw_plan.proofs.Steps.{chains_own, count_own, counted, give_own, give_zones, given, out_stays, recency_own, recency_zones, spare_after, taken_out, unlinked}

module _ (shape : Shape) (is : IsShape shape) (words : List ℕ) (before mid : Plan) (item : ℕ) (short : item < shape.n_items) where
  module _ (out : GrewAt (out_places (seen before words) shape item) before mid)
      (list : (items : List ℕ) → IsRecency (seen before words) shape items → IsOneOf items item → IsRecency (seen mid words) shape (without_number items item))
      (parts : Parts) (held : HoldsParts (seen before words) shape parts) (listed : IsListedIn parts (item_chain (seen before words) shape item) item) where
    abbrev pub out_parts : Parts
    out_parts = record parts { items = without_number parts.items item }

    out_held : HoldsParts (seen mid words) shape out_parts
    out_held = taken_out shape is words before mid parts item held listed.recent listed.apart out (list parts.items held.recency listed.recent)

    same_chain : item_chain (seen mid words) shape item ≡ item_chain (seen before words) shape item
    same_chain =
        chain_stays shape is recency_zones (seen before words) (seen mid words) (out_stays shape is words before mid parts.items item held.recency listed.recent out) item short refl

    pub still_chained : IsOneOf (parts.chains (item_chain (seen mid words) shape item)) item
    still_chained = subst (λ (c : ℕ). IsOneOf (parts.chains c) item) (sym same_chain) listed.chained

    pub chains_then : IsChains (seen mid words) shape parts.chains
    chains_then = out_held.chains

    module _ (now : Plan) (unlinks : GrewAt (unlink_places (seen mid words) shape parts.chains item) mid now)
        (chains : IsChains (seen now words) shape
        (with_chain parts.chains (item_chain (seen mid words) shape item) (without_number (parts.chains (item_chain (seen mid words) shape item)) item))) where
      abbrev pub own : ℕ
      own = item_chain (seen before words) shape item

      pub left : HoldsParts (seen now words) shape (unlisted_parts parts own item)
      left =
          unlinked shape is words mid now out_parts (with_chain parts.chains own (without_number (parts.chains own) item)) item out_held unlinks
          (subst (λ (c : ℕ). IsChains (seen now words) shape (with_chain parts.chains c (without_number (parts.chains c) item))) same_chain chains)

      pub left_grew : GrewInZones shape list_zones 3 before now
      left_grew = record {
        places = out_places (seen before words) shape item ++ unlink_places (seen mid words) shape parts.chains item;
        few = omega arith;
        grew = grew_then (out_places (seen before words) shape item) (unlink_places (seen mid words) shape parts.chains item) before mid now out unlinks;
        own = λ at one. own_place at one;
      }
        where
          recent : (at : ℕ) → IsOneOf (out_places (seen before words) shape item) at → list_zones (zone_of shape at) ≡ true
          recent at one =
              recency_own shape is list_zones parts.items at refl refl refl refl
              (walk_short shape (seen before words) 2 parts.items (seen before words (shape.head + 6)) held.recency.walk)
              (out_own shape (seen before words) parts.items item at is held.recency listed.recent one)

          chained : (at : ℕ) → IsOneOf (unlink_places (seen mid words) shape parts.chains item) at → list_zones (zone_of shape at) ≡ true
          chained at one =
              chains_own shape is list_zones parts.chains at refl refl
              (λ chain other few among. walk_short shape (seen mid words) 0 (parts.chains chain) (seen mid words (shape.chains + chain)) (out_held.chains.walk chain few) other among)
              (unlink_own shape (seen mid words) parts.chains item at is one)

          own_place : (at : ℕ) → IsOneOf (out_places (seen before words) shape item ++ unlink_places (seen mid words) shape parts.chains item) at → list_zones (zone_of shape at) ≡ true
          own_place at (inl one) = recent at (inl one)
          own_place at (inr (inl two)) = recent at (inr (inl two))
          own_place at (inr (inr three)) = chained at three

  -- an item is given to the free ones, and one less is in use
  module _ (gives : GrewAt (give_places shape item) before mid) where
    give_off : StaysOff shape give_zones (seen before words) (seen mid words)
    give_off = grown_off shape give_zones (give_places shape item) before mid words gives (λ at one. give_own shape is give_zones item at refl refl short one)

    pub same_count : seen mid words (shape.head + 9) ≡ seen before words 9
    same_count =
        word_stays shape is give_zones (seen before words) (seen mid words) give_off (shape.head + 9) 9 refl refl refl
        ∙ ap (seen before words) (let e : shape.head + 9 ≡ 9 = omega (arith, is.head) in e)

    pub room_for_count : length before.writes + 3 ≤ before.room → (length mid.writes < mid.room) ⊎ Names mid.writes (shape.head + 9)
    room_for_count spare =
        let one : length mid.writes + 1 ≤ mid.room = spare_after (give_places shape item) 1 before mid gives (omega (arith, spare)) in
        inl (omega (arith, one))

    module _ (now : Plan) (count : ℕ) (is_count : count ≡ seen mid words (shape.head + 9)) (put : now ≡ put_on mid (shape.head + 9) (count - 1)) where
      pub freed_grew : GrewInZones shape free_zones 3 before now
      freed_grew = record {
        places = give_places shape item ++ ((shape.head + 9) ∷ []);
        few = omega arith;
        grew = grew_then (give_places shape item) ((shape.head + 9) ∷ []) before mid now gives
            (subst (GrewAt ((shape.head + 9) ∷ []) mid) (sym put) (grew_put mid (shape.head + 9) (count - 1)));
        own = λ at one. own_place at one;
      }
        where
          own_place : (at : ℕ) → IsOneOf (give_places shape item ++ ((shape.head + 9) ∷ [])) at → free_zones (zone_of shape at) ≡ true
          own_place at (inl one) = give_own shape is free_zones item at refl refl short (inl one)
          own_place at (inr (inl two)) = give_own shape is free_zones item at refl refl short (inr (inl two))
          own_place at (inr (inr three)) = count_own shape is free_zones at refl three

      pub freed : ((items : List ℕ) → IsFreeList (seen before words) shape items → IsNoneOf items item → IsFreeList (seen mid words) shape (item ∷ items))
          → (parts : Parts) → HoldsParts (seen before words) shape parts → IsNoneOf parts.items item → IsNoneOf parts.free item
          → HoldsParts (seen now words) shape (freed_parts parts item)
      freed list parts held none unfree =
          let free_parts : Parts = record parts { free = item ∷ parts.free } in
          let given_held : HoldsParts (seen mid words) shape free_parts =
          given shape is words before mid parts item held short none gives (list parts.free held.free unfree) in
          let less : count - 1 ≡ parts.count - 1 = omega (arith, is_count, same_count, held.count) in
          subst (λ (n : ℕ). HoldsParts (seen now words) shape (record free_parts { count = n })) less
          (counted shape is words mid now free_parts (count - 1) given_held put)
