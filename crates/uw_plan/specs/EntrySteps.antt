-- What the steps do by which an entry leaves the list of a region or comes in front of it.
use Rattle.std.specs.Prelude.{◌≡◌, ℕ, ◌+◌, ◌-◌, ◌%◌, ◌≤◌, ◌==◌, ◌||◌, min, nat_le, nat_lt, Bool, true, false, ◌&&◌, if◌then◌else◌, List, ◌∷◌, ◌++◌, drop, length}
use Rattle.uw_words.specs.declared.shape.Shape.{Shape}
use Rattle.uw_words.specs.Numbers.{IsNoneOf, IsOneOf, without_number}
use Rattle.uw_words.specs.Parts.{GrewAt}
use Rattle.uw_words.specs.Plans.{Plan}
use Rattle.uw_bitmap.specs.Bits.{is_in_run}
use Rattle.uw_chains.specs.Chains.{with_chain}
use Rattle.uw_items.specs.Items.{field_places, key_places, value_places}
use Rattle.uw_plan.specs.Parts.{Parts}

-- the zone of a place, a number: that of a header word that changes is its place, and 0 that of all others; 16 that of the
-- bitmap, 17 of the chains, 18 of the blocks and of what is behind them; from 19 on those of the items' words, by their
-- number in the item, and 25 that of all from the sixth on
abbrev pub zone_of : Shape → ℕ → ℕ
zone_of shape at =
    if nat_lt at 6 then 0
    else (if nat_lt at 12 then at
    else (if nat_lt at 16 then 0
    else (if nat_lt at shape.chains then 16
    else (if nat_lt at shape.items then 17
    else (if nat_lt at shape.blocks then 19 + min 6 ((at - shape.items) % shape.stride)
    else 18)))))

-- an overlay names so many places more at most, all of some zones
pub record GrewInZones (shape : Shape) (zones : ℕ → Bool) (most : ℕ) (before now : Plan) : Type 0 where
  pub places : List ℕ
  pub few : length places ≤ most
  pub grew : GrewAt places before now
  pub own : (at : ℕ) → IsOneOf places at → zones (zone_of shape at) ≡ true

-- the zones to which a change of the recency list or of the chains writes
abbrev pub list_zones : ℕ → Bool
list_zones zone = zone == 6 || zone == 7 || zone == 17 || nat_le 19 zone && nat_lt zone 22

-- the zones to which a change of the free list or of the count writes
abbrev pub free_zones : ℕ → Bool
free_zones zone = zone == 8 || zone == 9 || zone == 21

-- the item stands in the recency list and on this chain, and no free item is in the recency list
pub record IsListedIn (parts : Parts) (chain item : ℕ) : Type 0 where
  pub recent : IsOneOf parts.items item
  pub chained : IsOneOf (parts.chains chain) item
  pub apart : (other : ℕ) → IsOneOf parts.free other → IsNoneOf parts.items other

-- the parts without the marks of a run
abbrev pub unmarked_parts : Parts → (first n : ℕ) → Parts
unmarked_parts parts first n = record parts { marked = λ block. if is_in_run first n block then false else parts.marked block }

-- the parts without an item in the recency list and on its chain
abbrev pub unlisted_parts : Parts → (chain item : ℕ) → Parts
unlisted_parts parts chain item = record parts {
  items = without_number parts.items item;
  chains = with_chain parts.chains chain (without_number (parts.chains chain) item);
}

-- the parts with an item that is free, and one less in use
abbrev pub freed_parts : Parts → ℕ → Parts
freed_parts parts item = record parts { free = item ∷ parts.free; count = parts.count - 1 }

-- the places of the record of an item whose key and value have so many bytes: its key, its fields, and its value from a block on
abbrev pub record_places : Shape → (item key first value : ℕ) → List ℕ
record_places shape item key first value = key_places shape item key ++ (field_places shape item ++ value_places shape first value)

-- the item is neither in the recency list nor on this chain, and no free item is it or in the recency list
pub record IsNewIn (parts : Parts) (chain item : ℕ) : Type 0 where
  pub recent : IsNoneOf parts.items item
  pub chained : IsNoneOf (parts.chains chain) item
  pub apart : (other : ℕ) → IsOneOf parts.free other → IsNoneOf (item ∷ parts.items) other

-- the parts with an item in front of the recency list and of its chain
abbrev pub listed_parts : Parts → (chain item : ℕ) → Parts
listed_parts parts chain item = record parts {
  items = item ∷ parts.items;
  chains = with_chain parts.chains chain (item ∷ parts.chains chain);
}

-- the parts without their first free item
abbrev pub taken_parts : Parts → Parts
taken_parts parts = record parts { free = drop 1 parts.free }

-- the parts with one more in use
abbrev pub counted_parts : Parts → Parts
counted_parts parts = record parts { count = parts.count + 1 }
