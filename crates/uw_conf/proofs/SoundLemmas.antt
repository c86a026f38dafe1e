-- The numbers of each draft, of each cache and of all caches of a text lie within their limits.
use Rattle.std.proofs.Common.{◌≢◌, sym, ◌≡◌, ℕ, ◌*◌, ◌%◌, ◌<◌, ◌≤◌, min, Bool, true, false, ◌==◌, ◌&&◌, ◌||◌, if◌then◌else◌, List, [], ◌∷◌, ◌++◌, length, refl, arith, Option, Some, None, Result, IfOk, IfSome, nat_le, nat_lt, unwrap_or, codes}
use Rattle.std.proofs.lemmas.Bool.Decides.{nat_tests}
use Rattle.std.proofs.lemmas.Bool.{both_ways, or_parts}
use Rattle.std.proofs.lemmas.List.{length_push}
use Rattle.std.proofs.lemmas.Slice.Eq.{bytes_eq-Decides}
use Rattle.std.specs.Option.{option_map}
use Rattle.std.specs.List.{AllByRecursion}
use Rattle.std.specs.Int.{next_multiple_of}
use Rattle.std.specs.List.{list_any, slice_split, before_first, after_first}
use Rattle.std.specs.Str.{bytes_eq}
use Rattle.uw_model.specs.declared.conf.CacheConf.{CacheConf}
use Rattle.uw_model.specs.AreaOps.{IsAreaSize}
use Rattle.uw_model.specs.Entries.{IsCacheConf}
use Rattle.uw_base.specs.Numbers.{decimal_of}
use Rattle.uw_conf.specs.declared.conf.ConfKind.{ConfKind}
use Rattle.uw_conf.specs.Caches.{Draft, blank_draft, spoiled, with_cache_conf, with_draft, with_cache, number_in, flag_of, put, with_key, with_pair, with_pairs, draft_of, conf_of}
use Rattle.uw_conf.specs.AreaLines.{size_of_area, size_of_pages, size_under, with_area, with_area_size}
use Rattle.uw_conf.specs.Regions.{all_bytes, most_region_bytes}
use Rattle.uw_conf.specs.Sound.{ArePartsOfSite, HaveOwnNames}
use Rattle.uw_conf.specs.ReadingSteps.{IsDraft}
use Rattle.uw_conf.proofs.SizeLemmas.{AllByRecursion-push}

-- a choice of two drafts that are within their limits
pub IsDraft-if : (b : Bool) (x y : Draft) → IsDraft x → IsDraft y → IsDraft (if b then x else y)
IsDraft-if true x y h k = h
IsDraft-if false x y h k = k

test_within : (low high n : ℕ) → (nat_le low n && nat_le n high) ≡ true → (low ≤ n) × (n ≤ high)
test_within low high n h = (grind (arith, nat_tests), grind (arith, nat_tests))

some_within : (low high n : ℕ) (b : Bool) → (nat_le low n && nat_le n high) ≡ b → IfSome (if b then Some n else None) (λ m. (low ≤ m) × (m ≤ high))
some_within low high n true h = test_within low high n h
some_within low high n false h = tt

-- a number that was read, where it lies within its limits
abbrev within : ℕ → ℕ → Option ℕ → Option ℕ
within low high None = None
within low high (Some number) = if nat_le low number && nat_le number high then Some number else None

within_some : (low high : ℕ) (o : Option ℕ) → IfSome (within low high o) (λ m. (low ≤ m) × (m ≤ high))
within_some low high None = tt
within_some low high (Some n) = some_within low high n (nat_le low n && nat_le n high) refl

pub number_in_some : (low high : ℕ) (text : List ℕ) → IfSome (number_in low high text) (λ m. (low ≤ m) × (m ≤ high))
number_in_some low high text = within_some low high (decimal_of text)

-- another field of a draft changes nothing of its numbers
IsDraft-spoiled : (draft : Draft) → IsDraft draft → IsDraft (spoiled draft)
IsDraft-spoiled draft h = record { items = h.items; blocksize = h.blocksize; words = h.words; blocks = h.blocks; keysize = h.keysize; chains = h.chains }

IsDraft-put : (low high : ℕ) (draft : Draft) (o : Option ℕ) (set : ℕ → Draft) → IsDraft draft → IfSome o (λ m. (low ≤ m) × (m ≤ high)) → ((n : ℕ) → (low ≤ n) × (n ≤ high) → IsDraft (set n)) → IsDraft (put draft o set)
IsDraft-put low high draft None set h limits each = IsDraft-spoiled draft h
IsDraft-put low high draft (Some n) set h limits each = each n limits

IsDraft-flag : (draft : Draft) (o : Option Bool) (set : Bool → Draft) → IsDraft draft → ((b : Bool) → IsDraft (set b)) → IsDraft (put draft o set)
IsDraft-flag draft None set h each = IsDraft-spoiled draft h
IsDraft-flag draft (Some b) set h each = each b

raised : (n : ℕ) → (1 ≤ n) × (n ≤ 1048576) → ((8 ≤ next_multiple_of n 8) × (next_multiple_of n 8 ≤ 1048576)) × (next_multiple_of n 8 % 8 ≡ 0)
raised n limits = let low = limits.0 in let high = limits.1 in ((omega arith, omega arith), omega arith)

-- one pair keeps the limits
with_key_keeps : (draft : Draft) (key value : List ℕ) → IsDraft draft → IsDraft (with_key draft key value)
with_key_keeps draft key value h =
    IsDraft-if (bytes_eq key (codes "name")) _ _
    (IsDraft-if (length value == 0) _ _ (IsDraft-spoiled draft h)
    (record { items = h.items; blocksize = h.blocksize; words = h.words; blocks = h.blocks; keysize = h.keysize; chains = h.chains }))
    (IsDraft-if (bytes_eq key (codes "items") || bytes_eq key (codes "maxitems") || bytes_eq key (codes "max-items")) _ _
    (IsDraft-put 1 1048576 draft (number_in 1 1048576 value) (λ n. record draft { items = Some n }) h (number_in_some 1 1048576 value)
    (λ n limits. record { items = limits; blocksize = h.blocksize; words = h.words; blocks = h.blocks; keysize = h.keysize; chains = h.chains }))
    (IsDraft-if (bytes_eq key (codes "blocksize")) _ _
    (IsDraft-put 1 1048576 draft (number_in 1 1048576 value) (λ n. record draft { blocksize = next_multiple_of n 8 }) h (number_in_some 1 1048576 value)
    (λ n limits. record { items = h.items; blocksize = (raised n limits).0; words = (raised n limits).1; blocks = h.blocks; keysize = h.keysize; chains = h.chains }))
    (IsDraft-if (bytes_eq key (codes "blocks")) _ _
    (IsDraft-put 1 16777216 draft (number_in 1 16777216 value) (λ n. record draft { blocks = Some n }) h (number_in_some 1 16777216 value)
    (λ n limits. record { items = h.items; blocksize = h.blocksize; words = h.words; blocks = limits; keysize = h.keysize; chains = h.chains }))
    (IsDraft-if (bytes_eq key (codes "keysize") || bytes_eq key (codes "key_size")) _ _
    (IsDraft-put 1 65535 draft (number_in 1 65535 value) (λ n. record draft { keysize = n }) h (number_in_some 1 65535 value)
    (λ n limits. record { items = h.items; blocksize = h.blocksize; words = h.words; blocks = h.blocks; keysize = limits; chains = h.chains }))
    (IsDraft-if (bytes_eq key (codes "hashsize") || bytes_eq key (codes "hash_size")) _ _
    (IsDraft-put 1 1048576 draft (number_in 1 1048576 value) (λ n. record draft { chains = Some n }) h (number_in_some 1 1048576 value)
    (λ n limits. record { items = h.items; blocksize = h.blocksize; words = h.words; blocks = h.blocks; keysize = h.keysize; chains = limits }))
    (IsDraft-if (bytes_eq key (codes "hash")) _ _
    (IsDraft-if (bytes_eq value (codes "djb33x")) _ _ h (IsDraft-spoiled draft h))
    (IsDraft-if (bytes_eq key (codes "bitmap")) _ _
    (IsDraft-flag draft (flag_of value) (λ b. record draft { bitmap = b }) h
    (λ b. record { items = h.items; blocksize = h.blocksize; words = h.words; blocks = h.blocks; keysize = h.keysize; chains = h.chains }))
    (IsDraft-if (bytes_eq key (codes "purge_lru")) _ _
    (IsDraft-flag draft (flag_of value) (λ b. record draft { purge_lru = b }) h
    (λ b. record { items = h.items; blocksize = h.blocksize; words = h.words; blocks = h.blocks; keysize = h.keysize; chains = h.chains }))
    (IsDraft-if (bytes_eq key (codes "sweep_on_full")) _ _
    (IsDraft-flag draft (flag_of value) (λ b. record draft { sweep_on_full = b }) h
    (λ b. record { items = h.items; blocksize = h.blocksize; words = h.words; blocks = h.blocks; keysize = h.keysize; chains = h.chains }))
    (IsDraft-if (bytes_eq key (codes "clear_on_full")) _ _
    (IsDraft-flag draft (flag_of value) (λ b. record draft { clear_on_full = b }) h
    (λ b. record { items = h.items; blocksize = h.blocksize; words = h.words; blocks = h.blocks; keysize = h.keysize; chains = h.chains }))
    (record { items = h.items; blocksize = h.blocksize; words = h.words; blocks = h.blocks; keysize = h.keysize; chains = h.chains })))))))))))

with_pair_keeps : (draft : Draft) (pair : List ℕ) → IsDraft draft → IsDraft (with_pair draft pair)
with_pair_keeps draft pair h =
    IsDraft-if (list_any (λ byte. byte == 61) pair) _ _
    (with_key_keeps draft (before_first (λ byte. byte == 61) pair) (after_first (λ byte. byte == 61) pair) h) (IsDraft-spoiled draft h)

with_pairs_keeps : (draft : Draft) (pairs : List (List ℕ)) → IsDraft draft → IsDraft (with_pairs draft pairs)
with_pairs_keeps draft [] h = h
with_pairs_keeps draft (pair ∷ pairs) h = with_pairs_keeps (with_pair draft pair) pairs (with_pair_keeps draft pair h)

-- each draft of a line lies within the limits
pub draft_of_keeps : (text : List ℕ) → IsDraft (draft_of text)
draft_of_keeps text =
    with_pairs_keeps blank_draft (slice_split (λ byte. byte == 44) text)
    (record { items = tt; blocksize = (omega arith, omega arith); words = refl; blocks = tt; keysize = (omega arith, omega arith); chains = tt })

abbrev AreKept : List ℕ → Result (List CacheConf) ConfKind → Type 0
AreKept areas r = IfOk r (λ caches. ArePartsOfSite caches areas)

kept_if : {T : Type 0} (P : T → Type 0) (b : Bool) (x y : Result T ConfKind) → IfOk x P → (b ≡ false → IfOk y P) → IfOk (if b then x else y) P
kept_if P true x y h k = h
kept_if P false x y h k = k refl

not_above : (a b : ℕ) → nat_lt a b ≡ false → b ≤ a
not_above a b h = grind (arith, nat_tests)

-- a name that no cache has is each cache's other name
other_names : (caches : List CacheConf) (name : List ℕ) → list_any (λ (earlier : CacheConf). bytes_eq earlier.name name) caches ≡ false → AllByRecursion (λ (other : CacheConf). other.name ≢ name) caches
other_names [] name none = tt
other_names (c ∷ caches) name none =
    let here = or_parts (bytes_eq c.name name) (list_any (λ (earlier : CacheConf). bytes_eq earlier.name name) caches) none in
    (λ same. both_ways (bytes_eq c.name name) here.0 ((bytes_eq-Decides c.name name).1 same), other_names caches name here.1)

-- a cache of another name behind caches that have names of their own
own_names_push : (caches : List CacheConf) (conf : CacheConf) → HaveOwnNames caches → AllByRecursion (λ (other : CacheConf). other.name ≢ conf.name) caches → HaveOwnNames (caches ++ conf ∷ [])
own_names_push [] conf own others = (tt, tt)
own_names_push (c ∷ caches) conf own others =
    (AllByRecursion-push (λ (other : CacheConf). other.name ≢ c.name) caches conf own.0 (λ same. others.0 (sym same)), own_names_push caches conf own.1 others.1)

added_keeps : (areas : List ℕ) (caches : List CacheConf) (conf : CacheConf) → ArePartsOfSite caches areas → length caches < 16 → IsCacheConf conf
    → AreKept areas (with_cache_conf areas caches conf)
added_keeps areas caches conf h few here =
    kept_if (λ all. ArePartsOfSite all areas) (list_any (λ (earlier : CacheConf). bytes_eq earlier.name conf.name) caches) _ _ tt
    (λ new. kept_if (λ all. ArePartsOfSite all areas) (nat_lt most_region_bytes (all_bytes (caches ++ conf ∷ []) areas)) _ _ tt
    (λ small. record {
      each = AllByRecursion-push IsCacheConf caches conf h.each here;
      few = omega (arith, length_push caches conf);
      names = own_names_push caches conf h.names (other_names caches conf.name new);
      sizes = h.sizes;
      few_areas = h.few_areas;
      small = not_above most_region_bytes (all_bytes (caches ++ conf ∷ []) areas) small;
    }))

chosen_blocks : (bitmap : Bool) (o : Option ℕ) (items : ℕ) → IfSome o (λ n. (1 ≤ n) × (n ≤ 16777216)) → (1 ≤ items) × (items ≤ 1048576) → let blocks = if bitmap then unwrap_or o items else items in ((1 ≤ blocks) × (blocks ≤ 16777216)) × (bitmap ≡ false → blocks ≡ items)
chosen_blocks true None items h limits = let low = limits.0 in let high = limits.1 in ((omega arith, omega arith), λ e. absurd (cc))
chosen_blocks true (Some n) items h limits = (h, λ e. absurd (cc))
chosen_blocks false o items h limits = let low = limits.0 in let high = limits.1 in ((omega arith, omega arith), λ e. refl)

chosen_chains : (o : Option ℕ) (items : ℕ) → IfSome o (λ n. (1 ≤ n) × (n ≤ 1048576)) → (1 ≤ items) × (items ≤ 1048576) → (1 ≤ unwrap_or o (min items 65536)) × (unwrap_or o (min items 65536) ≤ 1048576)
chosen_chains None items h limits = let low = limits.0 in let high = limits.1 in (omega arith, omega arith)
chosen_chains (Some n) items h limits = h

-- the cache of a draft lies within the limits
pub conf_of_keeps : (draft : Draft) (name : List ℕ) (items : ℕ) → IsDraft draft → (1 ≤ items) × (items ≤ 1048576) → IsCacheConf (conf_of draft name items)
conf_of_keeps draft name items h limits = record {
  items = limits;
  blocksize = h.blocksize;
  words = h.words;
  blocks = (chosen_blocks draft.bitmap draft.blocks items h.blocks limits).0;
  keysize = h.keysize;
  chains = chosen_chains draft.chains items h.chains limits;
  no_bitmap = (chosen_blocks draft.bitmap draft.blocks items h.blocks limits).1;
}

completed_keeps : (areas : List ℕ) (caches : List CacheConf) (draft : Draft) (name : Option (List ℕ)) (items : Option ℕ) → ArePartsOfSite caches areas → length caches < 16
    → IsDraft draft → IfSome items (λ n. (1 ≤ n) × (n ≤ 1048576)) → AreKept areas (with_draft areas caches draft name items)
completed_keeps areas caches draft None items h few d limits = tt
completed_keeps areas caches draft (Some name) None h few d limits = tt
completed_keeps areas caches draft (Some name) (Some items) h few d limits =
    added_keeps areas caches (conf_of draft name items) h few (conf_of_keeps draft name items d limits)

room_left : (bad : Bool) (n : ℕ) → (bad || nat_le 16 n) ≡ false → n < 16
room_left true n h = absurd (cc)
room_left false n h = grind (arith, nat_tests)

-- one line of a cache keeps the limits of all
pub with_cache_keeps : (areas : List ℕ) (caches : List CacheConf) (text : List ℕ) → ArePartsOfSite caches areas → AreKept areas (with_cache areas caches text)
with_cache_keeps areas caches text h =
    kept_if (λ all. ArePartsOfSite all areas) (draft_of text).unknown _ _ tt
    (λ _. kept_if (λ all. ArePartsOfSite all areas) ((draft_of text).bad || nat_le 16 (length caches)) _ _ tt
    (λ room. completed_keeps areas caches (draft_of text) (draft_of text).name (draft_of text).items h (room_left (draft_of text).bad (length caches) room)
    (draft_of_keeps text) (draft_of_keeps text).items))

-- ---- areas

pages_within : (o : Option ℕ) → IfSome o (λ n. (1 ≤ n) × (n ≤ 4096)) → IfSome (option_map (λ (pages : ℕ). pages * 4096) o) IsAreaSize
pages_within None h = tt
pages_within (Some pages) h = let low = h.0 in let high = h.1 in (omega arith, omega arith)

some_if : (b : Bool) (x y : Option ℕ) → IfSome x IsAreaSize → IfSome y IsAreaSize → IfSome (if b then x else y) IsAreaSize
some_if true x y h k = h
some_if false x y h k = k

pages_size : (text : List ℕ) → IfSome (size_of_pages text) IsAreaSize
pages_size text = pages_within (number_in 1 4096 text) (number_in_some 1 4096 text)

key_size : (key text : List ℕ) → IfSome (size_under key text) IsAreaSize
key_size key text =
    some_if (bytes_eq key (codes "pages")) _ _ (pages_size text)
    (some_if (bytes_eq key (codes "size")) _ _ (number_in_some 1 16777216 text) tt)

-- a size that a line says is one of an area
pub area_size : (text : List ℕ) → IfSome (size_of_area text) IsAreaSize
area_size text =
    some_if (list_any (λ byte. byte == 61) text) _ _ (key_size (before_first (λ byte. byte == 61) text) (after_first (λ byte. byte == 61) text)) (pages_size text)

sized_keeps : (caches : List CacheConf) (areas : List ℕ) (size : Option ℕ) → ArePartsOfSite caches areas → length areas < 16 → IfSome size IsAreaSize
    → IfOk (with_area_size caches areas size) (ArePartsOfSite caches)
sized_keeps caches areas None h few limits = tt
sized_keeps caches areas (Some size) h few limits =
    kept_if (ArePartsOfSite caches) (nat_lt most_region_bytes (all_bytes caches (areas ++ size ∷ []))) _ _ tt
    (λ small. record {
      each = h.each;
      few = h.few;
      names = h.names;
      sizes = AllByRecursion-push IsAreaSize areas size h.sizes limits;
      few_areas = omega (arith, length_push areas size);
      small = not_above most_region_bytes (all_bytes caches (areas ++ size ∷ [])) small;
    })

below_most : (n : ℕ) → nat_le 16 n ≡ false → n < 16
below_most n h = grind (arith, nat_tests)

-- one line of an area keeps the limits of all
pub with_area_keeps : (caches : List CacheConf) (areas : List ℕ) (text : List ℕ) → ArePartsOfSite caches areas → IfOk (with_area caches areas text) (ArePartsOfSite caches)
with_area_keeps caches areas text h =
    kept_if (ArePartsOfSite caches) (nat_le 16 (length areas)) _ _ tt
    (λ room. sized_keeps caches areas (size_of_area text) h (below_most (length areas) room) (area_size text))
