-- The line of a cache: pairs `key=value` joined by commas (own rule; the keys are those of "The Caching framework").
use Rattle.std.specs.Prelude.{ℕ, ◌==◌, min, nat_lt, nat_le, Bool, true, false, ◌||◌, ◌&&◌, if◌then◌else◌, List, [], ◌∷◌, ◌++◌, length, codes, Option, None, Some, unwrap_or, Result, Ok, Err}
use Rattle.std.specs.Int.{next_multiple_of}
use Rattle.std.specs.List.{before_first, after_first, list_any, slice_split}
use Rattle.std.specs.Str.{bytes_eq}
use Rattle.uw_base.specs.Numbers.{decimal_of}
use Rattle.uw_model.specs.declared.conf.CacheConf.{CacheConf}
use Rattle.uw_conf.specs.declared.conf.ConfKind.{ConfKind}
use Rattle.uw_conf.specs.declared.conf.ConfKind.TheVariants as kinds
use Rattle.uw_conf.specs.Regions.{all_bytes, most_region_bytes}

-- what the pairs so far say; whether a key was unknown, and whether a value was bad
pub record Draft : Type 0 where
  pub name : Option (List ℕ)
  pub items : Option ℕ
  pub blocksize : ℕ
  pub blocks : Option ℕ
  pub keysize : ℕ
  pub chains : Option ℕ
  pub bitmap : Bool
  pub purge_lru : Bool
  pub sweep_on_full : Bool
  pub clear_on_full : Bool
  pub unknown : Bool
  pub bad : Bool

-- before the first pair: the defaults
abbrev pub blank_draft : Draft
blank_draft = record {
  name = None;
  items = None;
  blocksize = 65536;
  blocks = None;
  keysize = 2048;
  chains = None;
  bitmap = false;
  purge_lru = false;
  sweep_on_full = false;
  clear_on_full = false;
  unknown = false;
  bad = false;
}

-- a draft with a bad value
abbrev pub spoiled : Draft → Draft
spoiled draft = record draft { bad = true }

-- the number of a text, from `low` to `high`
abbrev pub number_in : ℕ → ℕ → List ℕ → Option ℕ
number_in low high text = within low high (decimal_of text)
  where
    within : ℕ → ℕ → Option ℕ → Option ℕ
    within low high None = None
    within low high (Some number) = if nat_le low number && nat_le number high then Some number else None

-- a flag's text
abbrev pub flag_of : List ℕ → Option Bool
flag_of text =
    if bytes_eq text (codes "1") || bytes_eq text (codes "true") then Some true
    else (if bytes_eq text (codes "0") || bytes_eq text (codes "false") then Some false else None)

-- a value that was read is put into the draft; one that was not spoils it
abbrev pub put : {X : Type 0} → Draft → Option X → (X → Draft) → Draft
put draft None set = spoiled draft
put draft (Some value) set = set value

-- one pair
abbrev pub with_key : Draft → List ℕ → List ℕ → Draft
with_key draft key value =
    if bytes_eq key (codes "name") then (if length value == 0 then spoiled draft else record draft { name = Some value })
    else (if bytes_eq key (codes "items") || bytes_eq key (codes "maxitems") || bytes_eq key (codes "max-items")
    then put draft (number_in 1 1048576 value) (λ n. record draft { items = Some n })
    else (if bytes_eq key (codes "blocksize") then put draft (number_in 1 1048576 value) (λ n. record draft { blocksize = next_multiple_of n 8 })
    else (if bytes_eq key (codes "blocks") then put draft (number_in 1 16777216 value) (λ n. record draft { blocks = Some n })
    else (if bytes_eq key (codes "keysize") || bytes_eq key (codes "key_size") then put draft (number_in 1 65535 value) (λ n. record draft { keysize = n })
    else (if bytes_eq key (codes "hashsize") || bytes_eq key (codes "hash_size") then put draft (number_in 1 1048576 value) (λ n. record draft { chains = Some n })
    else (if bytes_eq key (codes "hash") then (if bytes_eq value (codes "djb33x") then draft else spoiled draft)
    else (if bytes_eq key (codes "bitmap") then put draft (flag_of value) (λ b. record draft { bitmap = b })
    else (if bytes_eq key (codes "purge_lru") then put draft (flag_of value) (λ b. record draft { purge_lru = b })
    else (if bytes_eq key (codes "sweep_on_full") then put draft (flag_of value) (λ b. record draft { sweep_on_full = b })
    else (if bytes_eq key (codes "clear_on_full") then put draft (flag_of value) (λ b. record draft { clear_on_full = b })
    else record draft { unknown = true }))))))))))

-- a pair parts at its first `=` (61); one without it is bad
abbrev pub with_pair : Draft → List ℕ → Draft
with_pair draft pair =
    if list_any (λ byte. byte == 61) pair then with_key draft (before_first (λ byte. byte == 61) pair) (after_first (λ byte. byte == 61) pair)
    else spoiled draft

-- pairs, one after the other
abbrev pub with_pairs : Draft → List (List ℕ) → Draft
with_pairs draft [] = draft
with_pairs draft (pair ∷ pairs) = with_pairs (with_pair draft pair) pairs

-- what a line of pairs, joined by commas (44), says
abbrev pub draft_of : List ℕ → Draft
draft_of text = with_pairs blank_draft (slice_split (λ byte. byte == 44) text)

-- the configuration of a draft that has a name and a number of items
abbrev pub conf_of : Draft → List ℕ → ℕ → CacheConf
conf_of draft name items = record {
  name = name;
  items = items;
  blocksize = draft.blocksize;
  blocks = if draft.bitmap then unwrap_or draft.blocks items else items;
  keysize = draft.keysize;
  chains = unwrap_or draft.chains (min items 65536);
  bitmap = draft.bitmap;
  purge_lru = draft.purge_lru;
  sweep_on_full = draft.sweep_on_full;
  clear_on_full = draft.clear_on_full;
}

-- a cache behind the earlier ones, beside the areas so far: a name that an earlier one has comes before regions that are too large
abbrev pub with_cache_conf : List ℕ → List CacheConf → CacheConf → Result (List CacheConf) ConfKind
with_cache_conf areas caches conf =
    if list_any (λ (earlier : CacheConf). bytes_eq earlier.name conf.name) caches then Err kinds.NameTwice
    else (if nat_lt most_region_bytes (all_bytes (caches ++ conf ∷ []) areas) then Err (kinds.TooLarge (all_bytes (caches ++ conf ∷ []) areas) most_region_bytes)
    else Ok (caches ++ conf ∷ []))

-- the cache of a draft behind the earlier ones; a draft without a name or a number of items is none
abbrev pub with_draft : List ℕ → List CacheConf → Draft → Option (List ℕ) → Option ℕ → Result (List CacheConf) ConfKind
with_draft areas caches draft None items = Err kinds.Missing
with_draft areas caches draft (Some name) None = Err kinds.Missing
with_draft areas caches draft (Some name) (Some items) = with_cache_conf areas caches (conf_of draft name items)

-- the caches with that of a line, the 17th of which is a bad value; all its pairs are looked at, and an unknown key comes before a bad value
abbrev pub with_cache : List ℕ → List CacheConf → List ℕ → Result (List CacheConf) ConfKind
with_cache areas caches text =
    if (draft_of text).unknown then Err kinds.UnknownOption
    else (if (draft_of text).bad || nat_le 16 (length caches) then Err kinds.BadValue
    else with_draft areas caches (draft_of text) (draft_of text).name (draft_of text).items)
