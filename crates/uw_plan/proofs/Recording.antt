-- The record of a new item is written: what stays, since the item is on no list and its blocks are its own.
use Rattle.std.proofs.Common.{◌≡◌, ◌≢◌, ◌⊎◌, inl, inr, ℕ, ◌+◌, ◌-◌, ◌*◌, ◌/◌, ◌%◌, ◌<◌, ◌≤◌, ◌==◌, ◌||◌, min, max, nat_le, Bool, true, List, [], ◌∷◌, ◌++◌, length, refl, sym, ap, ◌∙◌, subst, arith}
use Rattle.std.proofs.lemmas.Bool.{le-leb, or_left}
use Rattle.std.proofs.lemmas.Nat.{mul-le}
use Rattle.std.proofs.Math.Nat.{div-lt_iff_lt-mul, le-div_iff_mul-le, mul_comm, mul_assoc}
use Rattle.uw_model.specs.declared.conf.CacheConf.{CacheConf}
use Rattle.uw_model.specs.declared.entries.Entry.{Entry}
use Rattle.uw_model.specs.Entries.{AreApart, IsApart, IsApartFrom, IsEntry, covers, span}
use Rattle.uw_words.specs.declared.shape.Shape.{Shape}
use Rattle.uw_words.specs.Shapes.{IsShape}
use Rattle.uw_words.specs.Plans.{Plan}
use Rattle.uw_words.specs.Parts.{GrewAt, seen}
use Rattle.uw_words.specs.Numbers.{IsNoneOf, IsOneOf}
use Rattle.uw_words.specs.Walks.{link_of}
use Rattle.uw_words.proofs.Growth.{read_grown}
use Rattle.uw_words.proofs.Links.{item_within, same_item, walk_short}
use Rattle.uw_words.proofs.Numbers.{not_none}
use Rattle.uw_chains.specs.Chains.{IsChains, IsChainsKeyPlace, IsChainsPlace, item_chain}
use Rattle.uw_chains.proofs.Places.{depend}
use Rattle.uw_items.specs.Items.{IsRecordPlace, LieInBlocks, field_places, key_places, value_places}
use Rattle.uw_items.proofs.Held.{key_own, key_same, value_run, value_same, value_within, words_within}
use Rattle.uw_plan.specs.Parts.{HoldEntries, HoldsEntry, HoldsParts, Parts}
use Rattle.uw_plan.specs.EntrySteps.{record_places, zone_of}
use Rattle.uw_plan.proofs.Shapes.{IsShapeOf, entry_lies}
use Rattle.uw_plan.proofs.Zones.{StaysOff, block_zone, chain_head_zone, field_zone, free_stays, grown_off, head_stays, item_zone, mark_stays, none_of, recency_stays, stays_at, word_stays}
use Rattle.uw_plan.proofs.Dropping.{one_of_append}

-- the zones of fields, keys and blocks
abbrev pub record_zones : ℕ → Bool
record_zones zone = nat_le 22 zone || zone == 18

-- a value has room in the blocks of its entry
pub span_fits : (conf : CacheConf) (shape : Shape) → IsShapeOf conf shape → (e : Entry) → length e.value ≤ 8 * (span conf e.value * shape.block_words)
span_fits conf shape of e =
    let n = span conf e.value in
    let holds : length e.value ≤ n * conf.blocksize = fits (length e.value) conf.blocksize of.some_bytes in
    let all : 8 * (n * shape.block_words) ≡ n * conf.blocksize =
    sym (mul_assoc 8 n shape.block_words) ∙ ap (λ (c : ℕ). c * shape.block_words) (mul_comm 8 n) ∙ mul_assoc n 8 shape.block_words ∙ ap (λ (s : ℕ). n * s) of.block_bytes in
    omega (arith, holds, all)
  where
    fits : (len size : ℕ) → 0 < size → len ≤ max 1 ((len + (size - 1)) / size) * size
    fits len size some =
        let q = (len + (size - 1)) / size in
        let low : q * size ≤ max 1 q * size = mul-le q size (max 1 q) size (omega arith) (omega arith) in
        omega (arith, low, mul_comm q size)

-- the block of a word of a value is one that its entry covers
pub value_covers : (conf : CacheConf) (shape : Shape) → IsShapeOf conf shape → (e : Entry) (at : ℕ) → IsOneOf (value_places shape e.first (length e.value)) at
    → covers conf e ((at - shape.blocks) / shape.block_words)
value_covers conf shape of e at one =
    let n = span conf e.value in
    let row = value_run shape e.first n (length e.value) at (span_fits conf shape of e) one in
    let low : e.first * shape.block_words ≤ at - shape.blocks = omega (arith, row.0) in
    let high : at - shape.blocks < (e.first + n) * shape.block_words = omega (arith, row.0, row.1) in
    let some : 0 < shape.block_words = of.is.some_block_word in
    ((le-div_iff_mul-le {k = shape.block_words} {x = e.first} {y = at - shape.blocks} some).1 low, (div-lt_iff_lt-mul {k = shape.block_words} {x = at - shape.blocks} {y = e.first + n} some).1 high)

pub values_apart : (conf : CacheConf) (shape : Shape) → IsShapeOf conf shape → (e o : Entry) (at : ℕ) → IsApart conf e o → IsOneOf (value_places shape e.first (length e.value)) at
    → IsOneOf (value_places shape o.first (length o.value)) at → ⊥
values_apart conf shape of e o at apart one other =
    apart.blocks ((at - shape.blocks) / shape.block_words) (value_covers conf shape of e at one) (value_covers conf shape of o at other)

pub field_own : (shape : Shape) → IsShape shape → (item at : ℕ) → IsOneOf (field_places shape item) at → IsRecordPlace shape item at
field_own shape is item at (inl here) = (3, (omega arith, omega (arith, is.stride), sym here))
field_own shape is item at (inr (inl here)) = (4, (omega arith, omega (arith, is.stride), sym here))
field_own shape is item at (inr (inr (inl here))) = (5, (omega arith, omega (arith, is.stride), sym here))
field_own shape is item at (inr (inr (inr none))) = absurd none

module _ (shape : Shape) (is : IsShape shape) (words : List ℕ) (before now : Plan) (item key first value : ℕ) (short : item < shape.n_items) (fits : key ≤ 8 * shape.key_words)
    (lies : LieInBlocks shape first value) (grew : GrewAt (record_places shape item key first value) before now) where
  -- where the words stand
  pub record_where : (at : ℕ) → IsOneOf (record_places shape item key first value) at → IsRecordPlace shape item at ⊎ IsOneOf (value_places shape first value) at
  record_where at one = elim (one_of_append (key_places shape item key) (field_places shape item ++ value_places shape first value) at one) [
    | inl of_key ↦ inl (key_own shape item key at is fits of_key)
    | inr others ↦ elim (one_of_append (field_places shape item) (value_places shape first value) at others) [
      | inl of_fields ↦ inl (field_own shape is item at of_fields)
      | inr of_value ↦ inr of_value
    ]
  ]

  pub off_record : (at : ℕ) → (IsRecordPlace shape item at → ⊥) → (IsOneOf (value_places shape first value) at → ⊥) → seen now words at ≡ seen before words at
  off_record at own blocks =
      read_grown (record_places shape item key first value) before now words at grew
      (none_of (record_places shape item key first value) at (λ one. elim (record_where at one) [ inl here ↦ own here | inr there ↦ blocks there ]))

  pub record_zone : (at : ℕ) → IsRecordPlace shape item at ⊎ IsOneOf (value_places shape first value) at → record_zones (zone_of shape at) ≡ true
  record_zone at (inl (field, (high, low, here))) =
      let zone : zone_of shape at ≡ 19 + min 6 field = ap (zone_of shape) here ∙ item_zone shape is item field short low in
      or_left (nat_le 22 (zone_of shape at)) (zone_of shape at == 18) (le-leb 22 (zone_of shape at) (omega (arith, zone, high)))
  record_zone at (inr one) = ap record_zones (block_zone shape is at (value_within shape first value at is lies one).0)

  pub record_stays : StaysOff shape record_zones (seen before words) (seen now words)
  record_stays = grown_off shape record_zones (record_places shape item key first value) before now words grew (λ at one. record_zone at (record_where at one))

  -- a word of another item, and one of blocks that are another's
  pub other_item : (other at : ℕ) → other ≢ item → other < shape.n_items → IsRecordPlace shape other at → seen now words at ≡ seen before words at
  other_item other at apart low (field, (high, small, here)) =
      off_record at
      (λ own. apart (same_item shape is other item field own.0 small own.1.1 (sym here ∙ own.1.2)))
      (λ one. omega (arith, here, item_within shape is other field low small, (value_within shape first value at is lies one).0))

  pub chains_keep : (chains : ℕ → List ℕ) → ((chain : ℕ) → chain < shape.n_chains → IsNoneOf (chains chain) item) → IsChains (seen before words) shape chains
      → IsChains (seen now words) shape chains
  chains_keep chains none held = depend shape chains is (seen before words) (seen now words) (λ at place. here at place) held
    where
      low : (chain other : ℕ) → chain < shape.n_chains → IsOneOf (chains chain) other → other < shape.n_items
      low chain other few among = walk_short shape (seen before words) 0 (chains chain) (seen before words (shape.chains + chain)) (held.walk chain few) other among

      here : (at : ℕ) → IsChainsPlace shape chains at ⊎ IsChainsKeyPlace shape chains at → seen now words at ≡ seen before words at
      here at (inl (inl (chain, (few, head)))) =
          stays_at shape is record_zones (seen before words) (seen now words) record_stays at 17 (ap (zone_of shape) head ∙ chain_head_zone shape is chain few) refl
      here at (inl (inr (other, ((chain, (few, among)), link)))) =
          stays_at shape is record_zones (seen before words) (seen now words) record_stays at 19
          (ap (zone_of shape) (let e : at ≡ link_of shape other + 0 = omega (arith, link) in e) ∙ field_zone shape is other 0 (low chain other few among) (omega arith)) refl
      here at (inr (other, field, ((chain, (few, among)), some, small, place))) =
          other_item other at (λ same. not_none (chains chain) item (subst (IsOneOf (chains chain)) same among) (none chain few)) (low chain other few among)
          (field, (omega (arith, some), small, place))

  -- the parts stay
  pub recorded : (parts : Parts) → HoldsParts (seen before words) shape parts → ((chain : ℕ) → chain < shape.n_chains → IsNoneOf (parts.chains chain) item)
      → HoldsParts (seen now words) shape parts
  recorded parts held none = record {
    head = head_stays shape is record_zones (seen before words) (seen now words) record_stays refl held.head;
    count = word_stays shape is record_zones (seen before words) (seen now words) record_stays 9 9 (omega (arith, is.head)) refl refl ∙ held.count;
    recency = recency_stays shape is record_zones (seen before words) (seen now words) record_stays parts.items refl refl refl refl held.recency;
    chains = chains_keep parts.chains none held.chains;
    free = free_stays shape is record_zones (seen before words) (seen now words) record_stays parts.free refl refl held.free;
    bits = λ block low. mark_stays shape is record_zones (seen before words) (seen now words) record_stays block low refl ∙ held.bits block low;
  }

-- and so do the entries of other items
module _ (conf : CacheConf) (shape : Shape) (of : IsShapeOf conf shape) (words : List ℕ) (before now : Plan) (item : ℕ) (e : Entry) (short : item < shape.n_items)
    (fits : length e.key ≤ 8 * shape.key_words) (entry : IsEntry conf e) (grew : GrewAt (record_places shape item (length e.key) e.first (length e.value)) before now) where
  is : IsShape shape
  is = of.is

  lies : LieInBlocks shape e.first (length e.value)
  lies = entry_lies conf shape of e entry

  other_word : (other at : ℕ) → other ≢ item → other < shape.n_items → IsRecordPlace shape other at → seen now words at ≡ seen before words at
  other_word other at apart low place = other_item shape is words before now item (length e.key) e.first (length e.value) short fits lies grew other at apart low place

  field_keeps : (other field : ℕ) → other ≢ item → other < shape.n_items → 3 ≤ field → field < 6 → seen now words (link_of shape other + field) ≡ seen before words (link_of shape other + field)
  field_keeps other field apart low some small = other_word other (link_of shape other + field) apart low (field, (some, omega (arith, small, is.stride), refl))

  -- the chain on which another item falls
  pub chain_keeps : (other : ℕ) → other ≢ item → other < shape.n_items → item_chain (seen now words) shape other ≡ item_chain (seen before words) shape other
  chain_keeps other apart low =
      ap (λ (h : ℕ). h % shape.n_chains) (other_word other (link_of shape other + 7) apart low (7, (omega arith, omega (arith, is.stride), refl)))

  entry_keeps : (other : ℕ) (o : Entry) → other ≢ item → other < shape.n_items → IsEntry conf o → IsApart conf e o → HoldsEntry (seen before words) shape other o → HoldsEntry (seen now words) shape other o
  entry_keeps other o apart low its clear holds = record {
    key = key_same shape other o.key (seen before words) (seen now words) (λ at one. other_word other at apart low (key_own shape other (length o.key) at is holds.key.fits one)) holds.key;
    fields = record {
      dies = field_keeps other 3 apart low (omega arith) (omega arith) ∙ holds.fields.dies;
      first = field_keeps other 4 apart low (omega arith) (omega arith) ∙ holds.fields.first;
      bytes = field_keeps other 5 apart low (omega arith) (omega arith) ∙ holds.fields.bytes;
    };
    value = value_same shape o.first o.value (seen before words) (seen now words)
        (λ at one. off_record shape is words before now item (length e.key) e.first (length e.value) short fits lies grew at
        (λ own. omega (arith, (words_within shape item at is short own).1, (value_within shape o.first (length o.value) at is (entry_lies conf shape of o its) one).0))
        (λ mine. values_apart conf shape of e o at clear mine one))
        holds.value;
    key_bytes = holds.key_bytes;
    value_bytes = holds.value_bytes;
  }

  pub entries_keep : (items : List ℕ) (list : List Entry) → ((other : ℕ) → IsOneOf items other → other < shape.n_items) → IsNoneOf items item → AreApart conf list → IsApartFrom conf e list
      → HoldEntries (seen before words) shape items list → HoldEntries (seen now words) shape items list
  entries_keep [] [] low none apart clear holds = tt
  entries_keep [] (o ∷ list) low none apart clear holds = absurd holds
  entries_keep (other ∷ items) [] low none apart clear holds = absurd holds
  entries_keep (other ∷ items) (o ∷ list) low none apart clear holds = (
    entry_keeps other o none.0 (low other (inl refl)) apart.0 clear.0 holds.0,
    entries_keep items list (λ i one. low i (inr one)) none.1 apart.2 clear.1 holds.1,
  )
