-- The zones of places, and which parts stay where no word of their zones is written.
use Rattle.std.proofs.Common.{◌≡◌, ◌⊎◌, inl, inr, ℕ, ◌+◌, ◌-◌, ◌*◌, ◌%◌, ◌<◌, ◌≤◌, ◌==◌, min, nat_lt, cond, Bool, true, false, List, [], ◌∷◌, length, refl, sym, ap, ◌∙◌, arith}
use Rattle.std.specs.Int.{bit_at}
use Rattle.std.proofs.lemmas.Bool.{lt-ltb, le-ltb, true≢false}
use Rattle.std.proofs.lemmas.Nat.{mod-mul-add}
use Rattle.uw_model.specs.declared.conf.CacheConf.{CacheConf}
use Rattle.uw_model.specs.declared.entries.Entry.{Entry}
use Rattle.uw_model.specs.Entries.{AreApart, IsEntry}
use Rattle.uw_words.specs.declared.shape.Shape.{Shape}
use Rattle.uw_words.specs.Shapes.{IsShape, bit_words, item_head}
use Rattle.uw_words.specs.Texts.{text_words}
use Rattle.uw_words.specs.Plans.{Plan}
use Rattle.uw_words.specs.Parts.{GrewAt, seen}
use Rattle.uw_words.specs.Numbers.{IsNoneOf, IsOneOf}
use Rattle.uw_words.specs.Walks.{link_of}
use Rattle.uw_words.proofs.Growth.{in_row, read_grown}
use Rattle.uw_words.proofs.Links.{item_within, walk_short}
use Rattle.uw_bitmap.specs.Bits.{is_marked, word_of}
use Rattle.uw_recency.specs.Recency.{IsRecency, IsRecencyPlace}
use Rattle.uw_recency.proofs.Lists.{depends}
use Rattle.uw_chains.specs.Chains.{IsChains, IsChainsKeyPlace, IsChainsPlace, item_chain}
use Rattle.uw_chains.proofs.Places.{depend}
use Rattle.uw_items.specs.FreeList.{IsFreeList, IsFreePlace}
use Rattle.uw_items.specs.Items.{key_places}
use Rattle.uw_items.proofs.Held.{key_same, value_same, value_within}
use Rattle.uw_items.proofs.FreeItems.{free_depends}
use Rattle.uw_plan.specs.Parts.{HoldEntries, HoldsEntry, IsHead}
use Rattle.uw_plan.specs.EntrySteps.{GrewInZones, zone_of}
use Rattle.uw_plan.proofs.Shapes.{IsShapeOf, entry_lies}

-- where only words of some zones are written
abbrev pub StaysOff : Shape → (ℕ → Bool) → (ℕ → ℕ) → (ℕ → ℕ) → Type 0
StaysOff shape written before now = (at : ℕ) → written (zone_of shape at) ≡ false → now at ≡ before at

pub none_of : (places : List ℕ) (at : ℕ) → (IsOneOf places at → ⊥) → IsNoneOf places at
none_of [] at off = tt
none_of (first ∷ places) at off = (λ same. off (inl same), none_of places at (λ one. off (inr one)))

pub grown_off : (shape : Shape) (zones : ℕ → Bool) (places : List ℕ) (before now : Plan) (words : List ℕ) → GrewAt places before now
    → ((at : ℕ) → IsOneOf places at → zones (zone_of shape at) ≡ true) → StaysOff shape zones (seen before words) (seen now words)
grown_off shape zones places before now words grew own at off =
    read_grown places before now words at grew (none_of places at (λ one. true≢false (sym (own at one) ∙ off)))

pub zones_off : (shape : Shape) (zones : ℕ → Bool) (most : ℕ) (before now : Plan) (words : List ℕ) → GrewInZones shape zones most before now
    → StaysOff shape zones (seen before words) (seen now words)
zones_off shape zones most before now words grew = grown_off shape zones grew.places before now words grew.grew grew.own

-- the zones of the words of each part
module _ (shape : Shape) (is : IsShape shape) where
  head_short : 16 ≤ shape.chains
  head_short = omega (arith, is.chains, is.bitmap)

  chains_first : shape.chains ≤ shape.items
  chains_first = omega (arith, is.items)

  items_first : shape.items ≤ shape.blocks
  items_first = omega (arith, is.blocks)

  pub fixed_zone : (at : ℕ) → (at < 6) ⊎ ((12 ≤ at) × (at < 16)) → zone_of shape at ≡ 0
  fixed_zone at (inl low) = rw (lt-ltb at 6 low) refl
  fixed_zone at (inr high) =
      let six : 6 ≤ at = omega (arith, high.0) in
      rw (le-ltb at 6 six) (rw (le-ltb at 12 high.0) (rw (lt-ltb at 16 high.1) refl))

  behind_head : (at : ℕ) → 16 ≤ at → zone_of shape at
      ≡ (cond (nat_lt at shape.chains) 16 (cond (nat_lt at shape.items) 17 (cond (nat_lt at shape.blocks) (19 + min 6 ((at - shape.items) % shape.stride)) 18)))
  behind_head at high =
      let six : 6 ≤ at = omega (arith, high) in
      let twelve : 12 ≤ at = omega (arith, high) in
      rw (le-ltb at 6 six) (rw (le-ltb at 12 twelve) (rw (le-ltb at 16 high) refl))

  pub bit_zone : (at : ℕ) → shape.bitmap ≤ at → at < shape.chains → zone_of shape at ≡ 16
  bit_zone at above below =
      let high : 16 ≤ at = omega (arith, above, is.bitmap) in
      behind_head at high ∙ rw (lt-ltb at shape.chains below) refl

  pub chain_zone : (at : ℕ) → shape.chains ≤ at → at < shape.items → zone_of shape at ≡ 17
  chain_zone at above below =
      let high : 16 ≤ at = omega (arith, above, head_short) in
      behind_head at high ∙ rw (le-ltb at shape.chains above) (rw (lt-ltb at shape.items below) refl)

  pub block_zone : (at : ℕ) → shape.blocks ≤ at → zone_of shape at ≡ 18
  block_zone at above =
      let items : shape.items ≤ at = omega (arith, above, items_first) in
      let chains : shape.chains ≤ at = omega (arith, items, chains_first) in
      let high : 16 ≤ at = omega (arith, chains, head_short) in
      behind_head at high ∙ rw (le-ltb at shape.chains chains) (rw (le-ltb at shape.items items) (rw (le-ltb at shape.blocks above) refl))

  pub item_zone : (item field : ℕ) → item < shape.n_items → field < shape.stride → zone_of shape (link_of shape item + field) ≡ 19 + min 6 field
  item_zone item field short small =
      let at = link_of shape item + field in
      let items : shape.items ≤ at = omega arith in
      let chains : shape.chains ≤ at = omega (arith, items, chains_first) in
      let high : 16 ≤ at = omega (arith, chains, head_short) in
      let below : at < shape.blocks = item_within shape is item field short small in
      let inner : at - shape.items ≡ item * shape.stride + field = omega arith in
      behind_head at high ∙ rw (le-ltb at shape.chains chains) (rw (le-ltb at shape.items items) (rw (lt-ltb at shape.blocks below)
      (ap (λ (n : ℕ). 19 + min 6 (n % shape.stride)) inner ∙ ap (λ (n : ℕ). 19 + min 6 n) (mod-mul-add item shape.stride field small))))

  pub key_zone : (item field : ℕ) → item < shape.n_items → 6 ≤ field → field < shape.stride → zone_of shape (link_of shape item + field) ≡ 25
  key_zone item field short big small = item_zone item field short small ∙ (let e : 19 + min 6 field ≡ 25 = omega (arith, big) in e)

  stride_eight : 8 ≤ shape.stride
  stride_eight = omega (arith, is.stride)

  -- a word of an item whose number in the item is this
  pub field_zone : (item field : ℕ) → item < shape.n_items → field < 6 → zone_of shape (link_of shape item + field) ≡ 19 + field
  field_zone item field short small =
      item_zone item field short (omega (arith, small, stride_eight)) ∙ (let e : 19 + min 6 field ≡ 19 + field = omega (arith, small) in e)

  pub chain_head_zone : (chain : ℕ) → chain < shape.n_chains → zone_of shape (shape.chains + chain) ≡ 17
  chain_head_zone chain few = chain_zone (shape.chains + chain) (omega arith) (omega (arith, is.items))

  -- what stays
  module _ (written : ℕ → Bool) (before now : ℕ → ℕ) (stays : StaysOff shape written before now) where
    pub stays_at : (at zone : ℕ) → zone_of shape at ≡ zone → written zone ≡ false → now at ≡ before at
    stays_at at zone here off = stays at (ap written here ∙ off)

    pub head_stays : written 0 ≡ false → IsHead before shape → IsHead now shape
    head_stays off head = record {
      layout = stays_at 0 0 refl off ∙ head.layout;
      items = stays_at 1 0 refl off ∙ head.items;
      blocks = stays_at 2 0 refl off ∙ head.blocks;
      block_words = stays_at 3 0 refl off ∙ head.block_words;
      key_words = stays_at 4 0 refl off ∙ head.key_words;
      chains = stays_at 5 0 refl off ∙ head.chains;
      zeros = λ at above within. stays_at at 0 (fixed_zone at (inr (above, within))) off ∙ head.zeros at above within;
    }

    pub word_stays : (at k : ℕ) → at ≡ shape.head + k → zone_of shape k ≡ k → written k ≡ false → now at ≡ before at
    word_stays at k here zone off = stays_at at k (ap (zone_of shape) (let e : at ≡ k = omega (arith, here, is.head) in e) ∙ zone) off

    pub field_stays : (at item field : ℕ) → at ≡ link_of shape item + field → item < shape.n_items → field < 6 → written (19 + field) ≡ false → now at ≡ before at
    field_stays at item field here short small off = stays_at at (19 + field) (ap (zone_of shape) here ∙ field_zone item field short small) off

    pub key_stays : (at item field : ℕ) → at ≡ link_of shape item + field → item < shape.n_items → 6 ≤ field → field < shape.stride → written 25 ≡ false → now at ≡ before at
    key_stays at item field here short big small off = stays_at at 25 (ap (zone_of shape) here ∙ key_zone item field short big small) off

    pub recency_stays : (items : List ℕ) → written 6 ≡ false → written 7 ≡ false → written 20 ≡ false → written 21 ≡ false → IsRecency before shape items → IsRecency now shape items
    recency_stays items six seven one two held = depends shape items before now (λ at place. here at place) held
      where
        short : (item : ℕ) → IsOneOf items item → item < shape.n_items
        short item among = walk_short shape before 2 items (before (shape.head + 6)) held.walk item among

        here : (at : ℕ) → IsRecencyPlace shape items at → now at ≡ before at
        here at (inl head) = word_stays at 6 head refl six
        here at (inr (inl head)) = word_stays at 7 head refl seven
        here at (inr (inr (item, (among, inl field)))) = field_stays at item 1 field (short item among) (omega arith) one
        here at (inr (inr (item, (among, inr field)))) = field_stays at item 2 field (short item among) (omega arith) two

    pub chains_stay : (chains : ℕ → List ℕ) → written 17 ≡ false → written 19 ≡ false → written 25 ≡ false → IsChains before shape chains → IsChains now shape chains
    chains_stay chains heads links keys held = depend shape chains is before now (λ at place. here at place) held
      where
        short : (chain item : ℕ) → chain < shape.n_chains → IsOneOf (chains chain) item → item < shape.n_items
        short chain item few among = walk_short shape before 0 (chains chain) (before (shape.chains + chain)) (held.walk chain few) item among

        here : (at : ℕ) → IsChainsPlace shape chains at ⊎ IsChainsKeyPlace shape chains at → now at ≡ before at
        here at (inl (inl (chain, (few, head)))) = stays_at at 17 (ap (zone_of shape) head ∙ chain_head_zone chain few) heads
        here at (inl (inr (item, ((chain, (few, among)), link)))) =
            field_stays at item 0 (let e : at ≡ link_of shape item + 0 = omega (arith, link) in e) (short chain item few among) (omega arith) links
        here at (inr (item, field, ((chain, (few, among)), some, small, place))) = key_stays at item field place (short chain item few among) some small keys

    pub free_stays : (items : List ℕ) → written 8 ≡ false → written 21 ≡ false → IsFreeList before shape items → IsFreeList now shape items
    free_stays items eight two held = free_depends shape items before now (λ at place. here at place) held
      where
        short : (item : ℕ) → IsOneOf items item → item < shape.n_items
        short item among = walk_short shape before 2 items (before (shape.head + 8)) held.walk item among

        here : (at : ℕ) → IsFreePlace shape items at → now at ≡ before at
        here at (inl head) = word_stays at 8 head refl eight
        here at (inr (item, (among, field))) = field_stays at item 2 field (short item among) (omega arith) two

    pub mark_stays : (block : ℕ) → block < 64 * bit_words shape.n_blocks → written 16 ≡ false → is_marked now shape block ≡ is_marked before shape block
    mark_stays block short off =
        let place : word_of shape block < shape.chains = omega (arith, is.chains, short) in
        ap (λ (w : ℕ). bit_at w (block % 64) == 1) (stays_at (word_of shape block) 16 (bit_zone (word_of shape block) (omega arith) place) off)

    pub chain_stays : (item : ℕ) → item < shape.n_items → written 25 ≡ false → item_chain now shape item ≡ item_chain before shape item
    chain_stays item short off =
        ap (λ (h : ℕ). h % shape.n_chains) (key_stays (link_of shape item + 7) item 7 refl short (omega arith) (omega (arith, stride_eight)) off)

    pub entry_stays : (conf : CacheConf) → IsShapeOf conf shape → (item : ℕ) (e : Entry) → item < shape.n_items → IsEntry conf e → written 18 ≡ false → written 22 ≡ false → written 23 ≡ false
        → written 24 ≡ false → written 25 ≡ false → HoldsEntry before shape item e → HoldsEntry now shape item e
    entry_stays conf of item e short entry blocks dies first bytes keys holds = record {
      key = key_same shape item e.key before now (λ at one. key_word at one) holds.key;
      fields = record {
        dies = field_stays (link_of shape item + 3) item 3 refl short (omega arith) dies ∙ holds.fields.dies;
        first = field_stays (link_of shape item + 4) item 4 refl short (omega arith) first ∙ holds.fields.first;
        bytes = field_stays (link_of shape item + 5) item 5 refl short (omega arith) bytes ∙ holds.fields.bytes;
      };
      value = value_same shape e.first e.value before now
          (λ at one. stays_at at 18 (block_zone at (value_within shape e.first (length e.value) at is (entry_lies conf shape of e entry) one).0) blocks) holds.value;
      key_bytes = holds.key_bytes;
      value_bytes = holds.value_bytes;
    }
      where
        key_word : (at : ℕ) → IsOneOf (key_places shape item (length e.key)) at → now at ≡ before at
        key_word at (inl here) = key_stays at item 6 (sym here) short (omega arith) (omega (arith, stride_eight)) keys
        key_word at (inr (inl here)) = key_stays at item 7 (sym here) short (omega arith) (omega (arith, stride_eight)) keys
        key_word at (inr (inr later)) =
            let row = in_row (link_of shape item + item_head) (text_words (length e.key)) at later in
            key_stays at item (at - link_of shape item) (omega (arith, row.0)) short (omega (arith, row.0)) (omega (arith, row.0, row.1, is.stride, holds.key.fits)) keys

    pub entries_stay : (conf : CacheConf) → IsShapeOf conf shape → (items : List ℕ) (list : List Entry) → ((item : ℕ) → IsOneOf items item → item < shape.n_items) → AreApart conf list
        → written 18 ≡ false → written 22 ≡ false → written 23 ≡ false → written 24 ≡ false → written 25 ≡ false → HoldEntries before shape items list → HoldEntries now shape items list
    entries_stay conf of [] [] short apart blocks dies first bytes keys holds = tt
    entries_stay conf of [] (e ∷ list) short apart blocks dies first bytes keys holds = absurd holds
    entries_stay conf of (item ∷ items) [] short apart blocks dies first bytes keys holds = absurd holds
    entries_stay conf of (item ∷ items) (e ∷ list) short apart blocks dies first bytes keys holds = (
      entry_stays conf of item e (short item (inl refl)) apart.0 blocks dies first bytes keys holds.0,
      entries_stay conf of items list (λ i one. short i (inr one)) apart.2 blocks dies first bytes keys holds.1,
    )
