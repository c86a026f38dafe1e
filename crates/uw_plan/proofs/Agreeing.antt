-- Words agree with one list at most, and still agree where the words below the redo record stay.
use Rattle.std.proofs.Common.{◌≡◌, ◌≢◌, ◌⊎◌, inl, inr, ℕ, ◌+◌, ◌*◌, ◌/◌, ◌%◌, ◌<◌, ◌≤◌, ◌==◌, List, [], ◌∷◌, length, refl, sym, ap, ◌∙◌, subst, arith}
use Rattle.std.specs.Int.{bit_at}
use Rattle.uw_model.specs.declared.conf.CacheConf.{CacheConf}
use Rattle.uw_model.specs.declared.entries.Entry.{Entry}
use Rattle.uw_model.specs.Entries.{AreApart, IsCacheConf, IsEntry}
use Rattle.uw_words.specs.declared.shape.Shape.{Shape}
use Rattle.uw_words.specs.Shapes.{IsShape}
use Rattle.uw_words.specs.Plans.{region}
use Rattle.uw_words.specs.Numbers.{IsOneOf}
use Rattle.uw_words.specs.Walks.{link_of}
use Rattle.uw_words.proofs.Links.{item_within, link_above, walk_short}
use Rattle.uw_intent.specs.Standing.{IsLocal}
use Rattle.uw_bitmap.specs.Bits.{is_marked, word_of}
use Rattle.uw_recency.specs.Recency.{IsRecencyPlace}
use Rattle.uw_recency.proofs.Lists.{depends, one_list}
use Rattle.uw_chains.specs.Chains.{IsChainsKeyPlace, IsChainsPlace, item_chain}
use Rattle.uw_chains.proofs.Places.{depend}
use Rattle.uw_items.specs.FreeList.{IsFreePlace}
use Rattle.uw_items.proofs.Held.{key_back, key_own, key_same, value_back, value_same, value_within, words_within}
use Rattle.uw_items.proofs.FreeItems.{free_depends}
use Rattle.uw_plan.specs.Regions.{shape_of}
use Rattle.uw_plan.specs.Parts.{HoldEntries, HoldsEntry, HoldsParts, Parts}
use Rattle.uw_plan.specs.Agreement.{Agrees, AgreesAs}
use Rattle.uw_plan.specs.CacheKind.{cache_kind}
use Rattle.uw_plan.proofs.Shapes.{IsShapeOf, entry_lies, shape_of_conf}

-- an item holds one entry at most
pub entry_once : (reader : ℕ → ℕ) (shape : Shape) (item : ℕ) (e o : Entry) → HoldsEntry reader shape item e → HoldsEntry reader shape item o → e ≡ o
entry_once reader shape item e o one two =
    let key : e.key ≡ o.key = sym (key_back shape reader item e.key one.key_bytes one.key) ∙ key_back shape reader item o.key two.key_bytes two.key in
    let value : e.value ≡ o.value =
    sym (value_back shape reader item record { dies = e.dies; first = e.first; length = length e.value } e.value one.value_bytes one.fields refl one.value)
    ∙ value_back shape reader item record { dies = o.dies; first = o.first; length = length o.value } o.value two.value_bytes two.fields refl two.value in
    let dies : e.dies ≡ o.dies = sym one.fields.dies ∙ two.fields.dies in
    let first : e.first ≡ o.first = sym one.fields.first ∙ two.fields.first in
    ap (λ (k : List ℕ). of k e.value e.dies e.first) key ∙ ap (λ (v : List ℕ). of o.key v e.dies e.first) value
    ∙ ap (λ (d : ℕ). of o.key o.value d e.first) dies
    ∙ ap (of o.key o.value o.dies) first
  where
    of : List ℕ → List ℕ → ℕ → ℕ → Entry
    of key value dies first = record { key = key; value = value; dies = dies; first = first }

pub entries_once : (reader : ℕ → ℕ) (shape : Shape) (items : List ℕ) (list other : List Entry) → HoldEntries reader shape items list → HoldEntries reader shape items other
    → list ≡ other
entries_once reader shape [] [] [] one two = refl
entries_once reader shape [] [] (o ∷ other) one two = absurd two
entries_once reader shape [] (e ∷ list) other one two = absurd one
entries_once reader shape (item ∷ items) [] other one two = absurd one
entries_once reader shape (item ∷ items) (e ∷ list) [] one two = absurd two
entries_once reader shape (item ∷ items) (e ∷ list) (o ∷ other) one two =
    ap (λ (x : Entry). x ∷ list) (entry_once reader shape item e o one.0 two.0) ∙ ap (λ (l : List Entry). o ∷ l) (entries_once reader shape items list other one.1 two.1)

pub list_once : (conf : CacheConf) (words : List ℕ) (list other : List Entry) → IsCacheConf conf → Agrees conf words list → Agrees conf words other → list ≡ other
list_once conf words list other is one two =
    let shape = shape_of conf in
    let reader = region words in
    let items : one.items ≡ two.items =
    sym one.agrees.is ∙ one_list shape reader one.agrees.parts.items two.agrees.parts.items (shape_of_conf conf is).is one.agrees.held.recency two.agrees.held.recency ∙ two.agrees.is in
    entries_once reader shape two.items list other (subst (λ (l : List ℕ). HoldEntries reader shape l list) items one.agrees.entries) two.agrees.entries

-- the words below the redo record stay, but for the gate and the used word
abbrev pub StaysBelow : Shape → (ℕ → ℕ) → (ℕ → ℕ) → Type 0
StaysBelow shape before now = (at : ℕ) → at < shape.intent → at ≢ 10 → at ≢ 11 → now at ≡ before at

module _ (conf : CacheConf) (shape : Shape) (of : IsShapeOf conf shape) (before now : ℕ → ℕ) (stays : StaysBelow shape before now) where
  is : IsShape shape
  is = of.is

  blocks_behind : shape.blocks ≤ shape.intent
  blocks_behind = omega (arith, is.intent)

  chains_behind : (chain : ℕ) → chain < shape.n_chains → shape.chains + chain < shape.items
  chains_behind chain short = omega (arith, is.items)

  items_behind : shape.items ≤ shape.intent
  items_behind = omega (arith, is.blocks, blocks_behind)

  high : (at : ℕ) → 12 ≤ at → at < shape.intent → now at ≡ before at
  high at above within = stays at within (λ same. omega (arith, same)) (λ same. omega (arith, same))

  head_short : 16 ≤ shape.chains
  head_short = omega (arith, is.chains, is.bitmap)

  low : (at : ℕ) → at < 10 → now at ≡ before at
  low at small = stays at (omega (arith, head_short, is.items, items_behind)) (λ same. omega (arith, same)) (λ same. omega (arith, same))

  of_item : (item field : ℕ) → item < shape.n_items → field < shape.stride → now (link_of shape item + field) ≡ before (link_of shape item + field)
  of_item item field short small = high (link_of shape item + field) (omega (arith, link_above shape is item)) (omega (arith, item_within shape is item field short small, blocks_behind))

  head_place : (at n : ℕ) → at ≡ shape.head + n → n < 10 → now at ≡ before at
  head_place at n here small = low at (omega (arith, here, is.head, small))

  stride_eight : 8 ≤ shape.stride
  stride_eight = omega (arith, is.stride)

  bits_stay : (block : ℕ) → block < 64 * ((shape.n_blocks + 63) / 64) → is_marked now shape block ≡ is_marked before shape block
  bits_stay block short =
      ap (λ (w : ℕ). bit_at w (block % 64) == 1)
      (high (word_of shape block) (omega (arith, is.bitmap)) (omega (arith, is.bitmap, is.chains, is.items, items_behind, short)))

  entry_stays : (item : ℕ) (e : Entry) → item < shape.n_items → IsEntry conf e → HoldsEntry before shape item e → HoldsEntry now shape item e
  entry_stays item e short entry holds = record {
    key = key_same shape item e.key before now (λ at one.
        let place = key_own shape item (length e.key) at is holds.key.fits one in
        let there = words_within shape item at is short place in
        high at (omega (arith, there.0, is.items, is.chains, is.bitmap)) (omega (arith, there.1, blocks_behind)))
        holds.key;
    fields = record {
      dies = of_item item 3 short (omega (arith, stride_eight)) ∙ holds.fields.dies;
      first = of_item item 4 short (omega (arith, stride_eight)) ∙ holds.fields.first;
      bytes = of_item item 5 short (omega (arith, stride_eight)) ∙ holds.fields.bytes;
    };
    value = value_same shape e.first e.value before now (λ at one.
        let there = value_within shape e.first (length e.value) at is (entry_lies conf shape of e entry) one in
        high at (omega (arith, there.0, is.blocks, is.items, is.chains, is.bitmap)) there.1)
        holds.value;
    key_bytes = holds.key_bytes;
    value_bytes = holds.value_bytes;
  }

  entries_stay : (items : List ℕ) (list : List Entry) → ((item : ℕ) → IsOneOf items item → item < shape.n_items) → AreApart conf list → HoldEntries before shape items list
      → HoldEntries now shape items list
  entries_stay [] [] short apart holds = tt
  entries_stay [] (e ∷ list) short apart holds = absurd holds
  entries_stay (item ∷ items) [] short apart holds = absurd holds
  entries_stay (item ∷ items) (e ∷ list) short apart holds = (
    entry_stays item e (short item (inl refl)) apart.0 holds.0,
    entries_stay items list (λ i one. short i (inr one)) apart.2 holds.1,
  )

  parts_stay : (parts : Parts) → HoldsParts before shape parts → HoldsParts now shape parts
  parts_stay parts held =
      let recent : (item : ℕ) → IsOneOf parts.items item → item < shape.n_items = walk_short shape before 2 parts.items (before (shape.head + 6)) held.recency.walk in
      let unused : (item : ℕ) → IsOneOf parts.free item → item < shape.n_items = walk_short shape before 2 parts.free (before (shape.head + 8)) held.free.walk in
      let chained : (chain item : ℕ) → chain < shape.n_chains → IsOneOf (parts.chains chain) item → item < shape.n_items =
      λ chain item short one. walk_short shape before 0 (parts.chains chain) (before (shape.chains + chain)) (held.chains.walk chain short) item one in
      record {
        head = record {
          layout = low 0 (omega arith) ∙ held.head.layout;
          items = low 1 (omega arith) ∙ held.head.items;
          blocks = low 2 (omega arith) ∙ held.head.blocks;
          block_words = low 3 (omega arith) ∙ held.head.block_words;
          key_words = low 4 (omega arith) ∙ held.head.key_words;
          chains = low 5 (omega arith) ∙ held.head.chains;
          zeros = λ at above within. high at above (omega (arith, within, head_short, is.items, items_behind)) ∙ held.head.zeros at above within;
        };
        count = low 9 (omega arith) ∙ held.count;
        recency = depends shape parts.items before now (λ at place. recency_place parts.items recent at place) held.recency;
        chains = depend shape parts.chains is before now (λ at place. chains_place parts.chains chained at place) held.chains;
        free = free_depends shape parts.free before now (λ at place. free_place parts.free unused at place) held.free;
        bits = λ block short. bits_stay block short ∙ held.bits block short;
      }
    where
      recency_place : (items : List ℕ) → ((item : ℕ) → IsOneOf items item → item < shape.n_items) → (at : ℕ) → IsRecencyPlace shape items at → now at ≡ before at
      recency_place items short at (inl here) = head_place at 6 here (omega arith)
      recency_place items short at (inr (inl here)) = head_place at 7 here (omega arith)
      recency_place items short at (inr (inr (item, (one, inl here)))) =
          subst (λ (p : ℕ). now p ≡ before p) (sym here) (of_item item 1 (short item one) (omega (arith, stride_eight)))
      recency_place items short at (inr (inr (item, (one, inr here)))) =
          subst (λ (p : ℕ). now p ≡ before p) (sym here) (of_item item 2 (short item one) (omega (arith, stride_eight)))

      free_place : (items : List ℕ) → ((item : ℕ) → IsOneOf items item → item < shape.n_items) → (at : ℕ) → IsFreePlace shape items at → now at ≡ before at
      free_place items short at (inl here) = head_place at 8 here (omega arith)
      free_place items short at (inr (item, (one, here))) =
          subst (λ (p : ℕ). now p ≡ before p) (sym here) (of_item item 2 (short item one) (omega (arith, stride_eight)))

      chains_place : (chains : ℕ → List ℕ) → ((chain item : ℕ) → chain < shape.n_chains → IsOneOf (chains chain) item → item < shape.n_items) → (at : ℕ)
          → IsChainsPlace shape chains at ⊎ IsChainsKeyPlace shape chains at
          → now at ≡ before at
      chains_place chains short at (inl (inl (chain, (few, here)))) =
          high at (omega (arith, here, head_short)) (omega (arith, here, chains_behind chain few, items_behind))
      chains_place chains short at (inl (inr (item, ((chain, (few, one)), here)))) =
          subst (λ (p : ℕ). now p ≡ before p) (let e : link_of shape item + 0 ≡ at = omega (arith, here) in e)
          (of_item item 0 (short chain item few one) (omega (arith, stride_eight)))
      chains_place chains short at (inr (item, field, ((chain, (few, one)), some, small, here))) =
          subst (λ (p : ℕ). now p ≡ before p) (sym here) (of_item item field (short chain item few one) small)

  pub agreement_stays : (items : List ℕ) (list : List Entry) → AgreesAs before shape conf items list → AgreesAs now shape conf items list
  agreement_stays items list agrees =
      let short : (item : ℕ) → IsOneOf items item → item < shape.n_items =
      λ item one. walk_short shape before 2 agrees.parts.items (before (shape.head + 6)) agrees.held.recency.walk item (subst (λ (l : List ℕ). IsOneOf l item) (sym agrees.is) one) in
      record {
        parts = agrees.parts;
        is = agrees.is;
        held = parts_stay agrees.parts agrees.held;
        fits = agrees.fits;
        entries = entries_stay items list short agrees.fits.state.apart agrees.entries;
        chained = λ item one.
            let same : item_chain now shape item ≡ item_chain before shape item = ap (λ (h : ℕ). h % shape.n_chains) (of_item item 7 (short item one) (omega (arith, stride_eight))) in
            subst (λ (c : ℕ). IsOneOf (agrees.parts.chains c) item) (sym same) (agrees.chained item one);
      }

pub regions_local : (conf : CacheConf) → IsCacheConf conf → IsLocal (cache_kind conf)
regions_local conf is =
    let shape = shape_of conf in
    let of = shape_of_conf conf is in
    record {
      frame = λ words list agrees. record { gate = refl; used = refl; start = omega (arith, of.is.intent, of.is.blocks, of.is.items, of.is.chains, of.is.bitmap); within = omega (arith, agrees.len) };
      gate = λ words list agrees. agrees.closed;
      same = λ words now list len gate same agrees. record {
        len = len ∙ agrees.len;
        closed = gate;
        items = agrees.items;
        agrees = agreement_stays conf shape of (region words) (region now)
            (λ at within gate used. same at record { outside = inl within; gate = gate; used = used }) agrees.items list agrees.agrees;
      };
    }
