-- What an item holds, and the places of it.
use Rattle.std.proofs.Common.{◌≡◌, inl, inr, ℕ, ◌+◌, ◌*◌, ◌-◌, ◌<◌, ◌≤◌, List, [], ◌∷◌, length, refl, sym, ap, ◌∙◌, subst, arith}
use Rattle.std.specs.List.{All}
use Rattle.uw_base.specs.Numbers.{djb33x_of}
use Rattle.uw_words.specs.declared.shape.Shape.{Shape}
use Rattle.uw_words.specs.Shapes.{IsShape, item_head}
use Rattle.uw_words.specs.Plans.{Plan, region}
use Rattle.uw_words.specs.Numbers.{IsOneOf, IsNoneOf}
use Rattle.uw_words.specs.Parts.{seen, AgreeOn, HasRoom, GrewAt}
use Rattle.uw_words.specs.Walks.{link_of, item_word}
use Rattle.uw_words.specs.Records.{HoldsKey}
use Rattle.uw_words.specs.Texts.{HoldsText, text_words, places_of_text, text_at}
use Rattle.uw_words.proofs.Growth.{put_on, puts_on, grew_puts, grew_then, read_put, read_other, read_grown, in_row, none_before, row_length}
use Rattle.uw_words.proofs.Links.{link_above, item_within, same_item}
use Rattle.uw_words.proofs.Copies.{held_text, text_same}
use Rattle.uw_items.specs.declared.records.Fields.{Fields}
use Rattle.uw_items.specs.Items.{block_place, LieInBlocks, held_key, key_places, HoldsValue, held_value, value_places, HoldsFields, field_places, IsRecordPlace}
use Rattle.uw_items.specs.FreeList.{IsFreePlace}

-- the end of an item is within the region
pub item_end : (shape : Shape) → IsShape shape → (item : ℕ) → item < shape.n_items → link_of shape item + shape.stride ≤ shape.blocks
item_end shape is item short = omega (arith, item_within shape is item (shape.stride - 1) short (omega (arith, is.stride)), is.stride)

-- the three words of the fields are put
module _ (shape : Shape) (plan one two now : Plan) (item link x y z : ℕ) (link_is : link ≡ link_of shape item) where
  fields_are : field_places shape item ≡ (link + 3) ∷ (link + 4) ∷ (link + 5) ∷ []
  fields_are = ap (λ (l : ℕ). (l + 3) ∷ (l + 4) ∷ (l + 5) ∷ []) (sym link_is)

  pub fields_room : HasRoom plan (field_places shape item) → HasRoom plan ((link + 3) ∷ (link + 4) ∷ (link + 5) ∷ [])
  fields_room room = subst (HasRoom plan) fields_are room

  module _ (put_one : one ≡ put_on plan (link + 3) x) (put_two : two ≡ put_on one (link + 4) y) (put_three : now ≡ put_on two (link + 5) z) where
    pub fields_grew : GrewAt (field_places shape item) plan now
    fields_grew =
        let all : now ≡ puts_on plan ((link + 3, x) ∷ (link + 4, y) ∷ (link + 5, z) ∷ []) =
        put_three ∙ ap (λ (p : Plan). put_on p (link + 5) z) (put_two ∙ ap (λ (p : Plan). put_on p (link + 4) y) put_one) in
        subst (λ (places : List ℕ). GrewAt places plan now) (sym fields_are)
        (subst (GrewAt ((link + 3) ∷ (link + 4) ∷ (link + 5) ∷ []) plan) (sym all) (grew_puts plan ((link + 3, x) ∷ (link + 4, y) ∷ (link + 5, z) ∷ [])))

    last_read : (words : List ℕ) → seen now words (link + 5) ≡ z
    last_read words = ap (λ (p : Plan). seen p words (link + 5)) put_three ∙ read_put two.writes (region words) (link + 5) z

    mid_read : (words : List ℕ) → seen now words (link + 4) ≡ y
    mid_read words =
        ap (λ (p : Plan). seen p words (link + 4)) put_three ∙ read_other two.writes (region words) (link + 5) z (link + 4) (λ same. absurd (omega (arith, same)))
        ∙ ap (λ (p : Plan). seen p words (link + 4)) put_two
        ∙ read_put one.writes (region words) (link + 4) y

    first_read : (words : List ℕ) → seen now words (link + 3) ≡ x
    first_read words =
        ap (λ (p : Plan). seen p words (link + 3)) put_three ∙ read_other two.writes (region words) (link + 5) z (link + 3) (λ same. absurd (omega (arith, same)))
        ∙ ap (λ (p : Plan). seen p words (link + 3)) put_two
        ∙ read_other one.writes (region words) (link + 4) y (link + 3) (λ same. absurd (omega (arith, same)))
        ∙ ap (λ (p : Plan). seen p words (link + 3)) put_one
        ∙ read_put plan.writes (region words) (link + 3) x

    pub fields_hold : (words : List ℕ) (fields : Fields) → x ≡ fields.dies → y ≡ fields.first → z ≡ fields.length → HoldsFields (seen now words) shape item fields
    fields_hold words fields dies first bytes = record {
      dies = ap (λ (l : ℕ). seen now words (l + 3)) (sym link_is) ∙ first_read words ∙ dies;
      first = ap (λ (l : ℕ). seen now words (l + 4)) (sym link_is) ∙ mid_read words ∙ first;
      bytes = ap (λ (l : ℕ). seen now words (l + 5)) (sym link_is) ∙ last_read words ∙ bytes;
    }

-- the words of a key are put
module _ (shape : Shape) (plan one two now : Plan) (item link hash : ℕ) (key : List ℕ) (link_is : link ≡ link_of shape item) where
  key_are : key_places shape item (length key) ≡ (link + 6) ∷ (link + 7) ∷ places_of_text (link + item_head) (length key)
  key_are = ap (λ (l : ℕ). (l + 6) ∷ (l + 7) ∷ places_of_text (l + item_head) (length key)) (sym link_is)

  pub key_room : HasRoom plan (key_places shape item (length key)) → HasRoom plan ((link + 6) ∷ (link + 7) ∷ places_of_text (link + item_head) (length key))
  key_room room = subst (HasRoom plan) key_are room

  module _ (put_one : one ≡ put_on plan (link + 6) (length key)) (put_two : two ≡ put_on one (link + 7) hash)
      (grew : GrewAt (places_of_text (link + item_head) (length key)) two now) where
    pub key_grew : GrewAt (key_places shape item (length key)) plan now
    key_grew =
        let all : two ≡ puts_on plan ((link + 6, length key) ∷ (link + 7, hash) ∷ []) = put_two ∙ ap (λ (p : Plan). put_on p (link + 7) hash) put_one in
        subst (λ (places : List ℕ). GrewAt places plan now) (sym key_are)
        (grew_then ((link + 6) ∷ (link + 7) ∷ []) (places_of_text (link + item_head) (length key)) plan two now
        (subst (GrewAt ((link + 6) ∷ (link + 7) ∷ []) plan) (sym all) (grew_puts plan ((link + 6, length key) ∷ (link + 7, hash) ∷ []))) grew)

    len_read : (words : List ℕ) → seen now words (link + 6) ≡ length key
    len_read words =
        read_grown (places_of_text (link + item_head) (length key)) two now words (link + 6) grew (none_before (link + item_head) (text_words (length key)) (link + 6) (omega arith))
        ∙ ap (λ (p : Plan). seen p words (link + 6)) put_two
        ∙ read_other one.writes (region words) (link + 7) hash (link + 6) (λ same. absurd (omega (arith, same)))
        ∙ ap (λ (p : Plan). seen p words (link + 6)) put_one
        ∙ read_put plan.writes (region words) (link + 6) (length key)

    hash_read : (words : List ℕ) → seen now words (link + 7) ≡ hash
    hash_read words =
        read_grown (places_of_text (link + item_head) (length key)) two now words (link + 7) grew (none_before (link + item_head) (text_words (length key)) (link + 7) (omega arith))
        ∙ ap (λ (p : Plan). seen p words (link + 7)) put_two
        ∙ read_put one.writes (region words) (link + 7) hash

    pub key_holds : hash ≡ djb33x_of key → length key ≤ 8 * shape.key_words → ((words : List ℕ) → HoldsText (seen now words) (link + item_head) key) → (words : List ℕ)
        → HoldsKey (seen now words) shape item key
    key_holds hash_is fits holds words = record {
      len = ap (λ (l : ℕ). seen now words (l + 6)) (sym link_is) ∙ len_read words;
      hash = ap (λ (l : ℕ). seen now words (l + 7)) (sym link_is) ∙ hash_read words ∙ hash_is;
      fits = fits;
      text = subst (λ (l : ℕ). HoldsText (seen now words) (l + item_head) key) link_is (holds words);
    }

-- what is read back
pub key_back : (shape : Shape) (reader : ℕ → ℕ) (item : ℕ) (key : List ℕ) → All (λ byte. byte < 256) key → HoldsKey reader shape item key → held_key reader shape item ≡ key
key_back shape reader item key small holds =
    ap (text_at reader (link_of shape item + item_head)) holds.len ∙ held_text reader (link_of shape item + item_head) key small holds.text

pub value_back : (shape : Shape) (reader : ℕ → ℕ) (item : ℕ) (fields : Fields) (value : List ℕ) → All (λ byte. byte < 256) value → HoldsFields reader shape item fields
    → fields.length ≡ length value → HoldsValue reader shape fields.first value → held_value reader shape item ≡ value
value_back shape reader item fields value small fielded len holds =
    ap (λ (first : ℕ). text_at reader (block_place shape first) (item_word reader shape item 5)) fielded.first
    ∙ ap (text_at reader (block_place shape fields.first)) (fielded.bytes ∙ len)
    ∙ held_text reader (block_place shape fields.first) value small holds

-- on what they depend
pub key_same : (shape : Shape) (item : ℕ) (key : List ℕ) (before now : ℕ → ℕ) → AgreeOn (IsOneOf (key_places shape item (length key))) before now → HoldsKey before shape item key
    → HoldsKey now shape item key
key_same shape item key before now agree holds = record {
  len = agree (link_of shape item + 6) (inl refl) ∙ holds.len;
  hash = agree (link_of shape item + 7) (inr (inl refl)) ∙ holds.hash;
  fits = holds.fits;
  text = text_same (link_of shape item + item_head) key before now (λ at one. agree at (inr (inr one))) holds.text;
}

pub value_same : (shape : Shape) (first : ℕ) (value : List ℕ) (before now : ℕ → ℕ) → AgreeOn (IsOneOf (value_places shape first (length value))) before now → HoldsValue before shape first value
    → HoldsValue now shape first value
value_same shape first value before now agree holds = text_same (block_place shape first) value before now agree holds

-- where they stand
pub key_own : (shape : Shape) (item bytes at : ℕ) → IsShape shape → bytes ≤ 8 * shape.key_words → IsOneOf (key_places shape item bytes) at → IsRecordPlace shape item at
key_own shape item bytes at is fits (inl here) = (6, (omega arith, omega (arith, is.stride), sym here))
key_own shape item bytes at is fits (inr (inl here)) = (7, (omega arith, omega (arith, is.stride), sym here))
key_own shape item bytes at is fits (inr (inr later)) =
    let row = in_row (link_of shape item + item_head) (text_words bytes) at later in
    (at - link_of shape item, (omega (arith, row.0), omega (arith, row.0, row.1, is.stride, fits), omega (arith, row.0)))

pub value_run : (shape : Shape) (first blocks bytes at : ℕ) → bytes ≤ 8 * (blocks * shape.block_words) → IsOneOf (value_places shape first bytes) at
    → (block_place shape first ≤ at) × (at < block_place shape (first + blocks))
value_run shape first blocks bytes at fits one =
    let row = in_row (block_place shape first) (text_words bytes) at one in
    (row.0, omega (arith, row.1, fits))

pub value_within : (shape : Shape) (first bytes at : ℕ) → IsShape shape → LieInBlocks shape first bytes → IsOneOf (value_places shape first bytes) at → (shape.blocks ≤ at) × (at < shape.intent)
value_within shape first bytes at is lie one =
    let row = in_row (block_place shape first) (text_words bytes) at one in
    (omega (arith, row.0), omega (arith, row.1, lie, is.intent))

-- where they do not stand, and how many they are
pub fields_off_key : (shape : Shape) (item bytes at : ℕ) → IsOneOf (field_places shape item) at → IsNoneOf (key_places shape item bytes) at
fields_off_key shape item bytes at one =
    let low : at < link_of shape item + 6 = before one in
    ((λ same. absurd (omega (arith, same, low))), ((λ same. absurd (omega (arith, same, low))), none_before (link_of shape item + item_head) (text_words bytes) at (omega (arith, low))))
  where
    before : IsOneOf (field_places shape item) at → at < link_of shape item + 6
    before (inl here) = omega (arith, here)
    before (inr (inl here)) = omega (arith, here)
    before (inr (inr (inl here))) = omega (arith, here)
    before (inr (inr (inr none))) = absurd none

pub key_count : (shape : Shape) (item bytes : ℕ) → length (key_places shape item bytes) ≡ 2 + text_words bytes
key_count shape item bytes = omega (arith, row_length (link_of shape item + item_head) (text_words bytes))

pub value_count : (shape : Shape) (first bytes : ℕ) → length (value_places shape first bytes) ≡ text_words bytes
value_count shape first bytes = row_length (block_place shape first) (text_words bytes)

pub words_within : (shape : Shape) (item at : ℕ) → IsShape shape → item < shape.n_items → IsRecordPlace shape item at → (shape.items ≤ at) × (at < shape.blocks)
words_within shape item at is short (field, (high, low, here)) = (omega (arith, here), omega (arith, here, item_within shape is item field short low))

pub words_off_free : (shape : Shape) (items : List ℕ) (item at : ℕ) → IsShape shape → IsRecordPlace shape item at → IsFreePlace shape items at → ⊥
words_off_free shape items item at is (field, (high, low, here)) (inl head) = omega (arith, here, head, is.head, link_above shape is item)
words_off_free shape items item at is (field, (high, low, here)) (inr (other, (one, there))) =
    let same : item ≡ other = same_item shape is item other field 2 low (omega (arith, is.stride)) (sym here ∙ there) in
    let link : link_of shape item ≡ link_of shape other = ap (link_of shape) same in
    omega (arith, here, there, link, high)
