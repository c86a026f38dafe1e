-- Bytes in the words of a region: how one is read, and a slice of them.
use Rattle.std.proofs.Common.{◌≡◌, inl, inr, ℕ, zero, suc, ◌+◌, ◌*◌, ◌-◌, ◌/◌, ◌%◌, ◌<◌, ◌≤◌, All, List, [], ◌∷◌, ◌++◌, length, take, drop, get_or}
use Rattle.std.proofs.Common.{refl, sym, ap, ◌∙◌, subst, arith, length-append, length-drop}
use Rattle.std.specs.Int.{w64, from_le_bytes, to_le_bytes}
use Rattle.std.specs.List.{slice_range, splice}
use Rattle.std.proofs.lemmas.Bool.{cases_lt}
use Rattle.std.proofs.lemmas.Nat.{le_bytes_8}
use Rattle.std.proofs.lemmas.List.{get_or-take, get_or-drop, get_or_append_left, get_or-append_right, length-take-le, ext_get_or, append-nil, drop-append-le}
use Rattle.uw_words.specs.Texts.{text_word, HoldsText, word_bytes}
use Rattle.uw_words.proofs.Copies.{words_more}
use Rattle.uw_model.proofs.AreaLemmas.{spliced_read, spliced_before, spliced_behind}

-- ---- words of eight bytes

-- bytes past the end are 0
past : (bytes : List ℕ) (k : ℕ) → length bytes ≤ k → get_or bytes k 0 ≡ 0
past [] k long = refl
past (first ∷ bytes) zero long = absurd (omega arith)
past (first ∷ bytes) (suc k) long = past bytes k (omega arith)

pub byte_small : (bytes : List ℕ) → All (λ byte. byte < 256) bytes → (k : ℕ) → get_or bytes k 0 < 256
byte_small bytes all k = elim (cases_lt k (length bytes)) [
  | inl short ↦ all k 0 short
  | inr long ↦ omega (arith, past bytes k long)
]

-- the first eight bytes of a text, 0 for those past its end
abbrev first_eight : List ℕ → List ℕ
first_eight text =
    get_or text 0 0 ∷ get_or text 1 0 ∷ get_or text 2 0 ∷ get_or text 3 0 ∷ get_or text 4 0 ∷ get_or text 5 0 ∷ get_or text 6 0 ∷ get_or text 7 0 ∷ []

eight_read : (text : List ℕ) (i : ℕ) → i < 8 → get_or (first_eight text) i 0 ≡ get_or text i 0
eight_read text zero h = refl
eight_read text (suc zero) h = refl
eight_read text (suc (suc zero)) h = refl
eight_read text (suc (suc (suc zero))) h = refl
eight_read text (suc (suc (suc (suc zero)))) h = refl
eight_read text (suc (suc (suc (suc (suc zero))))) h = refl
eight_read text (suc (suc (suc (suc (suc (suc zero)))))) h = refl
eight_read text (suc (suc (suc (suc (suc (suc (suc zero))))))) h = refl
eight_read text (suc (suc (suc (suc (suc (suc (suc (suc i)))))))) h = absurd (omega arith)

eight_small : (text : List ℕ) → ((k : ℕ) → get_or text k 0 < 256) → (k : ℕ) → get_or (first_eight text) k 0 < 256
eight_small text small k = elim (cases_lt k 8) [
  | inl short ↦ omega (arith, eight_read text k short, small k)
  | inr long ↦ omega (arith, past (first_eight text) k long)
]

-- a byte of a word of bytes
pub word_byte : (bytes : List ℕ) → All (λ byte. byte < 256) bytes → (k i : ℕ) → i < 8
    → get_or (to_le_bytes w64 (text_word bytes k)) i 0 ≡ get_or bytes (8 * k + i) 0
word_byte bytes all k i within =
    let text = drop (8 * k) bytes in
    let small : (j : ℕ) → get_or text j 0 < 256 = λ j. subst (λ (b : ℕ). b < 256) (sym (get_or-drop (8 * k) bytes j 0)) (byte_small bytes all (8 * k + j)) in
    let same : to_le_bytes w64 (text_word bytes k) ≡ first_eight text = le_bytes_8 (first_eight text) (text_word bytes k) refl (eight_small text small) refl in
    ap (λ (l : List ℕ). get_or l i 0) same ∙ eight_read text i within ∙ get_or-drop (8 * k) bytes i 0

-- eight bytes are a word of bytes
pub word_of_eight : (bytes : List ℕ) (k : ℕ) (text : List ℕ) → ((i : ℕ) → i < 8 → get_or text i 0 ≡ get_or bytes (8 * k + i) 0)
    → from_le_bytes w64 text ≡ text_word bytes k
word_of_eight bytes k text same = omega (
  arith,
  at 0 (omega arith),
  at 1 (omega arith),
  at 2 (omega arith),
  at 3 (omega arith),
  at 4 (omega arith),
  at 5
      (omega arith),
  at 6 (omega arith),
  at 7 (omega arith),
)
  where
    at : (i : ℕ) → i < 8 → get_or text i 0 ≡ get_or (drop (8 * k) bytes) i 0
    at i h = same i h ∙ sym (get_or-drop (8 * k) bytes i 0)

pub word_of_bytes : (bytes : List ℕ) (k b0 b1 b2 b3 b4 b5 b6 b7 : ℕ) → b0 ≡ get_or bytes (8 * k) 0 → b1 ≡ get_or bytes (8 * k + 1) 0
    → b2 ≡ get_or bytes (8 * k + 2) 0
    → b3 ≡ get_or bytes (8 * k + 3) 0 → b4 ≡ get_or bytes (8 * k + 4) 0 → b5 ≡ get_or bytes (8 * k + 5) 0 → b6 ≡ get_or bytes (8 * k + 6) 0
    → b7 ≡ get_or bytes (8 * k + 7) 0
    → from_le_bytes w64 (b0 ∷ b1 ∷ b2 ∷ b3 ∷ b4 ∷ b5 ∷ b6 ∷ b7 ∷ []) ≡ text_word bytes k
word_of_bytes bytes k b0 b1 b2 b3 b4 b5 b6 b7 e0 e1 e2 e3 e4 e5 e6 e7 = omega (
  arith,
  e0 ∙ ap (λ (n : ℕ). get_or bytes n 0) here ∙ at 0,
  e1 ∙ at 1,
  e2
      ∙ at 2,
  e3 ∙ at 3,
  e4 ∙ at 4,
  e5 ∙ at 5,
  e6 ∙ at 6,
  e7 ∙ at 7,
)
  where
    here : 8 * k ≡ 8 * k + 0
    here = omega arith

    at : (i : ℕ) → get_or bytes (8 * k + i) 0 ≡ get_or (drop (8 * k) bytes) i 0
    at i = sym (get_or-drop (8 * k) bytes i 0)

pub word_same : (bytes other : List ℕ) (k : ℕ) → ((i : ℕ) → i < 8 → get_or bytes (8 * k + i) 0 ≡ get_or other (8 * k + i) 0)
    → text_word bytes k ≡ text_word other k
word_same bytes other k same = word_of_eight other k (drop (8 * k) bytes) (λ i h. get_or-drop (8 * k) bytes i 0 ∙ same i h)

-- a byte that words hold
pub held_byte : (reader : ℕ → ℕ) (at : ℕ) (bytes : List ℕ) → All (λ byte. byte < 256) bytes → HoldsText reader at bytes → (place : ℕ) → place < length bytes
    → get_or (to_le_bytes w64 (reader (at + place / 8))) (place % 8) 0 ≡ get_or bytes place 0
held_byte reader at bytes all holds place within =
    let whole : 8 * (place / 8) + place % 8 ≡ place = omega arith in
    ap (λ (word : ℕ). get_or (to_le_bytes w64 word) (place % 8) 0) (holds (place / 8) (omega (arith, within)))
    ∙ word_byte bytes all (place / 8) (place % 8) (omega arith) ∙ ap (λ (n : ℕ). get_or bytes n 0) whole

-- ---- a slice that is read

pub sliced_read : (bytes : List ℕ) (at len i : ℕ) → i < len → get_or (slice_range bytes at (at + len)) i 0 ≡ get_or bytes (at + i) 0
sliced_read bytes at len i within = get_or-take (at + len - at) (drop at bytes) i 0 (omega (arith, within)) ∙ get_or-drop at bytes i 0

eight_bytes : (word : ℕ) → length (to_le_bytes w64 word) ≡ 8
eight_bytes word = refl

pub words_length : (reader : ℕ → ℕ) (at count : ℕ) → length (word_bytes reader at count) ≡ 8 * count
words_length reader at zero = refl
words_length reader at (suc count) =
    omega (arith, length-append (to_le_bytes w64 (reader at)) (word_bytes reader (at + 1) count), eight_bytes (reader at), words_length reader (at + 1) count)

words_byte : (reader : ℕ → ℕ) (count at i : ℕ) → i < 8 * count
    → get_or (word_bytes reader at count) i 0 ≡ get_or (to_le_bytes w64 (reader (at + i / 8))) (i % 8) 0
words_byte reader zero at i within = absurd (omega (arith, within))
words_byte reader (suc count) at i within =
    let first = to_le_bytes w64 (reader at) in
    let rest = word_bytes reader (at + 1) count in
    elim (cases_lt i 8) [
      | inl short ↦
          let place : at ≡ at + i / 8 = omega (arith, short) in
          let left : i ≡ i % 8 = omega (arith, short) in
          get_or_append_left first rest 0 i (omega (arith, short, eight_bytes (reader at)))
          ∙ ap (λ (n : ℕ). get_or (to_le_bytes w64 (reader n)) i 0) place ∙ ap (λ (n : ℕ). get_or (to_le_bytes w64 (reader (at + i / 8))) n 0) left
      | inr long ↦
          let place : at + 1 + (i - 8) / 8 ≡ at + i / 8 = omega (arith, long) in
          let left : (i - 8) % 8 ≡ i % 8 = omega (arith, long) in
          get_or-append_right first rest 8 i 0 (eight_bytes (reader at)) (omega (arith, long))
          ∙ words_byte reader count (at + 1) (i - 8) (omega (arith, long, within))
          ∙ ap (λ (n : ℕ). get_or (to_le_bytes w64 (reader n)) ((i - 8) % 8) 0) place
          ∙ ap (λ (n : ℕ). get_or (to_le_bytes w64 (reader (at + i / 8))) n 0) left
    ]

-- the bytes of one more word, of which those before the slice are left out
pub read_next : (reader : ℕ → ℕ) (at k skip from : ℕ) (bytes : List ℕ) → skip < 8 → (k ≡ 0 → from ≡ skip) → (0 < k → from ≡ 0)
    → bytes ≡ drop skip (word_bytes reader at k)
    → bytes ++ drop from (to_le_bytes w64 (reader (at + k))) ≡ drop skip (word_bytes reader at (k + 1))
read_next reader at zero skip from bytes few first later are =
    let word = to_le_bytes w64 (reader (at + 0)) in
    let none : bytes ≡ [] = are ∙ drop_none skip in
    let place : at + 0 ≡ at = omega arith in
    ap (λ (l : List ℕ). l ++ drop from word) none ∙ ap (λ (n : ℕ). drop n word) (first refl) ∙ ap (λ (n : ℕ). drop skip (to_le_bytes w64 (reader n))) place
    ∙ ap (drop skip) (sym (append-nil (to_le_bytes w64 (reader at))))
  where
    drop_none : (n : ℕ) → drop {A = ℕ} n [] ≡ []
    drop_none zero = refl
    drop_none (suc n) = refl
read_next reader at (suc k) skip from bytes few first later are =
    let word = to_le_bytes w64 (reader (at + suc k)) in
    let early = word_bytes reader at (suc k) in
    ap (λ (l : List ℕ). l ++ drop from word) are ∙ ap (λ (n : ℕ). drop skip early ++ drop n word) (later (omega arith))
    ∙ sym (drop-append-le skip early word (omega (arith, words_length reader at (suc k), few))) ∙ ap (drop skip) (sym (words_more reader at (suc k)))

pub slice_read : (reader : ℕ → ℕ) (start : ℕ) (bytes : List ℕ) → All (λ byte. byte < 256) bytes → HoldsText reader start bytes → (at len count : ℕ)
    → at + len ≤ length bytes
    → at % 8 + len ≤ 8 * count
    → take len (drop (at % 8) (word_bytes reader (start + at / 8) count)) ≡ slice_range bytes at (at + len)
slice_read reader start bytes all holds at len count within fits =
    let read = word_bytes reader (start + at / 8) count in
    let long : length (drop (at % 8) read) ≡ 8 * count - at % 8 = length-drop (at % 8) read
    ∙ ap (λ (n : ℕ). n - at % 8) (words_length reader (start + at / 8) count) in
    let left : length (take len (drop (at % 8) read)) ≡ len = length-take-le len (drop (at % 8) read) (omega (arith, long, fits)) in
    let right : length (slice_range bytes at (at + len)) ≡ at + len - at =
    length-take-le (at + len - at) (drop at bytes) (omega (arith, within, length-drop at bytes)) in
    ext_get_or 0 (take len (drop (at % 8) read)) (slice_range bytes at (at + len)) (omega (arith, left, right))
    (λ i h. one i (omega (arith, h, left)))
  where
    one : (i : ℕ) → i < len → get_or (take len (drop (at % 8) (word_bytes reader (start + at / 8) count))) i 0 ≡ get_or (slice_range bytes at (at + len)) i 0
    one i h =
        let read = word_bytes reader (start + at / 8) count in
        let k = at % 8 + i in
        let place : start + at / 8 + k / 8 ≡ start + (at + i) / 8 = omega arith in
        let last : k % 8 ≡ (at + i) % 8 = omega arith in
        get_or-take len (drop (at % 8) read) i 0 h ∙ get_or-drop (at % 8) read i 0
        ∙ words_byte reader count (start + at / 8) k (omega (arith, h, fits))
        ∙ ap (λ (n : ℕ). get_or (to_le_bytes w64 (reader n)) (k % 8) 0) place
        ∙ ap (λ (n : ℕ). get_or (to_le_bytes w64 (reader (start + (at + i) / 8))) n 0) last
        ∙ held_byte reader start bytes all holds (at + i) (omega (arith, h, within))
        ∙ sym (sliced_read bytes at len i h)

-- ---- bytes in place of others

pub spliced_inside : (bytes put : List ℕ) (at : ℕ) → at + length put ≤ length bytes → (i : ℕ) → i < length put
    → get_or (splice bytes at (at + length put) put) (at + i) 0 ≡ get_or put i 0
spliced_inside bytes put at within i h =
    sym (sliced_read (splice bytes at (at + length put) put) at (length put) i h) ∙ ap (λ (l : List ℕ). get_or l i 0) (spliced_read bytes put at within)

-- a word that is all of the new bytes
pub word_inside : (bytes put : List ℕ) (at : ℕ) → at + length put ≤ length bytes → (k : ℕ) → at ≤ 8 * k → 8 * k + 8 ≤ at + length put
    → from_le_bytes w64 (drop (8 * k - at) put) ≡ text_word (splice bytes at (at + length put) put) k
word_inside bytes put at within k low high =
    word_of_eight (splice bytes at (at + length put) put) k (drop (8 * k - at) put)
    (λ i h.
    let place : at + (8 * k - at + i) ≡ 8 * k + i = omega (arith, low) in
    get_or-drop (8 * k - at) put i 0
    ∙ sym (spliced_inside bytes put at within (8 * k - at + i) (omega (arith, low, high, h)))
    ∙ ap (λ (n : ℕ). get_or (splice bytes at (at + length put) put) n 0) place)

-- a word before the new bytes or behind them
pub word_before : (bytes put : List ℕ) (at : ℕ) → at + length put ≤ length bytes → (k : ℕ) → 8 * k + 8 ≤ at
    → text_word bytes k ≡ text_word (splice bytes at (at + length put) put) k
word_before bytes put at within k low =
    word_same bytes (splice bytes at (at + length put) put) k (λ i h. sym (spliced_before bytes put at within (8 * k + i) (omega (arith, low, h))))

pub word_behind : (bytes put : List ℕ) (at : ℕ) → at + length put ≤ length bytes → (k : ℕ) → at + length put ≤ 8 * k
    → text_word bytes k ≡ text_word (splice bytes at (at + length put) put) k
word_behind bytes put at within k high =
    word_same bytes (splice bytes at (at + length put) put) k (λ i h. sym (spliced_behind bytes put at within (8 * k + i) (omega (arith, high, h))))
