-- Texts as words: how they are put, and how they are read back.
use Rattle.std.proofs.Common.{◌≡◌, ◌⊎◌, inl, inr, ℕ, zero, suc, ◌+◌, ◌*◌, ◌-◌, ◌/◌, ◌^◌, ◌<◌, ◌≤◌, List, [], ◌∷◌, ◌++◌, length, take, drop, get_or, replicate, refl, sym, ap, ◌∙◌, subst, arith, append_assoc, length-append, length-drop}
use Rattle.std.specs.Int.{w64, byte_at, bytes_low_first, to_le_bytes, from_le_bytes, div_ceil}
use Rattle.std.specs.List.{All}
use Rattle.std.proofs.lemmas.Bool.{cases_eq, cases_lt}
use Rattle.std.proofs.lemmas.Nat.{le_bytes_8, mod_below}
use Rattle.std.proofs.lemmas.List.Elements.{All-nil, All-cons, All-append, All-take}
use Rattle.std.proofs.lemmas.List.{append-nil, length-take-le, get_or-take, get_or-drop, take-append-le, take-take, take-append-drop, drop-drop}
use Rattle.std.proofs.Math.Seq.{take-append_seam, take-append-add}
use Rattle.uw_words.specs.Plans.{Plan, region, Names}
use Rattle.uw_words.specs.Numbers.{IsOneOf, places_from}
use Rattle.uw_words.specs.Parts.{seen, AgreeOn, HasRoom, GrewAt}
use Rattle.uw_words.proofs.Growth.{put_on, grew_none, grew_put, grew_then, room_now, room_then, read_put, read_other, row_has, places_split}
use Rattle.uw_words.specs.Texts.{text_word, text_words, places_of_text, HoldsText, word_bytes, text_at}

-- so many words of a text are put
pub record Putting (plan now : Plan) (at : ℕ) (text : List ℕ) (count : ℕ) : Type 0 where
  pub grew : GrewAt (places_from at count) plan now
  pub held : (words : List ℕ) (k : ℕ) → k < count → seen now words (at + k) ≡ text_word text k

pub putting_start : (plan : Plan) (at : ℕ) (text : List ℕ) → Putting plan plan at text 0
putting_start plan at text = record { grew = grew_none plan; held = λ words k short. absurd (omega arith) }

pub putting_next : (plan now later : Plan) (at : ℕ) (text : List ℕ) (count word : ℕ) → Putting plan now at text count → later ≡ put_on now (at + count) word → word ≡ text_word text count
    → Putting plan later at text (count + 1)
putting_next plan now later at text count word putting put word_is = record {
  grew =
      subst (λ (places : List ℕ). GrewAt places plan later) (sym (places_split at count 1))
      (grew_then (places_from at count) ((at + count) ∷ []) plan now later putting.grew (subst (GrewAt ((at + count) ∷ []) now) (sym put) (grew_put now (at + count) word)));
  held = λ words k short. elim (cases_eq k count) [
    | inl same ↦
        ap (λ (i : ℕ). seen later words (at + i)) same ∙ ap (λ (p : Plan). seen p words (at + count)) put ∙ read_put now.writes (region words) (at + count) word ∙ word_is
        ∙ ap (text_word text) (sym same)
    | inr other ↦
        ap (λ (p : Plan). seen p words (at + k)) put
        ∙ read_other now.writes (region words) (at + count) word (at + k) (λ same. other (omega (arith, same)))
        ∙ putting.held words k (omega (arith, short, other))
  ];
}

pub putting_room : (plan now : Plan) (at count all : ℕ) → count < all → HasRoom plan (places_from at all) → GrewAt (places_from at count) plan now
    → (length now.writes < now.room) ⊎ Names now.writes (at + count)
putting_room plan now at count all short room grew =
    let rest = all - count - 1 in
    let sum : all ≡ count + suc rest = omega arith in
    room_now now (at + count) (places_from (at + count + 1) rest)
    (room_then (places_from at count) (places_from (at + count) (suc rest)) plan now (subst (HasRoom plan) (ap (places_from at) sum ∙ places_split at count (suc rest)) room) grew)

pub putting_all : (now plan : Plan) (at : ℕ) (text : List ℕ) → Putting plan now at text (div_ceil (length text) 8) → (words : List ℕ) → HoldsText (seen now words) at text
putting_all now plan at text putting words k short = putting.held words k (omega arith)

-- the bytes of one more word
pub words_more : (reader : ℕ → ℕ) (at count : ℕ) → word_bytes reader at (count + 1) ≡ word_bytes reader at count ++ to_le_bytes w64 (reader (at + count))
words_more reader at zero =
    let here : at ≡ at + zero = omega arith in
    append-nil (to_le_bytes w64 (reader at)) ∙ ap (λ (place : ℕ). to_le_bytes w64 (reader place)) here
words_more reader at (suc count) =
    let sum : suc count + 1 ≡ suc (count + 1) = omega arith in
    let next : at + 1 + count ≡ at + suc count = omega arith in
    let first = to_le_bytes w64 (reader at) in
    ap (word_bytes reader at) sum ∙ ap (λ (bytes : List ℕ). first ++ bytes) (words_more reader (at + 1) count)
    ∙ sym (append_assoc first (word_bytes reader (at + 1) count) (to_le_bytes w64 (reader (at + 1 + count))))
    ∙ ap (λ (place : ℕ). (first ++ word_bytes reader (at + 1) count) ++ to_le_bytes w64 (reader place)) next

-- a word has eight bytes
eight : (word : ℕ) → length (to_le_bytes w64 word) ≡ 8
eight word = refl

-- a text and zeros behind it
zeros_read : (count k : ℕ) → get_or {A = ℕ} (replicate count 0) k 0 ≡ 0
zeros_read zero k = refl
zeros_read (suc count) zero = refl
zeros_read (suc count) (suc k) = zeros_read count k

padded_read : (text : List ℕ) (count k : ℕ) → get_or (text ++ replicate count 0) k 0 ≡ get_or text k 0
padded_read [] count k = zeros_read count k
padded_read (first ∷ text) count zero = refl
padded_read (first ∷ text) count (suc k) = padded_read text count k

padded_take : (text : List ℕ) (k : ℕ) → k < 8 → get_or (take 8 (text ++ replicate 8 0)) k 0 ≡ get_or text k 0
padded_take text k short = get_or-take 8 (text ++ replicate 8 0) k 0 short ∙ padded_read text 8 k

past : (bytes : List ℕ) (k : ℕ) → length bytes ≤ k → get_or bytes k 0 ≡ 0
past [] k long = refl
past (first ∷ bytes) zero long = absurd (omega arith)
past (first ∷ bytes) (suc k) long = past bytes k (omega arith)

padded_length : (text : List ℕ) → length (take 8 (text ++ replicate 8 0)) ≡ 8
padded_length text = length-take-le 8 (text ++ replicate 8 0) (omega (arith, length-append text (replicate 8 0)))

-- the bytes of a text's first word
word_is : (text : List ℕ) → ((k : ℕ) → get_or text k 0 < 256) → to_le_bytes w64 (from_le_bytes w64 text) ≡ take 8 (text ++ replicate 8 0)
word_is text small = le_bytes_8 bytes (from_le_bytes w64 text) (padded_length text) low same
  where
    bytes : List ℕ
    bytes = take 8 (text ++ replicate 8 0)

    low : (k : ℕ) → get_or (take 8 (text ++ replicate 8 0)) k 0 < 256
    low k = elim (cases_lt k 8) [
      | inl short ↦ omega (arith, padded_take text k short, small k)
      | inr long ↦ omega (arith, past (take 8 (text ++ replicate 8 0)) k (omega (arith, long, padded_length text)))
    ]

    same : from_le_bytes w64 text ≡ from_le_bytes w64 (take 8 (text ++ replicate 8 0))
    same = omega (
      arith,
      padded_take text 0 (omega arith),
      padded_take text 1 (omega arith),
      padded_take text 2 (omega arith),
      padded_take text 3 (omega arith),
      padded_take text 4 (omega arith),
      padded_take text 5 (omega arith),
      padded_take text 6 (omega arith),
      padded_take text 7 (omega arith),
    )

-- the words of a text give the text
later_held : (reader : ℕ → ℕ) (at : ℕ) (text : List ℕ) → 8 < length text → HoldsText reader at text → HoldsText reader (at + 1) (drop 8 text)
later_held reader at text long holds k short =
    let place : at + 1 + k ≡ at + (k + 1) = omega arith in
    let sum : 8 + 8 * k ≡ 8 * (k + 1) = omega arith in
    ap reader place ∙ holds (k + 1) (omega (arith, short, length-drop 8 text))
    ∙ ap (from_le_bytes w64) (ap (λ (n : ℕ). drop n text) (sym sum) ∙ sym (drop-drop (8 * k) 8 text))

later_small : (text : List ℕ) → ((k : ℕ) → get_or text k 0 < 256) → (k : ℕ) → get_or (drop 8 text) k 0 < 256
later_small text small k = subst (λ (byte : ℕ). byte < 256) (sym (get_or-drop 8 text k 0)) (small (8 + k))

first_back : (reader : ℕ → ℕ) (at : ℕ) (text : List ℕ) → ((k : ℕ) → get_or text k 0 < 256) → 0 < length text → HoldsText reader at text
    → to_le_bytes w64 (reader at) ≡ take 8 (text ++ replicate 8 0)
first_back reader at text small some holds =
    let place : at ≡ at + 0 = omega arith in
    ap (to_le_bytes w64) (ap reader place ∙ holds 0 (omega (arith, some))) ∙ word_is text small

read_more : (first text rest : List ℕ) → first ≡ take 8 (text ++ replicate 8 0) → length first ≡ 8 → (8 < length text → take (length (drop 8 text)) rest ≡ drop 8 text)
    → take (length text) (first ++ rest) ≡ text
read_more first text rest first_is first_length behind = elim (cases_lt 8 (length text)) [
  | inl long ↦
      let front : first ≡ take 8 text = first_is ∙ take-append-le 8 text (replicate 8 0) (omega (arith, long)) in
      let sum : length text ≡ length (take 8 text) + length (drop 8 text) = omega (arith, length-take-le 8 text (omega (arith, long)), length-drop 8 text, long) in
      ap (λ (bytes : List ℕ). take (length text) (bytes ++ rest)) front ∙ ap (λ (n : ℕ). take n (take 8 text ++ rest)) sum
      ∙ take-append-add (take 8 text) rest (length (drop 8 text))
      ∙ ap (λ (bytes : List ℕ). take 8 text ++ bytes) (behind long)
      ∙ take-append-drop 8 text
  | inr short ↦
      take-append-le (length text) first rest (omega (arith, short, first_length)) ∙ ap (take (length text)) first_is
      ∙ take-take (length text) 8 (text ++ replicate 8 0) short
      ∙ take-append_seam text (replicate 8 0)
]

pub read_back : (reader : ℕ → ℕ) (count at : ℕ) (text : List ℕ) → ((k : ℕ) → get_or text k 0 < 256) → length text ≤ 8 * count → HoldsText reader at text
    → take (length text) (word_bytes reader at count) ≡ text
read_back reader count at [] small fits holds = refl
read_back reader zero at (first ∷ text) small fits holds = absurd (omega arith)
read_back reader (suc count) at (first ∷ text) small fits holds =
    read_more (to_le_bytes w64 (reader at)) (first ∷ text) (word_bytes reader (at + 1) count) (first_back reader at (first ∷ text) small (omega arith) holds) (eight (reader at))
    (λ long. read_back reader count (at + 1) (drop 8 (first ∷ text)) (later_small (first ∷ text) small) (omega (arith, fits, length-drop 8 (first ∷ text)))
    (later_held reader at (first ∷ text) long holds))

pub text_back : (reader : ℕ → ℕ) (at : ℕ) (text : List ℕ) → ((k : ℕ) → get_or text k 0 < 256) → HoldsText reader at text → text_at reader at (length text) ≡ text
text_back reader at text small holds = read_back reader (div_ceil (length text) 8) at text small (omega arith) holds

-- texts of bytes
bytes_small : (text : List ℕ) → All (λ byte. byte < 256) text → (k : ℕ) → get_or text k 0 < 256
bytes_small text all k = elim (cases_lt k (length text)) [
  | inl short ↦ all k 0 short
  | inr long ↦ omega (arith, past text k long)
]

pub held_text : (reader : ℕ → ℕ) (at : ℕ) (text : List ℕ) → All (λ byte. byte < 256) text → HoldsText reader at text
    → text_at reader at (length text) ≡ text
held_text reader at text all holds = text_back reader at text (bytes_small text all) holds

pub told_apart : (text other : List ℕ) → All (λ byte. byte < 256) text → All (λ byte. byte < 256) other → length text ≡ length other
    → ((k : ℕ) → 8 * k < length text → text_word text k ≡ text_word other k) → text ≡ other
told_apart text other all all' len same =
    sym (held_text (text_word text) 0 text all (λ k short. ap (text_word text) (start k)))
    ∙ ap (text_at (text_word text) 0) len
    ∙ held_text (text_word text) 0 other all' (λ k short. ap (text_word text) (start k) ∙ same k (omega (arith, len, short)))
  where
    start : (k : ℕ) → 0 + k ≡ k
    start k = omega arith

low_bytes : (i count n : ℕ) → All (λ byte. byte < 256) (bytes_low_first i count n)
low_bytes i zero n = All-nil (λ byte. byte < 256)
low_bytes i (suc count) n = All-cons (λ byte. byte < 256) (byte_at i n) (bytes_low_first (suc i) count n) (below i) (low_bytes (suc i) count n)
  where
    below : (i : ℕ) → byte_at i n < 256
    below zero = omega arith
    below (suc i) = mod_below (n / 256 ^ suc i) 256 (omega arith)

words_of_bytes : (reader : ℕ → ℕ) (at count : ℕ) → All (λ byte. byte < 256) (word_bytes reader at count)
words_of_bytes reader at zero = All-nil (λ byte. byte < 256)
words_of_bytes reader at (suc count) =
    All-append (λ byte. byte < 256) (to_le_bytes w64 (reader at)) (word_bytes reader (at + 1) count) (low_bytes 0 8 (reader at))
    (words_of_bytes reader (at + 1) count)

pub text_of_bytes : (reader : ℕ → ℕ) (at bytes : ℕ) → All (λ byte. byte < 256) (text_at reader at bytes)
text_of_bytes reader at bytes =
    All-take (λ byte. byte < 256) bytes (word_bytes reader at (text_words bytes)) (words_of_bytes reader at (text_words bytes))

-- on what a held text depends
pub text_same : (at : ℕ) (text : List ℕ) (before now : ℕ → ℕ) → AgreeOn (IsOneOf (places_of_text at (length text))) before now
    → HoldsText before at text → HoldsText now at text
text_same at text before now agree holds k short =
    agree (at + k) (row_has at (text_words (length text)) (at + k) (omega arith) (omega (arith, short))) ∙ holds k short
