-- What is read from a block is what it holds: laws of arrays, pairs and packets.
use Rattle.std.proofs.Common.{◌⊎◌, ◌≡◌, ℕ, zero, suc, ◌+◌, ◌-◌, ◌%◌, ◌<◌, ◌≤◌, Bool, true, false, leb, ltb, ◌&&◌, List, [], ◌∷◌, ◌++◌, length, take, drop, Option, Some, None, Result, Ok, Err, refl, sym, ap, subst, ◌∙◌, append_assoc, arith, inl, inr, length-append}
use Rattle.std.specs.Int.{byte_at}
use Rattle.std.specs.List.{list_all}
use Rattle.std.proofs.lemmas.Bool.{le-leb, leb-true, ltb-true}
use Rattle.std.proofs.lemmas.Grind.{flat_map-append}
use Rattle.std.proofs.lemmas.List.{append-nil, length-take-le, take-append-drop, take_at, drop_at}
use Rattle.uw_base.specs.declared.variables.Pair.{Pair}
use Rattle.uw_packet.specs.declared.packet.Header.{Header}
use Rattle.uw_packet.specs.Blocks.{sized, array_of, AreShort, texts_of_pairs, IsArrayBlock, IsVarsBlock, BreaksAt, array_read, pairs_of_texts, vars_read}
use Rattle.uw_packet.specs.BlockReads.{AreBytes, vars_block}
use Rattle.uw_packet.specs.BlockSteps.{first_text}
use Rattle.uw_packet.specs.Packet.{IsPacket}
use Rattle.uw_packet.proofs.Arrays.{text_length, chosen_some, array_front, array_front-some, array_front-none, length-first_text, array_read-whole, array_read-broken, vars_read-whole}

-- ---- one text

-- the two bytes of a length give it back
pub text_length-bytes : (n : ℕ) → n < 65536 → text_length (byte_at 0 n) (byte_at 1 n) ≡ n
text_length-bytes n short = omega arith

-- and a length that two bytes gave has just these bytes
pub byte_at-text_length : (low high : ℕ) → low < 256 → high < 256 → (byte_at 0 (text_length low high) ≡ low) × (byte_at 1 (text_length low high) ≡ high)
byte_at-text_length low high a b = (omega arith, omega arith)

-- a sized text is the first text, whatever follows it
pub first_text-sized : (text rest : List ℕ) → length text < 65536 → first_text (sized text ++ rest) ≡ Some (text, rest)
first_text-sized text rest short =
    let n = text_length-bytes (length text) short in
    let fits : leb (length text) (length (text ++ rest)) ≡ true = le-leb _ _ (omega (arith, length-append text rest)) in
    rw (n, fits, take_at text rest (length text) refl, drop_at text rest (length text) refl) refl

AreBytes-drop : (n : ℕ) (bytes : List ℕ) → AreBytes bytes → AreBytes (drop n bytes)
AreBytes-drop zero bytes all = all
AreBytes-drop (suc n) [] all = all
AreBytes-drop (suc n) (byte ∷ bytes) all = AreBytes-drop n bytes all.1

-- what the first text of bytes says of them
pub record IsFirst (bytes text rest : List ℕ) : Type 0 where
  pub parts : bytes ≡ sized text ++ rest
  pub short : length text < 65536
  pub bytes_left : AreBytes rest

pub first_text-is : (bytes text rest : List ℕ) → AreBytes bytes → first_text bytes ≡ Some (text, rest) → IsFirst bytes text rest
first_text-is [] text rest all e = absurd cc
first_text-is (a ∷ []) text rest all e = absurd cc
first_text-is (low ∷ high ∷ bytes) text rest all e =
    let n = text_length low high in
    let c = chosen_some (leb n (length bytes)) (take n bytes, drop n bytes) (text, rest) e in
    let count : length (take n bytes) ≡ n = length-take-le n bytes (leb-true _ _ c.0) in
    let size = byte_at-text_length low high all.0 all.1.0 in
    let parts : low ∷ high ∷ bytes ≡ sized (take n bytes) ++ drop n bytes = rw (count, size.0, size.1, take-append-drop n bytes) refl in
    let first : IsFirst (low ∷ high ∷ bytes) (take n bytes) (drop n bytes) = record { parts = parts; short = omega (arith, all.0, all.1.0); bytes_left = AreBytes-drop n bytes all.1.1 } in
    subst (λ (p : List ℕ × List ℕ). IsFirst (low ∷ high ∷ bytes) p.0 p.1) c.1 first

-- ---- arrays

-- the texts of an array stand at its front, and then those of what follows it
pub array_front-array_of : (texts : List (List ℕ)) (rest : List ℕ) → AreShort texts → array_front (array_of texts ++ rest) ≡ (texts ++ (array_front rest).0, (array_front rest).1)
array_front-array_of [] rest short = refl
array_front-array_of (text ∷ texts) rest short =
    let behind = array_of texts ++ rest in
    ap array_front (append_assoc (sized text) (array_of texts) rest)
    ∙ array_front-some (sized text ++ behind) text behind (first_text-sized text behind short.0)
    ∙ ap (λ (r : List (List ℕ) × List ℕ). (text ∷ r.0, r.1)) (array_front-array_of texts rest short.1)

pub array_front-block : (block : List ℕ) (texts : List (List ℕ)) → IsArrayBlock block texts → array_front block ≡ (texts, [])
array_front-block block texts is =
    ap array_front (is.whole ∙ sym (append-nil (array_of texts)))
    ∙ array_front-array_of texts [] is.short
    ∙ ap (λ (r : List (List ℕ) × List ℕ). (texts ++ r.0, r.1)) (array_front-none [] refl)
    ∙ ap (λ (all : List (List ℕ)). (all, [])) (append-nil texts)

-- an array block is read as its texts
pub array_read-block : (block : List ℕ) (texts : List (List ℕ)) → IsArrayBlock block texts → array_read block ≡ Ok texts
array_read-block block texts is = array_read-whole block texts (array_front-block block texts is)

abbrev done : {A : Type 0} → A → Result A ℕ
done x = Ok x

ok_same : {A : Type 0} (x y : A) → done x ≡ done y → x ≡ y
ok_same x y e = cc

-- so the texts of an array are unique
pub texts_unique : (block : List ℕ) (xs ys : List (List ℕ)) → IsArrayBlock block xs → IsArrayBlock block ys → xs ≡ ys
texts_unique block xs ys a b = ok_same xs ys (sym (array_read-block block xs a) ∙ array_read-block block ys b)

-- bytes are the array of the texts at their front, and the rest, which begins with no whole text
pub record IsFront (bytes : List ℕ) (texts : List (List ℕ)) (rest : List ℕ) : Type 0 where
  pub short : AreShort texts
  pub parts : bytes ≡ array_of texts ++ rest

front_is-by : (bytes : List ℕ) (o : Option (List ℕ × List ℕ)) → first_text bytes ≡ o → AreBytes bytes → ((rest : List ℕ) → length rest < length bytes → AreBytes rest → IsFront rest (array_front rest).0 (array_front rest).1) → IsFront bytes (array_front bytes).0 (array_front bytes).1
front_is-by bytes None e all later =
    subst (λ (r : List (List ℕ) × List ℕ). IsFront bytes r.0 r.1) (sym (array_front-none bytes e)) (record { short = tt; parts = refl })
front_is-by bytes (Some p) e all later =
    let first = first_text-is bytes p.0 p.1 all e in
    let rest = later p.1 (length-first_text bytes p.0 p.1 e) first.bytes_left in
    let parts : bytes ≡ array_of (p.0 ∷ (array_front p.1).0) ++ (array_front p.1).1 = first.parts ∙ ap (λ (r : List ℕ). sized p.0 ++ r) rest.parts ∙ sym (append_assoc (sized p.0) (array_of (array_front p.1).0) (array_front p.1).1) in
    subst (λ (r : List (List ℕ) × List ℕ). IsFront bytes r.0 r.1) (sym (array_front-some bytes p.0 p.1 e)) (record { short = (first.short, rest.short); parts = parts })

front_is-within : (n : ℕ) (bytes : List ℕ) → length bytes ≤ n → AreBytes bytes → IsFront bytes (array_front bytes).0 (array_front bytes).1
front_is-within zero bytes within all = front_is-by bytes (first_text bytes) refl all (λ rest shorter more. absurd (omega arith))
front_is-within (suc n) bytes within all = front_is-by bytes (first_text bytes) refl all (λ rest shorter more. front_is-within n rest (omega arith) more)

pub front_is : (bytes : List ℕ) → AreBytes bytes → IsFront bytes (array_front bytes).0 (array_front bytes).1
front_is bytes all = front_is-within (length bytes) bytes (omega arith) all

-- nothing is left and the texts are read, or something is left and there is a fault
read_cases : (block : List ℕ) (texts : List (List ℕ)) (rest : List ℕ) → array_front block ≡ (texts, rest) → ((rest ≡ []) × (array_read block ≡ Ok texts)) ⊎ ((0 < length rest) × (array_read block ≡ Err (length block - length rest)))
read_cases block texts [] e = inl (refl, array_read-whole block texts e)
read_cases block texts (a ∷ rest) e = inr (omega arith, array_read-broken block texts (a ∷ rest) e (omega arith))

-- what is read from a block is the texts whose array it is
pub IsArrayBlock-read : (block : List ℕ) (texts : List (List ℕ)) → AreBytes block → array_read block ≡ Ok texts → IsArrayBlock block texts
IsArrayBlock-read block texts all read =
    let front = front_is block all in
    elim (read_cases block (array_front block).0 (array_front block).1 refl) [
      | inl whole ↦
          let whole_block : IsArrayBlock block (array_front block).0 = record { short = front.short; whole = front.parts ∙ ap (λ (rest : List ℕ). array_of (array_front block).0 ++ rest) whole.0 ∙ append-nil (array_of (array_front block).0) } in
          subst (λ (xs : List (List ℕ)). IsArrayBlock block xs) (ok_same (array_front block).0 texts (sym whole.1 ∙ read)) whole_block
      | inr broken ↦ absurd (cc (broken.1, read))
    ]

-- other texts whose array begins the block are some of those at its front
longest : (block : List ℕ) (texts others : List (List ℕ)) (rest left : List ℕ) → array_front block ≡ (texts, left) → AreShort others → block ≡ array_of others ++ rest → length (array_of others) ≤ length (array_of texts)
longest block texts others rest left front short whole =
    let more = (array_front rest).0 in
    let same : texts ≡ others ++ more = ap (λ (r : List (List ℕ) × List ℕ). r.0) (sym front ∙ ap array_front whole ∙ array_front-array_of others rest short) in
    let apart : array_of texts ≡ array_of others ++ array_of more = ap array_of same ∙ flat_map-append sized others more in
    rw apart (omega (arith, length-append (array_of others) (array_of more)))

-- where a block is refused, it breaks at the place
pub BreaksAt-read : (block : List ℕ) (at : ℕ) → AreBytes block → array_read block ≡ Err at → (texts : List (List ℕ)) × BreaksAt block texts at × (at < length block)
BreaksAt-read block at all read =
    let texts = (array_front block).0 in
    let left = (array_front block).1 in
    let front = front_is block all in
    elim (read_cases block texts left refl) [
      | inl whole ↦ absurd (cc (whole.1, read))
      | inr broken ↦
          let place : at ≡ length block - length left = cc (broken.1, read) in
          let count : length block ≡ length (array_of texts) + length left = ap length front.parts ∙ length-append (array_of texts) left in
          let begins : at ≡ length (array_of texts) = omega arith in
          (texts, record { short = front.short; front = (left, front.parts); place = begins; longest = λ others rest short whole. rw begins (longest block texts others rest left refl short whole) }, omega (arith, broken.0))
    ]

-- ---- pairs

pub vars_read-block : (block : List ℕ) (pairs : List Pair) → IsVarsBlock block pairs → vars_read block ≡ Ok pairs
vars_read-block block pairs is = vars_read-whole block pairs (array_front-block block (texts_of_pairs pairs) is)

pub pairs_read : (pairs : List Pair) → AreShort (texts_of_pairs pairs) → vars_read (array_of (texts_of_pairs pairs)) ≡ Ok pairs
pairs_read pairs short = vars_read-block (array_of (texts_of_pairs pairs)) pairs (record { short = short; whole = refl })

-- what two texts and the pairs of the others are
pairs_of_texts-cons : (key value : List ℕ) (texts : List (List ℕ)) (pairs : List Pair) → pairs_of_texts texts ≡ Ok pairs → pairs_of_texts (key ∷ value ∷ texts) ≡ Ok (record { key = key; value = value } ∷ pairs)
pairs_of_texts-cons key value texts pairs e = rw e refl

pairs_of_texts-cons_odd : (key value : List ℕ) (texts : List (List ℕ)) (last : List ℕ) → pairs_of_texts texts ≡ Err last → pairs_of_texts (key ∷ value ∷ texts) ≡ Err last
pairs_of_texts-cons_odd key value texts last e = rw e refl

-- texts are those of their pairs, or their number is odd
pub record ArePaired (texts : List (List ℕ)) (pairs : List Pair) : Type 0 where
  pub pairs_are : pairs_of_texts texts ≡ Ok pairs
  pub texts_are : texts ≡ texts_of_pairs pairs

pub record AreOdd (texts : List (List ℕ)) (last : List ℕ) : Type 0 where
  pub pairs_are : pairs_of_texts texts ≡ Err last
  pub odd : length texts % 2 ≡ 1

pairs_of_texts-cases : (texts : List (List ℕ)) → ((pairs : List Pair) × ArePaired texts pairs) ⊎ ((last : List ℕ) × AreOdd texts last)
pairs_of_texts-cases [] = inl ([], record { pairs_are = refl; texts_are = refl })
pairs_of_texts-cases (key ∷ []) = inr (key, record { pairs_are = refl; odd = omega arith })
pairs_of_texts-cases (key ∷ value ∷ texts) =
    elim (pairs_of_texts-cases texts) [
      | inl even ↦
          inl (
            record { key = key; value = value } ∷ even.0,
            record {
              pairs_are = pairs_of_texts-cons key value texts even.0 even.1.pairs_are;
              texts_are = ap (λ (xs : List (List ℕ)). key ∷ value ∷ xs) even.1.texts_are;
            },
          )
      | inr odd ↦ inr (odd.0, record { pairs_are = pairs_of_texts-cons_odd key value texts odd.0 odd.1.pairs_are; odd = omega (arith, odd.1.odd) })
    ]

-- what is read as pairs, by what is read as texts
vars_read-even : (block : List ℕ) (texts : List (List ℕ)) (pairs : List Pair) → array_read block ≡ Ok texts → pairs_of_texts texts ≡ Ok pairs → vars_read block ≡ Ok pairs
vars_read-even block texts pairs read paired = rw (read, paired) refl

vars_read-odd : (block : List ℕ) (texts : List (List ℕ)) (last : List ℕ) → array_read block ≡ Ok texts → pairs_of_texts texts ≡ Err last → vars_read block ≡ Err (length block)
vars_read-odd block texts last read paired = rw (read, paired) refl

vars_read-no_array : (block : List ℕ) (at : ℕ) → array_read block ≡ Err at → vars_read block ≡ Err at
vars_read-no_array block at read = rw read refl

-- a block is an array of pairs, or of an odd number of texts, or no array
pub data VarsCases : List ℕ → Type 0 where
  even : {block : List ℕ} (texts : List (List ℕ)) (pairs : List Pair) → array_read block ≡ Ok texts → texts ≡ texts_of_pairs pairs → vars_read block ≡ Ok pairs → VarsCases block
  odd : {block : List ℕ} (texts : List (List ℕ)) → array_read block ≡ Ok texts → length texts % 2 ≡ 1 → vars_read block ≡ Err (length block) → VarsCases block
  no_array : {block : List ℕ} (at : ℕ) → array_read block ≡ Err at → vars_read block ≡ Err at → VarsCases block

vars_cases-by : (block : List ℕ) (read : Result (List (List ℕ)) ℕ) → array_read block ≡ read → VarsCases block
vars_cases-by block (Ok texts) e =
    elim (pairs_of_texts-cases texts) [
      | inl paired ↦ even texts paired.0 e paired.1.texts_are (vars_read-even block texts paired.0 e paired.1.pairs_are)
      | inr last ↦ odd texts e last.1.odd (vars_read-odd block texts last.0 e last.1.pairs_are)
    ]
vars_cases-by block (Err at) e = no_array at e (vars_read-no_array block at e)

pub vars_cases : (block : List ℕ) → VarsCases block
vars_cases block = vars_cases-by block (array_read block) refl

abbrev made : List Pair → Result (List Pair) ℕ
made pairs = Ok pairs

made_same : (x y : List Pair) → made x ≡ made y → x ≡ y
made_same x y e = cc

-- what is read from a block is the pairs whose block it is
pub IsVarsBlock-read : (block : List ℕ) (pairs : List Pair) → AreBytes block → vars_read block ≡ Ok pairs → IsVarsBlock block pairs
IsVarsBlock-read block pairs all read =
    elim (vars_cases block) [
      | even texts made read_texts texts_are read_pairs ↦
          let is : IsArrayBlock block texts = IsArrayBlock-read block texts all read_texts in
          let same : texts ≡ texts_of_pairs pairs = texts_are ∙ ap texts_of_pairs (made_same made pairs (sym read_pairs ∙ read)) in
          subst (λ (xs : List (List ℕ)). IsArrayBlock block xs) same is
      | odd texts read_texts is_odd refused ↦ absurd (cc (refused, read))
      | no_array at refused_texts refused ↦ absurd (cc (refused, read))
    ]

-- where pairs are refused, the array breaks at the place, or it is odd and the place is its end
pub vars_read-refused : (block : List ℕ) (at : ℕ) → AreBytes block → vars_read block ≡ Err at → ((texts : List (List ℕ)) × BreaksAt block texts at × (at < length block)) ⊎ ((texts : List (List ℕ)) × IsArrayBlock block texts × (length texts % 2 ≡ 1) × (at ≡ length block))
vars_read-refused block at all read =
    elim (vars_cases block) [
      | even texts made read_texts texts_are read_pairs ↦ absurd (cc (read_pairs, read))
      | odd texts read_texts is_odd refused ↦ inr (texts, IsArrayBlock-read block texts all read_texts, is_odd, cc (refused, read))
      | no_array place refused_texts refused ↦
          let same : place ≡ at = cc (refused, read) in
          inl (BreaksAt-read block at all (refused_texts ∙ ap (λ (n : ℕ). Err n) same))
    ]

-- ---- a written block

and_second : (b c : Bool) → (b && c) ≡ true → c ≡ true
and_second true c e = e
and_second false c e = absurd cc

-- texts whose array is short are short
AreShort-array_of : (texts : List (List ℕ)) → length (array_of texts) < 65536 → AreShort texts
AreShort-array_of [] short = tt
AreShort-array_of (text ∷ texts) short =
    let lengths = length-append (sized text) (array_of texts) in
    (omega arith, AreShort-array_of texts (omega arith))

pub vars_block-is : (pairs : List Pair) (block : List ℕ) → vars_block pairs ≡ Some block → IsVarsBlock block pairs × (length block < 65536)
vars_block-is pairs block e =
    let array = array_of (texts_of_pairs pairs) in
    let c = chosen_some (list_all (λ text. ltb (length text) 65536) (texts_of_pairs pairs) && ltb (length array) 65536) array block e in
    let short : length array < 65536 = ltb-true _ _ (and_second _ _ c.0) in
    (record { short = AreShort-array_of (texts_of_pairs pairs) short; whole = sym c.1 }, rw (← c.1) short)

-- what is written is read as the same pairs
pub vars_block-read : (pairs : List Pair) (block : List ℕ) → vars_block pairs ≡ Some block → IsVarsBlock block pairs × (length block < 65536) × (vars_read block ≡ Ok pairs)
vars_block-read pairs block e =
    let is = vars_block-is pairs block e in
    (is.0, is.1, vars_read-block block pairs is.0)

-- ---- packets

head_same : (a b : Header) → a.m1 ≡ b.m1 → a.size ≡ b.size → a.m2 ≡ b.m2 → a ≡ b
head_same a b m1 size m2 =
    let made : ℕ → ℕ → ℕ → Header = λ x y z. record { m1 = x; size = y; m2 = z } in
    ap (λ (x : ℕ). made x a.size a.m2) m1 ∙ ap (λ (y : ℕ). made b.m1 y a.m2) size ∙ ap (λ (z : ℕ). made b.m1 b.size z) m2

-- two bytes give one size
size_same : (m n : ℕ) → m < 65536 → n < 65536 → byte_at 0 m ≡ byte_at 0 n → byte_at 1 m ≡ byte_at 1 n → m ≡ n
size_same m n a b low high = omega arith

-- bytes begin with one packet at most
pub packet_unique : (bytes : List ℕ) (a b : Header) (block other rest left : List ℕ) → IsPacket bytes a block rest → IsPacket bytes b other left → (a ≡ b) × (block ≡ other) × (rest ≡ left)
packet_unique bytes a b block other rest left first second =
    let same : a.m1 ∷ byte_at 0 a.size ∷ byte_at 1 a.size ∷ a.m2 ∷ (block ++ rest) ≡ b.m1 ∷ byte_at 0 b.size ∷ byte_at 1 b.size ∷ b.m2 ∷ (other ++ left) = sym first.whole ∙ second.whole in
    let m1 : a.m1 ≡ b.m1 = cc in
    let low : byte_at 0 a.size ≡ byte_at 0 b.size = cc in
    let high : byte_at 1 a.size ≡ byte_at 1 b.size = cc in
    let m2 : a.m2 ≡ b.m2 = cc in
    let behind : block ++ rest ≡ other ++ left = cc in
    let size : a.size ≡ b.size = size_same a.size b.size first.fits second.fits low high in
    let count : length other ≡ length block = second.size ∙ sym size ∙ sym first.size in
    let block_same : block ≡ other = sym (take_at block rest (length block) refl) ∙ ap (take (length block)) behind ∙ take_at other left (length block) count in
    let rest_same : rest ≡ left = sym (drop_at block rest (length block) refl) ∙ ap (drop (length block)) behind ∙ drop_at other left (length block) count in
    (head_same a b m1 size m2, block_same, rest_same)
