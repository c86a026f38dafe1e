-- Texts at the front of bytes: how they are read one after the other, and what the texts of a block are.
use Rattle.std.proofs.Common.{◌≡◌, ℕ, zero, suc, ◌+◌, ◌*◌, ◌-◌, ◌<◌, ◌≤◌, Bool, true, false, cond, leb, List, [], ◌∷◌, ◌++◌, length, take, drop, Some, None, Ok, Err, refl, sym, ap, ◌∙◌, append_assoc, arith, length-drop}
use Rattle.std.proofs.lemmas.Bool.{lt-leb}
use Rattle.std.proofs.lemmas.List.{append-nil}
use Rattle.uw_base.specs.declared.variables.Pair.{Pair}
use Rattle.uw_packet.specs.Blocks.{texts_of_pairs, texts_front, array_read, pairs_of_texts, vars_read}
use Rattle.uw_packet.specs.BlockSteps.{first_text}

-- how many bytes the first text has, as its two bytes of length say
abbrev pub text_length : ℕ → ℕ → ℕ
text_length low high = low + 256 * high

-- the texts at the front of bytes, as many as there are, and what is left
unfoldable pub array_front : List ℕ → List (List ℕ) × List ℕ
array_front bytes = texts_front (length bytes) bytes

-- any number of texts that is large enough gives the same
texts_front-same : (m n : ℕ) (bytes : List ℕ) → length bytes ≤ m → length bytes ≤ n → texts_front m bytes ≡ texts_front n bytes
unfolding texts_front
texts_front-same zero zero bytes a b = refl
texts_front-same zero (suc n) [] a b = refl
texts_front-same zero (suc n) (x ∷ bytes) a b = absurd (omega arith)
texts_front-same (suc m) zero [] a b = refl
texts_front-same (suc m) zero (x ∷ bytes) a b = absurd (omega arith)
texts_front-same (suc m) (suc n) [] a b = refl
texts_front-same (suc m) (suc n) (x ∷ []) a b = refl
texts_front-same (suc m) (suc n) (low ∷ high ∷ bytes) a b =
    let rest = drop (text_length low high) bytes in
    let shorter = length-drop (text_length low high) bytes in
    let same = texts_front-same m n rest (omega arith) (omega arith) in
    ap (λ (r : List (List ℕ) × List ℕ). cond (leb (text_length low high) (length bytes)) (take (text_length low high) bytes ∷ r.0, r.1) ([], low ∷ high ∷ bytes)) same

-- an option that is none where a test fails
pub chosen_some : {A : Type 0} (b : Bool) (x y : A) → cond b (Some x) None ≡ Some y → (b ≡ true) × (x ≡ y)
chosen_some true x y e = (refl, cc)
chosen_some false x y e = absurd cc

pub chosen_none : {A : Type 0} (b : Bool) (x : A) → cond b (Some x) None ≡ None → b ≡ false
chosen_none true x e = absurd cc
chosen_none false x e = refl

-- a first text that is whole, and the texts behind it
abbrev behind_text : List ℕ → List (List ℕ) × List ℕ → List (List ℕ) × List ℕ
behind_text text others = (text ∷ others.0, others.1)

first_whole : (whole : Bool) (text bytes : List ℕ) (behind others : List (List ℕ) × List ℕ) → whole ≡ true → behind ≡ others → cond whole (behind_text text behind) ([], bytes) ≡ behind_text text others
first_whole true text bytes behind others e same = ap (behind_text text) same
first_whole false text bytes behind others e same = absurd cc

-- where the first text is whole, it stands before those of the rest
pub array_front-some : (bytes text rest : List ℕ) → first_text bytes ≡ Some (text, rest) → array_front bytes ≡ (text ∷ (array_front rest).0, (array_front rest).1)
unfolding array_front texts_front
array_front-some [] text rest e = absurd cc
array_front-some (a ∷ []) text rest e = absurd cc
array_front-some (low ∷ high ∷ bytes) text rest e =
    let n = text_length low high in
    let c = chosen_some (leb n (length bytes)) (take n bytes, drop n bytes) (text, rest) e in
    let shorter = length-drop n bytes in
    let same : texts_front (suc (length bytes)) (drop n bytes) ≡ array_front (drop n bytes) = texts_front-same (suc (length bytes)) (length (drop n bytes)) (drop n bytes) (omega arith) (omega arith) in
    first_whole (leb n (length bytes)) (take n bytes) (low ∷ high ∷ bytes) (texts_front (suc (length bytes)) (drop n bytes)) (array_front (drop n bytes)) c.0 same
    ∙ ap (λ (p : List ℕ × List ℕ). (p.0 ∷ (array_front p.1).0, (array_front p.1).1)) c.1

-- where it is not, there is none
pub array_front-none : (bytes : List ℕ) → first_text bytes ≡ None → array_front bytes ≡ ([], bytes)
unfolding array_front texts_front
array_front-none [] e = refl
array_front-none (a ∷ []) e = refl
array_front-none (low ∷ high ∷ bytes) e =
    let n = text_length low high in
    let c = chosen_none (leb n (length bytes)) (take n bytes, drop n bytes) e in
    ap (λ (b : Bool). cond b (take n bytes ∷ (texts_front (suc (length bytes)) (drop n bytes)).0, (texts_front (suc (length bytes)) (drop n bytes)).1) ([], low ∷ high ∷ bytes)) c

-- the rest is shorter
pub length-first_text : (bytes text rest : List ℕ) → first_text bytes ≡ Some (text, rest) → length rest < length bytes
length-first_text [] text rest e = absurd cc
length-first_text (a ∷ []) text rest e = absurd cc
length-first_text (low ∷ high ∷ bytes) text rest e =
    let n = text_length low high in
    let c = chosen_some (leb n (length bytes)) (take n bytes, drop n bytes) (text, rest) e in
    let rest_is : drop n bytes ≡ rest = ap (λ (p : List ℕ × List ℕ). p.1) c.1 in
    let shorter = length-drop n bytes in
    rw (← rest_is) (omega arith)

-- ---- a loop over the texts

-- the texts so far, and then those of what is left
pub front_goes_on : (block rest text behind : List ℕ) (texts : List (List ℕ)) → first_text rest ≡ Some (text, behind) → array_front block ≡ (texts ++ (array_front rest).0, (array_front rest).1) → array_front block ≡ ((texts ++ text ∷ []) ++ (array_front behind).0, (array_front behind).1)
front_goes_on block rest text behind texts e so_far =
    so_far
    ∙ ap (λ (r : List (List ℕ) × List ℕ). (texts ++ r.0, r.1)) (array_front-some rest text behind e)
    ∙ ap (λ (front : List (List ℕ)). (front, (array_front behind).1)) (sym (append_assoc texts (text ∷ []) (array_front behind).0))

-- where no further text is whole, they are the texts at the front
pub front_stops : (block rest : List ℕ) (texts : List (List ℕ)) → first_text rest ≡ None → array_front block ≡ (texts ++ (array_front rest).0, (array_front rest).1) → array_front block ≡ (texts, rest)
front_stops block rest texts e so_far =
    so_far
    ∙ ap (λ (r : List (List ℕ) × List ℕ). (texts ++ r.0, r.1)) (array_front-none rest e)
    ∙ ap (λ (front : List (List ℕ)). (front, rest)) (append-nil texts)

-- what is read, by the texts at the front
pub array_read-whole : (block : List ℕ) (texts : List (List ℕ)) → array_front block ≡ (texts, []) → array_read block ≡ Ok texts
unfolding array_front array_read
array_read-whole block texts e =
    ap (λ (r : List (List ℕ) × List ℕ). cond (leb (length r.1) 0) (Ok r.0) (Err (length block - length r.1))) e

pub array_read-broken : (block : List ℕ) (texts : List (List ℕ)) (rest : List ℕ) → array_front block ≡ (texts, rest) → 0 < length rest → array_read block ≡ Err (length block - length rest)
unfolding array_front array_read
array_read-broken block texts rest e more =
    ap (λ (r : List (List ℕ) × List ℕ). cond (leb (length r.1) 0) (Ok r.0) (Err (length block - length r.1))) e
    ∙ ap (λ (b : Bool). cond b (Ok texts) (Err (length block - length rest))) (lt-leb (length rest) 0 more)

-- ---- texts two by two

pub texts_of_pairs-append : (pairs more : List Pair) → texts_of_pairs (pairs ++ more) ≡ texts_of_pairs pairs ++ texts_of_pairs more
texts_of_pairs-append [] more = refl
texts_of_pairs-append (pair ∷ pairs) more = ap (λ (texts : List (List ℕ)). pair.key ∷ pair.value ∷ texts) (texts_of_pairs-append pairs more)

pub pairs_of_texts-whole : (pairs : List Pair) → pairs_of_texts (texts_of_pairs pairs) ≡ Ok pairs
pairs_of_texts-whole [] = refl
pairs_of_texts-whole (pair ∷ pairs) = rw (pairs_of_texts-whole pairs) refl

pub pairs_of_texts-odd : (pairs : List Pair) (key : List ℕ) → pairs_of_texts (texts_of_pairs pairs ++ key ∷ []) ≡ Err key
pairs_of_texts-odd [] key = refl
pairs_of_texts-odd (pair ∷ pairs) key = rw (pairs_of_texts-odd pairs key) refl

-- a key and then a value are one more pair
pub pair_goes_on : (pairs : List Pair) (key value : List ℕ) → (texts_of_pairs pairs ++ key ∷ []) ++ value ∷ [] ≡ texts_of_pairs (pairs ++ record { key = key; value = value } ∷ [])
pair_goes_on pairs key value = append_assoc (texts_of_pairs pairs) (key ∷ []) (value ∷ []) ∙ sym (texts_of_pairs-append pairs (record { key = key; value = value } ∷ []))

-- what is read, by the texts at the front
pub vars_read-whole : (block : List ℕ) (pairs : List Pair) → array_front block ≡ (texts_of_pairs pairs, []) → vars_read block ≡ Ok pairs
vars_read-whole block pairs e = rw (array_read-whole block (texts_of_pairs pairs) e, pairs_of_texts-whole pairs) refl

pub vars_read-broken : (block : List ℕ) (texts : List (List ℕ)) (rest : List ℕ) → array_front block ≡ (texts, rest) → 0 < length rest → vars_read block ≡ Err (length block - length rest)
vars_read-broken block texts rest e more = rw (array_read-broken block texts rest e more) refl

-- where the last text is a key, the block breaks there too, at its end if it is an array
pub vars_read-after_key : (block : List ℕ) (pairs : List Pair) (key rest : List ℕ) → array_front block ≡ (texts_of_pairs pairs ++ key ∷ [], rest) → vars_read block ≡ Err (length block - length rest)
vars_read-after_key block pairs key [] e = rw (array_read-whole block (texts_of_pairs pairs ++ key ∷ []) e, pairs_of_texts-odd pairs key) (ap (λ (at : ℕ). Err at) (omega arith))
vars_read-after_key block pairs key (a ∷ rest) e = vars_read-broken block (texts_of_pairs pairs ++ key ∷ []) (a ∷ rest) e (omega arith)
