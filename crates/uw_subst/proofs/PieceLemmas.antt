-- The pieces of a text, one behind the other.
use Rattle.std.proofs.Common.{◌≡◌, ℕ, zero, suc, ◌+◌, ◌-◌, ◌<◌, ◌≤◌, Bool, true, false, ◌&&◌, if◌then◌else◌, List, [], ◌∷◌, ◌++◌, length, get_or, take, drop, map, refl, sym, ap, ◌∙◌, arith, nat_le, ◌==◌, eqb-true, subst, Option, Some}
use Rattle.std.proofs.lemmas.Bool.Decides.{nat_tests}
use Rattle.std.proofs.lemmas.List.{append_assoc, drop-drop, drop_more, get_or-drop, length-drop, length-take-le, take_more}
use Rattle.std.proofs.lemmas.List.Sums.{passes_at_first, split_at_first}
use Rattle.std.specs.List.{before_first, flat_map, list_any, position_or_len}
use Rattle.uw_base.specs.declared.variables.Pair.{Pair}
use Rattle.uw_subst.proofs.Positions.{IsFirst, list_any_place}
use Rattle.uw_subst.specs.Templates.{Piece, plain, capture, form, unclosed, fault_of, filled, first_bad, has_form, first_piece, form_piece, is_bad_piece, is_filled_piece, piece_len, piece_text, piece_written, pieces_behind, pieces_of}

-- bytes that belong to the piece before are passed over
pieces_skip : (taken : ℕ) (text : List ℕ) → pieces_behind taken text ≡ pieces_of (drop taken text)
unfolding pieces_behind
pieces_skip zero text = refl
pieces_skip (suc taken) [] = refl
pieces_skip (suc taken) (byte ∷ text) = pieces_skip taken text

pub pieces_none : pieces_of [] ≡ []
unfolding pieces_behind
pieces_none = refl

pieces_first : (first : ℕ) (rest : List ℕ) → pieces_of (first ∷ rest) ≡ first_piece first rest ∷ pieces_behind (piece_len (first_piece first rest) - 1) rest
unfolding pieces_behind
pieces_first first rest = refl

piece_len_some : (piece : Piece) → 1 ≤ piece_len piece
piece_len_some (plain byte) = omega arith
piece_len_some (capture number) = omega arith
piece_len_some (form text) = omega arith
piece_len_some unclosed = omega arith

drop_first : (n first : ℕ) (rest : List ℕ) → 1 ≤ n → drop n (first ∷ rest) ≡ drop (n - 1) rest
drop_first zero first rest h = absurd (omega arith)
drop_first (suc n) first rest h = let one : suc n - 1 ≡ n = omega arith in ap (λ (m : ℕ). drop m rest) (sym one)

-- a text is its first piece, and the pieces behind that
pub pieces_start : (text : List ℕ) (piece : Piece) → 1 ≤ length text → first_piece (get_or text 0 0) (drop 1 text) ≡ piece → pieces_of text ≡ piece ∷ pieces_of (drop (piece_len piece) text)
pieces_start [] piece some is = absurd (omega arith)
pieces_start (first ∷ rest) piece some is =
    pieces_first first rest ∙ ap (λ (p : Piece). p ∷ pieces_behind (piece_len p - 1) rest) is
    ∙ ap (λ (ps : List Piece). piece ∷ ps) (pieces_skip (piece_len piece - 1) rest ∙ ap pieces_of (sym (drop_first (piece_len piece) first rest (piece_len_some piece))))

-- the same at a place of a text
pub pieces_at : (text : List ℕ) (at : ℕ) (piece : Piece) → at < length text → first_piece (get_or (drop at text) 0 0) (drop 1 (drop at text)) ≡ piece → pieces_of (drop at text) ≡ piece ∷ pieces_of (drop (at + piece_len piece) text)
pieces_at text at piece inside is =
    pieces_start (drop at text) piece (omega (arith, length-drop at text)) is
    ∙ ap (λ (left : List ℕ). piece ∷ pieces_of left) (drop-drop (piece_len piece) at text)

-- bytes that stand for themselves, from a place up to another
pub record ArePlain (text : List ℕ) (at end : ℕ) : Type 0 where
  pub same : pieces_of (drop at text) ≡ map plain (take (end - at) (drop at text)) ++ pieces_of (drop end text)

pub plain_none : (text : List ℕ) (at : ℕ) → ArePlain text at at
plain_none text at = let none : at - at ≡ 0 = omega arith in record { same = ap (λ (n : ℕ). map plain (take n (drop at text)) ++ pieces_of (drop at text)) (sym none) }

map_push : (xs : List ℕ) (x : ℕ) (ps : List Piece) → map plain xs ++ (plain x ∷ ps) ≡ map plain (xs ++ x ∷ []) ++ ps
map_push [] x ps = refl
map_push (y ∷ ys) x ps = ap (λ (qs : List Piece). plain y ∷ qs) (map_push ys x ps)

pub plain_more : (text : List ℕ) (at place : ℕ) → at ≤ place → place < length text → first_piece (get_or (drop place text) 0 0) (drop 1 (drop place text)) ≡ plain (get_or (drop place text) 0 0) → ArePlain text at place → ArePlain text at (place + 1)
plain_more text at place after inside is so_far =
    let byte = get_or (drop place text) 0 0 in
    let next : place + 1 - at ≡ place - at + 1 = omega arith in
    let there : get_or (drop at text) (place - at) 0 ≡ byte = same_byte in
    record {
      same =
          so_far.same
          ∙ ap (λ (ps : List Piece). map plain (take (place - at) (drop at text)) ++ ps) (pieces_at text place (plain byte) inside is)
          ∙ map_push (take (place - at) (drop at text)) byte (pieces_of (drop (place + 1) text))
          ∙ ap (λ (b : ℕ). map plain (take (place - at) (drop at text) ++ b ∷ []) ++ pieces_of (drop (place + 1) text)) (sym there)
          ∙ ap (λ (xs : List ℕ). map plain xs ++ pieces_of (drop (place + 1) text)) (sym (take_more (drop at text) (place - at) 0 (omega (arith, length-drop at text))))
          ∙ ap (λ (n : ℕ). map plain (take n (drop at text)) ++ pieces_of (drop (place + 1) text)) (sym next);
    }
  where
    same_byte : get_or (drop at text) (place - at) 0 ≡ get_or (drop place text) 0 0
    same_byte =
        let left = get_or-drop at text (place - at) 0 in
        let right = get_or-drop place text 0 0 in
        let here : at + (place - at) ≡ place + 0 = omega arith in
        left ∙ ap (λ (n : ℕ). get_or text n 0) here ∙ sym right

-- a byte that stands for itself, and such bytes behind it
pub plain_front : (text : List ℕ) (at end : ℕ) → at < length text → at + 1 ≤ end → first_piece (get_or (drop at text) 0 0) (drop 1 (drop at text)) ≡ plain (get_or (drop at text) 0 0) → ArePlain text (at + 1) end → ArePlain text at end
plain_front text at end inside after is behind =
    let one : end - at ≡ suc (end - (at + 1)) = omega arith in
    let more = drop_more text at 0 inside in
    record {
      same =
          pieces_at text at (plain (get_or (drop at text) 0 0)) inside is
          ∙ ap (λ (ps : List Piece). plain (get_or (drop at text) 0 0) ∷ ps) behind.same
          ∙ ap (λ (b : ℕ). map plain (b ∷ take (end - (at + 1)) (drop (at + 1) text)) ++ pieces_of (drop end text)) first_byte
          ∙ ap (λ (xs : List ℕ). map plain (take (suc (end - (at + 1))) xs) ++ pieces_of (drop end text)) (sym more)
          ∙ ap (λ (n : ℕ). map plain (take n (drop at text)) ++ pieces_of (drop end text)) (sym one);
    }
  where
    first_byte : get_or (drop at text) 0 0 ≡ get_or text at 0
    first_byte = let here : at + 0 ≡ at = omega arith in get_or-drop at text 0 0 ∙ ap (λ (n : ℕ). get_or text n 0) here

-- what bytes that stand for themselves come to
pub plain_text : (vars : List Pair) (captures : List (List ℕ)) (moment : ℕ) (xs : List ℕ) → flat_map (piece_text vars captures moment) (map plain xs) ≡ xs
plain_text vars captures moment [] = refl
plain_text vars captures moment (x ∷ xs) = ap (λ (ys : List ℕ). x ∷ ys) (plain_text vars captures moment xs)

pub plain_forms : (xs : List ℕ) (ps : List Piece) → list_any is_filled_piece (map plain xs ++ ps) ≡ list_any is_filled_piece ps
plain_forms [] ps = refl
plain_forms (x ∷ xs) ps = plain_forms xs ps

pub plain_good : (at : ℕ) (xs : List ℕ) (ps : List Piece) → first_bad at (map plain xs ++ ps) ≡ first_bad (at + length xs) ps
plain_good at [] ps = let same : at ≡ at + 0 = omega arith in ap (λ (n : ℕ). first_bad n ps) same
plain_good at (x ∷ xs) ps = let next : at + 1 + length xs ≡ at + suc (length xs) = omega arith in plain_good (at + 1) xs ps ∙ ap (λ (n : ℕ). first_bad n ps) next

-- the first piece as it is written, and what is behind it
closed_written : (text : List ℕ) → position_or_len (λ byte. byte == 125) text < length text → before_first (λ byte. byte == 125) text ++ 125 ∷ drop (length (before_first (λ byte. byte == 125) text) + 1) text ≡ text
closed_written text h =
    let p : ℕ → Bool = λ byte. byte == 125 in
    let i = position_or_len p text in
    let size : length (take i text) ≡ i = length-take-le i text (omega arith) in
    let passes : (get_or text i 0 == 125) ≡ true = passes_at_first p text 0 h in
    let brace : get_or text i 0 ≡ 125 = eqb-true _ _ passes in
    ap (λ (n : ℕ). take i text ++ 125 ∷ drop (n + 1) text) size
    ∙ ap (λ (byte : ℕ). take i text ++ byte ∷ drop (i + 1) text) (sym brace) ∙ sym (split_at_first p text 0 h)

form_written : (closed : Bool) (text : List ℕ) → list_any (λ byte. byte == 125) text ≡ closed
    → let piece = if closed then form (before_first (λ byte. byte == 125) text) else unclosed in piece_written piece ++ drop (piece_len piece - 1) (123 ∷ text) ≡ 36 ∷ 123 ∷ text
form_written true text h =
    let name = before_first (λ byte. byte == 125) text in
    let some : position_or_len (λ byte. byte == 125) text < length text = list_any_place (λ byte. byte == 125) text h in
    let size : length name + 3 - 1 ≡ suc (length name + 1) = omega arith in
    ap (λ (n : ℕ). (36 ∷ 123 ∷ name ++ 125 ∷ []) ++ drop n (123 ∷ text)) size
    ∙ ap (λ (rest : List ℕ). 36 ∷ 123 ∷ rest) (append_assoc name (125 ∷ []) (drop (length name + 1) text) ∙ closed_written text some)
form_written false text h = refl

front_case : (is_capture is_form : Bool) (first next : ℕ) (rest : List ℕ) → (first == 36 && nat_le 49 next && nat_le next 57) ≡ is_capture → (first == 36 && next == 123) ≡ is_form
    → let piece = if is_capture then capture (next - 48) else (if is_form then form_piece rest else plain first) in piece_written piece ++ drop (piece_len piece - 1) (next ∷ rest) ≡ first ∷ next ∷ rest
front_case true is_form first next rest h k =
    let dollar : first ≡ 36 = grind (arith, nat_tests) in
    let digit : next - 48 + 48 ≡ next = grind (arith, nat_tests) in
    ap (λ (d : ℕ). 36 ∷ d ∷ rest) digit ∙ ap (λ (b : ℕ). b ∷ next ∷ rest) (sym dollar)
front_case false true first next rest h k =
    let dollar : first ≡ 36 = grind (arith, nat_tests) in
    let brace : next ≡ 123 = grind (arith, nat_tests) in
    let piece = form_piece rest in
    ap (λ (b : ℕ). piece_written piece ++ drop (piece_len piece - 1) (b ∷ rest)) brace
    ∙ form_written (list_any (λ byte. byte == 125) rest) rest refl ∙ ap (λ (b : ℕ). b ∷ 123 ∷ rest) (sym dollar) ∙ ap (λ (b : ℕ). first ∷ b ∷ rest) (sym brace)
front_case false false first next rest h k = refl

front_written : (first : ℕ) (rest : List ℕ) → piece_written (first_piece first rest) ++ drop (piece_len (first_piece first rest) - 1) rest ≡ first ∷ rest
front_written first [] = refl
front_written first (next ∷ rest) =
    front_case (first == 36 && nat_le 49 next && nat_le next 57) (first == 36 && next == 123) first next rest refl refl

-- the pieces of a text, as they are written, are the text
behind_written : (taken : ℕ) (text : List ℕ) → flat_map piece_written (pieces_behind taken text) ≡ drop taken text
unfolding pieces_behind
behind_written zero [] = refl
behind_written (suc taken) [] = refl
behind_written zero (first ∷ rest) =
    ap (λ (xs : List ℕ). piece_written (first_piece first rest) ++ xs) (behind_written (piece_len (first_piece first rest) - 1) rest) ∙ front_written first rest
behind_written (suc taken) (first ∷ rest) = behind_written taken rest

pub pieces_written : (text : List ℕ) → flat_map piece_written (pieces_of text) ≡ text
pieces_written text = behind_written 0 text

-- pieces that all stand for themselves
pub plain_pieces : (vars : List Pair) (captures : List (List ℕ)) (moment : ℕ) (pieces : List Piece) → list_any is_filled_piece pieces ≡ false → flat_map (piece_text vars captures moment) pieces ≡ flat_map piece_written pieces
plain_pieces vars captures moment [] h = refl
plain_pieces vars captures moment (plain byte ∷ pieces) h = ap (λ (xs : List ℕ). byte ∷ xs) (plain_pieces vars captures moment pieces h)
plain_pieces vars captures moment (capture number ∷ pieces) h = absurd (cc)
plain_pieces vars captures moment (form text ∷ pieces) h = absurd (cc)
plain_pieces vars captures moment (unclosed ∷ pieces) h = absurd (cc)

-- a text without captures and forms is filled with itself
pub fixed_text : (text : List ℕ) (vars : List Pair) (captures : List (List ℕ)) (moment : ℕ) → has_form text ≡ false → filled text vars captures moment ≡ text
unfolding filled has_form
fixed_text text vars captures moment h = plain_pieces vars captures moment (pieces_of text) h ∙ pieces_written text

-- a `${` that no `}` follows, and one with a `}`
pub unclosed_piece : (text : List ℕ) → list_any (λ byte. byte == 125) text ≡ false → form_piece text ≡ unclosed
unclosed_piece text h = ap (λ (b : Bool). if b then form (before_first (λ byte. byte == 125) text) else unclosed) h

pub closed_piece : (text : List ℕ) (i : ℕ) → IsFirst (λ byte. byte == 125) text i → form_piece text ≡ form (take i text)
closed_piece text i h =
    ap (λ (b : Bool). if b then form (before_first (λ byte. byte == 125) text) else unclosed) h.some ∙ ap (λ (n : ℕ). form (take n text)) h.place

-- a bad piece begins with `${`
bad_case : (is_capture is_form : Bool) (first next : ℕ) (rest : List ℕ) → (first == 36 && next == 123) ≡ is_form → is_bad_piece (if is_capture then capture (next - 48) else (if is_form then form_piece rest else plain first)) ≡ true → (first ≡ 36) × (next ≡ 123)
bad_case true is_form first next rest h bad = absurd (cc)
bad_case false true first next rest h bad = (grind (arith, nat_tests), grind (arith, nat_tests))
bad_case false false first next rest h bad = absurd (cc)

bad_first : (first : ℕ) (rest : List ℕ) → is_bad_piece (first_piece first rest) ≡ true → (first ≡ 36) × (get_or rest 0 0 ≡ 123)
bad_first first [] bad = absurd (cc)
bad_first first (next ∷ rest) bad = bad_case (first == 36 && nat_le 49 next && nat_le next 57) (first == 36 && next == 123) first next rest refl bad

-- a `${` stands so many bytes behind a place
record IsFormBehind (text : List ℕ) (base at : ℕ) : Type 0 where
  behind : ℕ
  place : at ≡ base + behind
  dollar : get_or text behind 0 ≡ 36
  brace : get_or text (behind + 1) 0 ≡ 123

form_further : (text : List ℕ) (n base at : ℕ) → IsFormBehind (drop n text) (base + n) at → IsFormBehind text base at
form_further text n base at h =
    let next : n + (h.behind + 1) ≡ n + h.behind + 1 = omega arith in
    record {
      behind = n + h.behind;
      place = omega (arith, h.place);
      dollar = sym (get_or-drop n text h.behind 0) ∙ h.dollar;
      brace = ap (λ (k : ℕ). get_or text k 0) (sym next) ∙ sym (get_or-drop n text (h.behind + 1) 0) ∙ h.brace;
    }

same_place : (a b : ℕ) → Some a ≡ Some b → a ≡ b
same_place a b h = cc

bad_here : (bad : Bool) (first base at : ℕ) (rest : List ℕ) (later : Option ℕ) → is_bad_piece (first_piece first rest) ≡ bad → (if bad then Some base else later) ≡ Some at
    → (later ≡ Some at → IsFormBehind (first ∷ rest) base at) → IsFormBehind (first ∷ rest) base at
bad_here true first base at rest later bad found further =
    let start = bad_first first rest bad in
    let place = same_place base at found in
    record { behind = 0; place = omega arith; dollar = start.0; brace = start.1 }
bad_here false first base at rest later bad found further = further found

fault_behind : (taken : ℕ) (text : List ℕ) (base at : ℕ) → first_bad base (pieces_behind taken text) ≡ Some at → IsFormBehind (drop taken text) base at
unfolding pieces_behind
fault_behind zero [] base at h = absurd (cc)
fault_behind (suc taken) [] base at h = absurd (cc)
fault_behind zero (first ∷ rest) base at h =
    let piece = first_piece first rest in
    let some = piece_len_some piece in
    bad_here (is_bad_piece piece) first base at rest (first_bad (base + piece_len piece) (pieces_behind (piece_len piece - 1) rest)) refl h
    (λ found. form_further (first ∷ rest) (piece_len piece) base at
    (subst (λ (left : List ℕ). IsFormBehind left (base + piece_len piece) at) (sym (drop_first (piece_len piece) first rest some)) (fault_behind (piece_len piece - 1) rest (base + piece_len piece) at found)))
fault_behind (suc taken) (first ∷ rest) base at h = fault_behind taken rest base at h

pub fault_is_form : (text : List ℕ) (at : ℕ) → fault_of text ≡ Some at → (get_or text at 0 ≡ 36) × (get_or text (at + 1) 0 ≡ 123)
unfolding fault_of
fault_is_form text at h =
    let found = fault_behind 0 text 0 at h in
    let place : found.behind ≡ at = omega (arith, found.place) in
    (ap (λ (n : ℕ). get_or text n 0) (sym place) ∙ found.dollar, ap (λ (n : ℕ). get_or text (n + 1) 0) (sym place) ∙ found.brace)
