-- Templates: texts with captures and forms in them ("InternalRouting"). A text is read from left to right.
use Rattle.std.specs.Prelude.{ℕ, zero, suc, ◌+◌, ◌-◌, ◌==◌, nat_le, Bool, true, false, ◌&&◌, if◌then◌else◌, List, [], ◌∷◌, ◌++◌, length, slice_index_or, Option, None, Some}
use Rattle.std.specs.List.{before_first, flat_map, list_any}
use Rattle.uw_base.specs.declared.variables.Pair.{Pair}
use Rattle.uw_subst.specs.Forms.{form_of, form_text, is_bad_form}

-- a piece of a text: a byte that stands for itself, a capture by its number, a form by the text between its braces, or a `${` that no `}` follows
pub data Piece : Type 0 where
  plain : ℕ → Piece
  capture : ℕ → Piece
  form : List ℕ → Piece
  unclosed : Piece

-- behind `${`: a form up to the next `}` (125)
abbrev pub form_piece : List ℕ → Piece
form_piece text = if list_any (λ byte. byte == 125) text then form (before_first (λ byte. byte == 125) text) else unclosed

-- the piece that a text begins with: `$` (36) and a digit 1 to 9 (49 to 57), `$` and `{` (123), or one byte
abbrev pub first_piece : ℕ → List ℕ → Piece
first_piece first [] = plain first
first_piece first (next ∷ rest) =
    if first == 36 && nat_le 49 next && nat_le next 57 then capture (next - 48)
    else (if first == 36 && next == 123 then form_piece rest else plain first)

-- the bytes of a text that a piece takes
abbrev pub piece_len : Piece → ℕ
piece_len (plain byte) = 1
piece_len (capture number) = 2
piece_len (form text) = length text + 3
piece_len unclosed = 2

-- a piece as it is written
abbrev pub piece_written : Piece → List ℕ
piece_written (plain byte) = byte ∷ []
piece_written (capture number) = 36 ∷ (number + 48) ∷ []
piece_written (form text) = 36 ∷ 123 ∷ text ++ 125 ∷ []
piece_written unclosed = 36 ∷ 123 ∷ []

-- the pieces of a text whose first bytes, so many, belong to the piece before
unfoldable pub pieces_behind : ℕ → List ℕ → List Piece
pieces_behind taken [] = []
pieces_behind zero (first ∷ rest) = first_piece first rest ∷ pieces_behind (piece_len (first_piece first rest) - 1) rest
pieces_behind (suc taken) (first ∷ rest) = pieces_behind taken rest

-- the pieces of a text
abbrev pub pieces_of : List ℕ → List Piece
pieces_of text = pieces_behind 0 text

-- what is filled in for a piece; captures are counted from 1, and one that is not there is the empty text
abbrev pub piece_text : List Pair → List (List ℕ) → ℕ → Piece → List ℕ
piece_text vars captures moment (plain byte) = byte ∷ []
piece_text vars captures moment (capture number) = slice_index_or captures (number - 1) []
piece_text vars captures moment (form text) = form_text vars moment (form_of text)
piece_text vars captures moment unclosed = []

-- the filled text
unfoldable pub filled : List ℕ → List Pair → List (List ℕ) → ℕ → List ℕ
filled text vars captures moment = flat_map (piece_text vars captures moment) (pieces_of text)

-- the piece makes a text no template
abbrev pub is_bad_piece : Piece → Bool
is_bad_piece (plain byte) = false
is_bad_piece (capture number) = false
is_bad_piece (form text) = is_bad_form (form_of text)
is_bad_piece unclosed = true

-- the place of the first bad piece, where the pieces begin at a place
abbrev pub first_bad : ℕ → List Piece → Option ℕ
first_bad at [] = None
first_bad at (piece ∷ pieces) = if is_bad_piece piece then Some at else first_bad (at + piece_len piece) pieces

-- the place of the first `$` that makes a text no template; none where it is one
unfoldable pub fault_of : List ℕ → Option ℕ
fault_of text = first_bad 0 (pieces_of text)

-- the piece is no byte that stands for itself
abbrev pub is_filled_piece : Piece → Bool
is_filled_piece (plain byte) = false
is_filled_piece (capture number) = true
is_filled_piece (form text) = true
is_filled_piece unclosed = true

-- a text has a capture or a form
unfoldable pub has_form : List ℕ → Bool
has_form text = list_any is_filled_piece (pieces_of text)
