-- What stands at a place of a template's text: a capture, a form, or a form that is bad.
use Rattle.std.proofs.Common.{◌≡◌, ℕ, ◌+◌, ◌<◌, ◌≤◌, true, false, ◌==◌, List, ◌∷◌, length, get_or, drop, refl, sym, ap, ◌∙◌, arith, Some, None, slice_range}
use Rattle.std.proofs.lemmas.List.{drop-drop, length-drop, take_rest}
use Rattle.std.specs.List.{position, list_any}
use Rattle.uw_subst.specs.Forms.{form_of, form_text, is_bad_form}
use Rattle.uw_subst.specs.Templates.{capture, form, unclosed, first_bad, first_piece, form_piece, piece_len, pieces_of}
use Rattle.uw_subst.specs.PartSteps.{IsFormPart, IsNextPart}
use Rattle.uw_subst.specs.declared.parts.Part.{Part}
use Rattle.uw_subst.specs.declared.parts.Part.TheVariants.{Capture}
use Rattle.uw_subst.proofs.Positions.{first_found, none_found}
use Rattle.uw_subst.proofs.PieceLemmas.{closed_piece, pieces_at, unclosed_piece}
use Rattle.uw_subst.proofs.FormLemmas.{part_of_form, range_front, range_len}
use Rattle.uw_subst.proofs.PartLemmas.{bad_piece, filled_part}

-- a capture
pub capture_part : (text : List ℕ) (at number : ℕ) → at < length text → 2 ≤ length (drop at text) → 1 ≤ number → first_piece (get_or (drop at text) 0 0) (drop 1 (drop at text)) ≡ capture number → IsNextPart text at (Capture number) (at + 2)
capture_part text at number inside two some is =
    filled_part text at (at + 2) (Capture number) (capture number) (pieces_at text at (capture number) inside is) refl refl refl (λ vars captures moment. refl) some (omega arith)
    (omega (arith, length-drop at text))

-- what is behind a `${`
behind : (text : List ℕ) (at : ℕ) → slice_range text (at + 2) (length text) ≡ drop 2 (drop at text)
behind text at = take_rest text (at + 2) ∙ sym (drop-drop 2 at text)

-- a `${` that no `}` follows
pub unclosed_at : (text : List ℕ) (at : ℕ) → 2 ≤ length (drop at text) → first_piece (get_or (drop at text) 0 0) (drop 1 (drop at text)) ≡ form_piece (drop 2 (drop at text)) → None ≡ position (λ byte. byte == 125) (slice_range text (at + 2) (length text)) → first_bad at (pieces_of (drop at text)) ≡ Some at
unclosed_at text at two is lacks =
    let none : list_any (λ byte. byte == 125) (drop 2 (drop at text)) ≡ false = ap (list_any (λ byte. byte == 125)) (sym (behind text at)) ∙ none_found (λ byte. byte == 125) (slice_range text (at + 2) (length text)) lacks in
    bad_piece text at unclosed (pieces_of (drop (at + 2) text)) (pieces_at text at unclosed (omega (arith, length-drop at text)) (is ∙ unclosed_piece (drop 2 (drop at text)) none)) refl

-- a form between its braces
record IsFormAt (text : List ℕ) (at len : ℕ) : Type 0 where
  pieces : pieces_of (drop at text) ≡ form (slice_range text (at + 2) (at + 2 + len)) ∷ pieces_of (drop (at + 2 + len + 1) text)
  place : at + piece_len (form (slice_range text (at + 2) (at + 2 + len))) ≡ at + 2 + len + 1
  inside : at + 2 + len < length text

form_at : (text : List ℕ) (at len : ℕ) → 2 ≤ length (drop at text) → first_piece (get_or (drop at text) 0 0) (drop 1 (drop at text)) ≡ form_piece (drop 2 (drop at text)) → Some len ≡ position (λ byte. byte == 125) (slice_range text (at + 2) (length text)) → IsFormAt text at len
form_at text at len two is found =
    let rest = slice_range text (at + 2) (length text) in
    let size = range_len text (at + 2) (length text) (omega (arith, length-drop at text)) (omega arith) in
    let first = first_found (λ byte. byte == 125) rest len found in
    let within = first.within in
    let name = slice_range text (at + 2) (at + 2 + len) in
    let named : form_piece (drop 2 (drop at text)) ≡ form name = ap form_piece (sym (behind text at)) ∙ closed_piece rest len first ∙ ap form (range_front text (at + 2) len (length text) (omega arith)) in
    let name_size = range_len text (at + 2) (at + 2 + len) (omega arith) (omega arith) in
    let place : at + (length name + 3) ≡ at + 2 + len + 1 = omega arith in
    record {
      pieces = pieces_at text at (form name) (omega (arith, length-drop at text)) (is ∙ named) ∙ ap (λ (n : ℕ). form name ∷ pieces_of (drop n text)) place;
      place = place;
      inside = omega arith;
    }

-- a good one
pub form_part_at : (text : List ℕ) (at len : ℕ) (part : Part) → 2 ≤ length (drop at text) → first_piece (get_or (drop at text) 0 0) (drop 1 (drop at text)) ≡ form_piece (drop 2 (drop at text)) → Some len ≡ position (λ byte. byte == 125) (slice_range text (at + 2) (length text)) → IsFormPart text (form_of (slice_range text (at + 2) (at + 2 + len))) part → IsNextPart text at part (at + 2 + len + 1)
form_part_at text at len part two is found says =
    let here = form_at text at len two is found in
    let name = slice_range text (at + 2) (at + 2 + len) in
    let says_part = part_of_form text part (ap is_bad_form (sym says.same) ∙ says.good) in
    let inside = here.inside in
    filled_part text at (at + 2 + len + 1) part (form name) here.pieces here.place says.good (sym says_part.0)
    (λ vars captures moment. ap (form_text vars moment) says.same ∙ says_part.1 vars captures moment) says.within (omega arith) (omega arith)

-- a bad one
pub bad_form_at : (text : List ℕ) (at len : ℕ) → 2 ≤ length (drop at text) → first_piece (get_or (drop at text) 0 0) (drop 1 (drop at text)) ≡ form_piece (drop 2 (drop at text)) → Some len ≡ position (λ byte. byte == 125) (slice_range text (at + 2) (length text)) → is_bad_form (form_of (slice_range text (at + 2) (at + 2 + len))) ≡ true → first_bad at (pieces_of (drop at text)) ≡ Some at
bad_form_at text at len two is found bad =
    let here = form_at text at len two is found in
    bad_piece text at (form (slice_range text (at + 2) (at + 2 + len))) (pieces_of (drop (at + 2 + len + 1) text)) here.pieces bad
