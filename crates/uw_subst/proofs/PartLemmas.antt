-- The parts of a template, step by step along its text.
use Rattle.std.proofs.Common.{◌≡◌, ℕ, ◌+◌, ◌-◌, ◌<◌, ◌≤◌, Bool, true, false, ◌||◌, List, [], ◌∷◌, ◌++◌, length, take, drop, map, refl, sym, ap, ◌∙◌, arith, Some, Option, if◌then◌else◌}
use Rattle.std.proofs.lemmas.List.{append-nil, append_assoc, drop_all, length-drop, length-take-le}
use Rattle.std.proofs.lemmas.List.Concat.{flat_map-append}
use Rattle.std.proofs.lemmas.List.Elements.{All-push}
use Rattle.std.specs.List.{flat_map, list_any}
use Rattle.uw_base.specs.declared.variables.Pair.{Pair}
use Rattle.uw_subst.specs.Templates.{Piece, plain, fault_of, filled, first_bad, has_form, is_bad_piece, is_filled_piece, piece_len, piece_text, pieces_of}
use Rattle.uw_subst.specs.Parts.{AreParts, IsPartOf, is_filled_part, part_text, span_bytes}
use Rattle.uw_subst.specs.PartSteps.{AreReadUpTo, IsNextPart}
use Rattle.uw_subst.specs.declared.parts.Span.{Span}
use Rattle.uw_subst.specs.declared.parts.Part.{Part}
use Rattle.uw_subst.specs.declared.parts.Part.TheVariants.{Constant}
use Rattle.uw_subst.proofs.PieceLemmas.{ArePlain, pieces_none, plain_forms, plain_good, plain_text}

-- a stretch of bytes that stand for themselves is a constant part
pub constant_part : (text : List ℕ) (at end : ℕ) (span : Span) → at < end → end ≤ length text → span.from ≡ at → span.len ≡ end - at → ArePlain text at end → IsNextPart text at (Constant span) end
unfolding filled has_form
constant_part text at end span later inside from len plain_bytes =
    let bytes = take (end - at) (drop at text) in
    let size : length bytes ≡ end - at = length-take-le (end - at) (drop at text) (omega (arith, length-drop at text)) in
    let place : at + length bytes ≡ end = omega arith in
    let same_span : bytes ≡ span_bytes text span = ap (λ (n : ℕ). take n (drop at text)) (sym len) ∙ ap (λ (n : ℕ). take span.len (drop n text)) (sym from) in
    record {
      same = λ vars captures moment.
          let text_of = piece_text vars captures moment in
          ap (flat_map text_of) plain_bytes.same ∙ flat_map-append text_of (map plain bytes) (pieces_of (drop end text))
          ∙ ap (λ (xs : List ℕ). xs ++ flat_map text_of (pieces_of (drop end text))) (plain_text vars captures moment bytes ∙ same_span);
      forms = ap (list_any is_filled_piece) plain_bytes.same ∙ plain_forms bytes (pieces_of (drop end text));
      good = ap (first_bad at) plain_bytes.same ∙ plain_good at bytes (pieces_of (drop end text)) ∙ ap (λ (n : ℕ). first_bad n (pieces_of (drop end text))) place;
      within = omega arith;
      later = later;
      inside = inside;
    }

good_step : (bad : Bool) (at : ℕ) (x : Option ℕ) → bad ≡ false → (if bad then Some at else x) ≡ x
good_step true at x h = absurd (cc)
good_step false at x h = refl

-- a piece that is no such byte is a part of its own
pub filled_part : (text : List ℕ) (at end : ℕ) (part : Part) (piece : Piece) → pieces_of (drop at text) ≡ piece ∷ pieces_of (drop end text) → at + piece_len piece ≡ end → is_bad_piece piece ≡ false → is_filled_piece piece ≡ is_filled_part part
    → ((vars : List Pair) (captures : List (List ℕ)) (moment : ℕ) → piece_text vars captures moment piece ≡ part_text text vars captures moment part) → IsPartOf text part → at < end → end ≤ length text → IsNextPart text at part end
unfolding filled has_form
filled_part text at end part piece pieces place good_piece filled_in same within later inside = record {
  same = λ vars captures moment.
      ap (flat_map (piece_text vars captures moment)) pieces
      ∙ ap (λ (xs : List ℕ). xs ++ flat_map (piece_text vars captures moment) (pieces_of (drop end text))) (same vars captures moment);
  forms = ap (list_any is_filled_piece) pieces ∙ ap (λ (b : Bool). b || list_any is_filled_piece (pieces_of (drop end text))) filled_in;
  good =
      ap (first_bad at) pieces ∙ good_step (is_bad_piece piece) at (first_bad (at + piece_len piece) (pieces_of (drop end text))) good_piece
      ∙ ap (λ (n : ℕ). first_bad n (pieces_of (drop end text))) place;
  within = within;
  later = later;
  inside = inside;
}

-- a bad piece is the fault of its place
pub bad_piece : (text : List ℕ) (at : ℕ) (piece : Piece) (rest : List Piece) → pieces_of (drop at text) ≡ piece ∷ rest → is_bad_piece piece ≡ true → first_bad at (pieces_of (drop at text)) ≡ Some at
bad_piece text at piece rest pieces bad =
    ap (first_bad at) pieces ∙ ap (λ (b : Bool). if b then Some at else first_bad (at + piece_len piece) rest) bad

-- before the first part
pub read_none : (text : List ℕ) → AreReadUpTo text [] 0
unfolding fault_of
read_none text = record { same = λ vars captures moment. refl; forms = refl; good = refl; within = λ k d below. absurd (omega arith); inside = omega arith }

or_nothing : (b : Bool) → (b || false) ≡ b
or_nothing true = refl
or_nothing false = refl

or_assoc : (a b c : Bool) → ((a || b) || c) ≡ (a || (b || c))
or_assoc true b c = refl
or_assoc false b c = refl

or_push : (ps : List Part) (p : Part) → list_any is_filled_part (ps ++ p ∷ []) ≡ (list_any is_filled_part ps || is_filled_part p)
or_push [] p = or_nothing (is_filled_part p)
or_push (q ∷ ps) p = ap (λ (b : Bool). is_filled_part q || b) (or_push ps p) ∙ sym (or_assoc (is_filled_part q) (list_any is_filled_part ps) (is_filled_part p))

-- one part more
pub read_more : (text : List ℕ) (parts : List Part) (at : ℕ) (part : Part) (end : ℕ) → AreReadUpTo text parts at → IsNextPart text at part end → AreReadUpTo text (parts ++ part ∷ []) end
read_more text parts at part end so_far next = record {
  same = λ vars captures moment.
      let text_of = part_text text vars captures moment in
      ap (λ (xs : List ℕ). xs ++ filled (drop end text) vars captures moment) (flat_map-append text_of parts (part ∷ []))
      ∙ append_assoc (flat_map text_of parts) (text_of part ++ []) (filled (drop end text) vars captures moment)
      ∙ ap (λ (xs : List ℕ). flat_map text_of parts ++ (xs ++ filled (drop end text) vars captures moment)) (append-nil (text_of part))
      ∙ ap (λ (xs : List ℕ). flat_map text_of parts ++ xs) (sym (next.same vars captures moment)) ∙ so_far.same vars captures moment;
  forms =
      ap (λ (b : Bool). b || has_form (drop end text)) (or_push parts part) ∙ or_assoc (list_any is_filled_part parts) (is_filled_part part) (has_form (drop end text))
      ∙ ap (λ (b : Bool). list_any is_filled_part parts || b) (sym next.forms) ∙ so_far.forms;
  good = sym next.good ∙ so_far.good;
  within = All-push (IsPartOf text) parts part so_far.within next.within;
  inside = next.inside;
}

-- behind the last part
pub read_all : (text : List ℕ) (parts : List Part) (at : ℕ) → length text ≤ at → AreReadUpTo text parts at → AreParts text parts
unfolding filled has_form
read_all text parts at past so_far =
    let none : pieces_of (drop at text) ≡ [] = ap pieces_of (drop_all at text past) ∙ pieces_none in
    record {
      same = λ vars captures moment.
          sym (append-nil (flat_map (part_text text vars captures moment) parts))
          ∙ ap (λ (ps : List Piece). flat_map (part_text text vars captures moment) parts ++ flat_map (piece_text vars captures moment) ps) (sym none)
          ∙ so_far.same vars captures moment;
      forms =
          sym (or_nothing (list_any is_filled_part parts)) ∙ ap (λ (ps : List Piece). list_any is_filled_part parts || list_any is_filled_piece ps) (sym none) ∙ so_far.forms;
      good = sym so_far.good ∙ ap (first_bad at) none;
      within = so_far.within;
    }
