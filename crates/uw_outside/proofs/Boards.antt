-- Texts of which one is written.
use Rattle.std.proofs.Common.{◌≡◌, ℕ, ◌<◌, List, [], ◌++◌, length, map, set, get_or, ap, sym, ◌∙◌, arith}
use Rattle.std.proofs.lemmas.List.{map-set, get_or-map, length-map}
use Rattle.std.proofs.Math.Seq.{map-set_same}
use Rattle.uw_outside.specs.BoardSteps.{AppendsAt}

-- one of the values gives way to one whose text is the old one and a piece
pub appends_at : {X : Type 0} (text : X → List ℕ) (xs : List X) (place : ℕ) (old new : X) (piece : List ℕ)
    → place < length xs → old ≡ get_or xs place old → text new ≡ text old ++ piece
    → AppendsAt (map text xs) (map text (set xs place new)) place piece
appends_at text xs place old new piece within at more =
    let before : get_or (map text xs) place [] ≡ text old = get_or-map text xs place old [] within ∙ sym (ap text at) in
    let after : text new ≡ get_or (map text xs) place [] ++ piece =
    more ∙ ap (λ (t : List ℕ). t ++ piece) (sym before) in
    (omega (arith, length-map xs text), map-set text xs place new ∙ ap (set (map text xs) place) after)

-- one of the values gives way to one of the same text
pub stays_at : {X : Type 0} (text : X → List ℕ) (xs : List X) (place : ℕ) (old new : X)
    → old ≡ get_or xs place old → text new ≡ text old → map text (set xs place new) ≡ map text xs
stays_at text xs place old new at same = map-set_same text xs place new old (same ∙ ap text at)
