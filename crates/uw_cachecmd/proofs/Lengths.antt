-- The length of an array of texts.
use Rattle.std.proofs.Common.{◌≡◌, ℕ, ◌+◌, ◌<◌, ◌≤◌, suc, List, [], ◌∷◌, ◌++◌, Ok, length, take, drop, get_or, arith, sym, ap, ◌∙◌, length-append}
use Rattle.std.proofs.lemmas.List.Folds.{length-flat_map-take}
use Rattle.std.proofs.lemmas.Grind.{flat_map-append}
use Rattle.std.proofs.lemmas.List.{take-append-drop}
use Rattle.uw_packet.specs.BlockReads.{AreBytes}
use Rattle.uw_packet.specs.Blocks.{array_of, array_read, sized}
use Rattle.uw_packet.proofs.BlockLaws.{IsArrayBlock-read}

-- the texts before one, and that one, are no longer than all of them
pub text_fits : (texts : List (List ℕ)) (place : ℕ) (d : List ℕ) → place < length texts
    → length (array_of (take place texts)) + (2 + length (get_or texts place d)) ≤ length (array_of texts)
text_fits texts place d within = omega (arith, length-flat_map-take sized texts place d within)

-- the first texts of an array block are no longer than the block
pub first_texts_fit : (block : List ℕ) (texts : List (List ℕ)) (n : ℕ) → AreBytes block → array_read block ≡ Ok texts → length (array_of (take n texts)) ≤ length block
first_texts_fit block texts n bytes read =
    let whole = (IsArrayBlock-read block texts bytes read).whole in
    let parts : array_of (take n texts) ++ array_of (drop n texts) ≡ array_of texts = sym (flat_map-append sized (take n texts) (drop n texts)) ∙ ap array_of (take-append-drop n texts) in
    omega (arith, ap length whole, ap length parts, length-append (array_of (take n texts)) (array_of (drop n texts)))

-- a slice of bytes has bytes alone
pub are_bytes : (bytes : List ℕ) → ((i : ℕ) → get_or bytes i 0 < 256) → AreBytes bytes
are_bytes [] fits = tt
are_bytes (byte ∷ bytes) fits = (fits 0, are_bytes bytes (λ i. fits (suc i)))
