-- Texts that are put one behind the other within a room.
use Rattle.std.proofs.Common.{◌≡◌, ℕ, ◌+◌, replicate, ◌<◌, List, ◌++◌, length, get_or, take, refl, sym, ap, ◌∙◌, arith}
use Rattle.std.proofs.lemmas.List.{length-append, length-replicate, take_at, take-take}
use Rattle.std.proofs.lemmas.List.Folds.{length-flat_map-take}
use Rattle.std.specs.List.{flat_map}
use Rattle.base64.specs.Engines.{standard}
use Rattle.base64.specs.GeneralPurpose.{encode_of, encoded_size_of, engine_symbols}
use Rattle.base64.specs.Rfc4648.{encode_symbols, padding_len, unpadded_len}
use Rattle.base64.proofs.RoundTrip.{length-encode_symbols}
use Rattle.uw_subst.specs.FillSteps.{IsFront}

-- where a part is longer than the room, all parts are longer than the limit
pub room_passed : {X : Type 0} (f : X → List ℕ) (xs : List X) (i : ℕ) (d : X) (room : ℕ) → i < length xs → room + length (flat_map f (take i xs)) ≡ 65536 → room < length (f (get_or xs i d)) → 65536 < length (flat_map f xs)
room_passed f xs i d room inside so_far long = omega (arith, length-flat_map-take f xs i d inside)

-- what was there before is still at the front
pub front_more : (old so_far more new : List ℕ) → so_far ≡ old ++ more → IsFront so_far new → IsFront old new
front_more old so_far more new whole front =
    let size = ap length whole ∙ length-append old more in
    sym (take-take (length old) (length so_far) new (omega arith)) ∙ ap (take (length old)) (front ∙ whole) ∙ take_at old more (length old) refl

-- the length of a value in base64
pub encoded_length : (value : List ℕ) → length (encode_of standard value) ≡ encoded_size_of standard (length value)
encoded_length value =
    let symbols = encode_symbols (engine_symbols standard) value in
    let padding = replicate (padding_len (length value)) 61 in
    length-append symbols padding ∙ ap (λ (n : ℕ). n + length padding) (length-encode_symbols (engine_symbols standard) value)
    ∙ ap (λ (n : ℕ). unpadded_len (length value) + n) (length-replicate (padding_len (length value)) 61)
