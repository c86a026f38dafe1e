-- The steps of a fill: one text after the other is put, within the room that is left.
use Rattle.std.specs.Prelude.{◌≡◌, ℕ, ◌+◌, ◌<◌, ◌≤◌, List, ◌++◌, length, take, Option, None, Some, Result, Ok, Err, Bool, true, false}
use Rattle.uw_base.specs.declared.bytes.Memory.{Memory}
use Rattle.uw_subst.specs.Answers.{most_filled}

-- the second text begins with the first
abbrev pub IsFront : List ℕ → List ℕ → Type 0
IsFront front whole = take (length front) whole ≡ front

-- a text was put behind another within the room, and so much room is left; or the text is longer than the room; or there was no memory
abbrev pub PutsWithin : ℕ → List ℕ → List ℕ → List ℕ → Result (Option ℕ) Memory → Type 0
PutsWithin room old new text (Ok (Some left)) = (new ≡ old ++ text) × (left + length text ≡ room)
PutsWithin room old new text (Ok None) = (room < length text) × IsFront old new
PutsWithin room old new text (Err memory) = IsFront old new

-- a text was put behind another; or the text is longer than the limit; or there was no memory
abbrev pub PutsAll : List ℕ → List ℕ → List ℕ → Result Bool Memory → Type 0
PutsAll old new text (Ok true) = (new ≡ old ++ text) × (length text ≤ most_filled)
PutsAll old new text (Ok false) = (most_filled < length text) × IsFront old new
PutsAll old new text (Err memory) = IsFront old new
