-- Word writes one after the other, all of them or as many as a life let through (own rule).
use Rattle.std.specs.Prelude.{◌≡◌, ℕ, ◌<◌, List, [], ◌∷◌, take, length, slice_set, slice_get, Option, None}
use Rattle.std.specs.Prelude.{zero, suc}
use Rattle.uw_outside.specs.Lives.{Spends, IsSpent}
use Rattle.uw_intent.specs.declared.frame.WordWrite.{WordWrite}

-- the words after these writes
abbrev pub words_after : List WordWrite → List ℕ → List ℕ
words_after [] words = words
words_after (write ∷ writes) words = words_after writes (slice_set words write.at write.word)

-- the write of this number, counted from 1
abbrev pub numbered : List WordWrite → ℕ → Option WordWrite
numbered writes zero = None
numbered writes (suc n) = slice_get writes n

-- all of the writes were made, and the life let just so many through
pub record AllMade (writes : List WordWrite) (before now : List ℕ) (told left : Option (List ℕ)) : Type 0 where
  pub words : now ≡ words_after writes before
  pub spent : Spends told left (length writes)

-- only so many of the writes were made, and the life refused the next one
pub record SomeMade (writes : List WordWrite) (before now : List ℕ) (told left : Option (List ℕ)) : Type 0 where
  pub count : ℕ
  pub fewer : count < length writes
  pub words : now ≡ words_after (take count writes) before
  pub spent : Spends told left count
  pub refused : IsSpent left
