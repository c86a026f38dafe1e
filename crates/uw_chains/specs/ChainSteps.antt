-- The items of a chain, one after the other.
use Rattle.std.specs.Prelude.{◌≡◌, ℕ, ◌<◌}
use Rattle.uw_words.specs.declared.shape.Shape.{Shape}
use Rattle.uw_words.specs.Walks.{link_of}
use Rattle.uw_words.specs.Records.{HoldsSomeKey}

-- the link of an item that holds a key
abbrev pub IsKeyLink : (ℕ → ℕ) → Shape → ℕ → Type 0
IsKeyLink reader shape link = (item : ℕ) × ((item < shape.n_items) × (link ≡ link_of shape item) × HoldsSomeKey reader shape item)
